use mathlib.Core.Bool.{◌&&◌, ◌||◌}
use mathlib.Core.Path.{◌≡◌}
use Prim.Native.Nat.{ℕ}
use Rattle.meaning.specs.Bytes.{bit}
use Rattle.levels.specs.Levels.{lacks_of}
use Rattle.levels.proofs.lacking.Given as goal

abbrev pub invariant-loop-t : goal.invariant-loop-t
invariant-loop-t l =
    (t : ℕ) → (bit l.lacks t || (bit l.t-iterator.left t && lacks_of l.w l.s l.tokens t))
    ≡ (bit l.arcs t && lacks_of l.w l.s l.tokens t)
