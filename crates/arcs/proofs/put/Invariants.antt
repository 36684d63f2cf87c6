use mathlib.Core.Bool.{◌&&◌, ◌||◌}
use mathlib.Core.Path.{◌≡◌}
use Prim.Native.Nat.{ℕ, ◌+◌, ◌*◌, ◌<◌}
use lib.Dec.{eqb}
use lib.ListN.{length, get_or}
use Rattle.meaning.specs.Bytes.{bit}
use Rattle.arcs.proofs.put.Given as goal

abbrev pub invariant-loop-t : goal.invariant-loop-t
invariant-loop-t l =
    (length l.arcs ≡ 320)
    × ((t c j : ℕ) → c < 5
    → (bit (get_or l.arcs (5 * t + c) 0) j || ((eqb c l.k && bit l.t-iterator.left t) && bit l.what j))
    ≡ (bit (get_or l.initial.arcs (5 * t + c) 0) j || ((eqb c l.k && bit l.to t) && bit l.what j)))
