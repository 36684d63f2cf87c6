use mathlib.Core.Bool.{◌||◌}
use mathlib.Core.Path.{◌≡◌}
use Prim.Native.Nat.{ℕ}
use Rattle.meaning.specs.Below.{some}
use Rattle.meaning.specs.Bytes.{bit}
use Rattle.named.specs.Named.{arc_bit, named_by}
use Rattle.named.proofs.any_unknown.Given as goal

abbrev pub invariant-loop-t : goal.invariant-loop-t
invariant-loop-t l =
    (j : ℕ) → bit l.named j ≡ (some l.n (λ p. arc_bit l.rows p j) || some l.t (named_by l.rows j))
