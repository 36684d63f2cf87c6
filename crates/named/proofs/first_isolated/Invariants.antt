use mathlib.Core.Bool.{false}
use mathlib.Core.Path.{◌≡◌}
use Prim.Native.Nat.{ℕ, ◌<◌}
use Rattle.meaning.specs.Below.{some}
use Rattle.meaning.specs.Bytes.{bit}
use Rattle.named.specs.Named.{arc_bit, isolated_in}
use Rattle.named.proofs.first_isolated.Given as goal

abbrev pub invariant-loop-p : goal.invariant-loop-p
invariant-loop-p l =
    ((j : ℕ) → j < l.p → isolated_in l.rows l.k j ≡ false)
    × ((t : ℕ) → bit l.arced t ≡ some l.p (λ q. arc_bit l.rows q t))
