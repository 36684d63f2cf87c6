use mathlib.Core.Bool.{false}
use mathlib.Core.Path.{◌≡◌}
use Prim.Native.Nat.{ℕ}
use Rattle.meaning.specs.Below.{some}
use Rattle.meaning.specs.Bytes.{bit}
use Rattle.named.specs.Named.{arc_bit, lost_place}
use Rattle.named.proofs.walk.Given as goal

abbrev pub invariant-loop-p : goal.invariant-loop-p
invariant-loop-p l =
    (some l.p (lost_place l.rows l.k) ≡ false) × ((t : ℕ) → bit l.arced t ≡ some l.p (λ q. arc_bit l.rows q t))
