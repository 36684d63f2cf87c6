use mathlib.Core.Path.{◌≡◌}
use Prim.Native.Nat.{ℕ}
use lib.ListN.{get_or}
use Rattle.meaning.specs.Below.{some}
use Rattle.meaning.specs.Bytes.{bit}
use Rattle.levels.proofs.gather.Given as goal

abbrev pub invariant-loop-p : goal.invariant-loop-p
invariant-loop-p l =
    ((t : ℕ) → bit l.held t ≡ some l.p (λ q. bit (get_or l.kept.held q 0) t))
    × ((k : ℕ) → bit l.actions k ≡ some l.p (λ q. bit (get_or l.kept.active q 0) k))
