-- A turn takes the lowest member, which is below 64, and leaves the others, so that the set falls.
use mathlib.Core.Bool.{true, not, ◌&&◌}
use mathlib.Core.Path.{◌≡◌, refl, sym}
use Prim.Native.Nat.{ℕ, ◌^◌, ◌<◌}
use native.Mathlib.Omega.{arith}
use lib.Dec.{eqb}
use Rattle.meaning.specs.Below.{first}
use Rattle.meaning.specs.Bytes.{bit}
use native.Mathlib.Omega.{arith}
use Rattle.sets.specs.Walk.{Taken}
use Rattle.meaning.proofs.Below.{first_passes}
use Rattle.sets.proofs.Taking.{none_in, falls, without}
use Rattle.sets.proofs.EachIterator.next.Goals as goal

-- The member that is taken is in the set, and what is left without it is a smaller number.
turns : (s k after : ℕ) → s < 2 ^ 64 → after < 2 ^ 64 → (k < 64) × (first 64 (bit s) ≡ k)
    → ((j : ℕ) → bit after j ≡ (bit s j && not (eqb (first 64 (bit s)) j))) → Taken s k after
turns s k after h l low others =
    let less = without s k after (sym low.1) others in
    let here : bit s k ≡ true = rw (← low.1) (first_passes 64 (bit s) (rw low.1 low.0)) in
    record {
      low = low.0;
      member = here;
      lowest = sym low.1;
      less = less;
      falls = falls s k after less h l here;
    }

pub returns-clause-steps : goal.returns-clause-steps
returns-clause-steps c =
    turns c.args.self.now.left _ c.rest-self.result (omega arith) (omega arith) c.in_ok-k.ensures c.rest-self.ensures

pub returns-clause-goes : goal.returns-clause-goes
returns-clause-goes c =
    let taken =
    turns c.args.self.now.left _ c.rest-self.result (omega arith) (omega arith) c.in_ok-k.ensures c.rest-self.ensures
    in
    record { on = λ _. (tt, tt, taken.falls); keeps = tt; rests = λ _. tt }

pub returns-in_err-k-clause-steps : goal.returns-in_err-k-clause-steps
returns-in_err-k-clause-steps c =
    rw c.from_residual.ensures (none_in c.args.self.now.left (omega arith) c.in_err-k.ensures, refl)
