-- The sweep, the tending and the clearing do their parts; a place is full only if all bits of the new tokens together
-- are more than 65,535.
use native.Mathlib.Omega.{arith}
use Rattle.std.proofs.lemmas.Bool.Decides.{nat_tests}
use Rattle.marking.proofs.Settling.{tokens_are, none_full, levels_hold, starves}
use Rattle.marking.proofs.settle.Goals as goal
use Rattle.marking.proofs.settle.Goals.{then-sweep-gt65535, else-sweep-gt65535}

pub returns : goal.returns
returns c =
    let pre = c.requires in
    let swept = c.sweep.ensures in
    let cleared = c.clear.ensures in
    record {
      tokens_are = tokens_are pre swept;
      no_taken = λ p h. grind (arith, nat_tests, cleared.no_taken p, pre.none_taken p);
      no_put = λ p h. grind (arith, nat_tests, cleared.no_put p, pre.none_put p);
      full_is =
          elim c.if-sweep-gt65535.branch [
            | then-sweep-gt65535 w ↦ rw w.full-is w.first_full-full.ensures
            | else-sweep-gt65535 w ↦ rw w.full-is (none_full pre swept w.if-sweep-gt65535.false)
          ];
      levels_hold = levels_hold pre swept c.tend.ensures;
      starved_are = λ t. starves pre swept c.tend.ensures t (c.union-starved.ensures t);
    }
