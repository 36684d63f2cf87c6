-- The loop keeps that what is moved and what the members left are still to move is what all move, and so with the
-- functions and with who lacks tokens.
use Prim.Native.Nat.{◌+◌}
use native.Mathlib.Omega.{arith}
use Rattle.marking.proofs.Tallying.{both_halves, put_room, one_tallied}
use Rattle.marking.proofs.tally.Goals as goal

pub take-requires-in-loop-u : goal.take-requires-in-loop-u
take-requires-in-loop-u c =
    let pre = c.requires in
    let at = c.loop-u in
    let k = c.in-Some.ensures.steps in
    record {
      half = omega arith;
      transition = k.low;
      weights_there =
          λ p h e. pre.weights_there c.in-Some.u (64 + p) (at.invariant.within _ k.member) (omega arith)
          (grind (arith, e, pre.takes_high_is c.in-Some.u p k.low h));
      room =
          λ p h. omega (
            arith,
            c.take.ensures.behind (64 + p) (omega arith),
            at.invariant.taken_low (64 + p) (omega arith),
          );
    }

pub give-requires : goal.give-requires
give-requires c =
    let pre = c.requires in
    let at = c.loop-u in
    let k = c.in-Some.ensures.steps in
    record {
      chains = pre.chains;
      begins = pre.begins c.in-Some.u (at.invariant.within _ k.member);
      room = λ p h. omega (arith, put_room at.invariant k p h, pre.put_low p h);
    }

pub loop-u-preserved : goal.loop-u-preserved
loop-u-preserved c =
    let pre = c.requires in
    let k = c.in-Some.ensures.steps in
    one_tallied c.loop-u.invariant k
    (both_halves (λ p h. pre.takes_low_is c.in-Some.u p k.low h)
    (λ p h. grind (arith, pre.takes_high_is c.in-Some.u p k.low h))
    c.take.ensures c.take-in-loop-u.ensures)
    c.give.ensures
    c.union-functions.ensures
    (λ j. grind (arith, c.union-lack-in-loop-u.ensures j, c.union-lack.ensures j))
