-- A place that has left the word does not stop t, so whether some place does is still to be found in the rest. What
-- members of g take from a place is what those of them weigh that take from it.
use Prim.Native.Nat.{◌+◌}
use native.Mathlib.Omega.{arith}
use Rattle.rows.specs.Rows.{takers, cell}
use Rattle.firing.proofs.Words.{searched_on, answered}
use Rattle.firing.proofs.Sums.{over_both}
use Rattle.firing.proofs.stopped_in.Goals as goal

pub returns-then-stops : goal.returns-then-stops
returns-then-stops c =
    let net = c.args.net.now in
    let p = c.args.from + c.in-Some.k in
    answered c.loop-k.invariant c.in-Some.ensures.steps
    (grind (arith, over_both c.args.g (takers net.rows.now p) (cell net.weights.now p)))

pub loop-k-preserved-else-stops : goal.loop-k-preserved-else-stops
loop-k-preserved-else-stops c =
    let net = c.args.net.now in
    let p = c.args.from + c.in-Some.k in
    searched_on c.loop-k.invariant c.in-Some.ensures.steps
    (grind (arith, over_both c.args.g (takers net.rows.now p) (cell net.weights.now p)))

pub loop-k-preserved : goal.loop-k-preserved
loop-k-preserved c = searched_on c.loop-k.invariant c.in-Some.ensures.steps (grind arith)
