use Rattle.closure.proofs.Walk.{Walk, unlooked}
use Rattle.closure.proofs.reached.Given as goal

abbrev pub invariant-loop-k : goal.invariant-loop-k
invariant-loop-k l = Walk l.rows l.t l.all l.left

abbrev pub decreases-loop-k : goal.decreases-loop-k
decreases-loop-k l = unlooked l.all l.left
