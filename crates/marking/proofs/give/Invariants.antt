use Rattle.marking.proofs.Giving.{Giving}
use Rattle.marking.proofs.give.Given as goal

abbrev pub invariant-loop-k : goal.invariant-loop-k
invariant-loop-k l = Giving l.first l.posts l.initial.put l.put l.link

abbrev pub decreases-loop-k : goal.decreases-loop-k
decreases-loop-k l = l.link
