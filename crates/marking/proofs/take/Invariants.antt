use Rattle.marking.proofs.Taking.{Taking}
use Rattle.marking.proofs.take.Given as goal

abbrev pub invariant-loop-k : goal.invariant-loop-k
invariant-loop-k l = Taking l.word l.from l.u l.net.weights.now l.kept l.initial.taken l.taken l.k-iterator.left l.lack
