use Rattle.marking.proofs.Tallying.{Tallying}
use Rattle.marking.proofs.tally.Given as goal

abbrev pub invariant-loop-u : goal.invariant-loop-u
invariant-loop-u l =
    Tallying l.fired l.net.rows.now l.net.weights.now l.net.heads.now l.net.posts.now l.kept l.moves.taken
    l.moves.put l.functions l.lack l.u-iterator.left
