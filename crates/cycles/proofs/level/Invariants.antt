use Rattle.cycles.proofs.Levelled.{Levelled}
use Rattle.cycles.proofs.level.Given as goal

abbrev pub invariant-loop-p : goal.invariant-loop-p
invariant-loop-p l = Levelled l.p l.net.rows.now l.net.weights.now l.net.sorts.now l.tokens l.kept
