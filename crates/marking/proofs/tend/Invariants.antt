use Rattle.marking.proofs.Tending.{Tending}
use Rattle.marking.proofs.tend.Given as goal

abbrev pub invariant-loop-p : goal.invariant-loop-p
invariant-loop-p l =
    Tending l.p l.net.rows.now l.net.weights.now l.net.sorts.now l.tokens l.put l.initial.kept l.kept l.starved
