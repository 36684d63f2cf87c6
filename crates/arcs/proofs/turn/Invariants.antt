use Rattle.arcs.proofs.Turning.{TurnedTo}
use Rattle.arcs.proofs.turn.Given as goal

abbrev pub invariant-loop-p : goal.invariant-loop-p
invariant-loop-p l = TurnedTo l.rows l.arcs l.p
