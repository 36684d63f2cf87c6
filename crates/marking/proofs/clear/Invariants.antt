-- The loop keeps that nothing is taken or put at the places passed.
use Rattle.marking.specs.Sweep.{Cleared}
use Rattle.marking.proofs.clear.Given as goal

abbrev pub invariant-loop-p : goal.invariant-loop-p
invariant-loop-p l = Cleared l.p l.initial.moves.taken l.initial.moves.put l.moves.taken l.moves.put
