-- The loop keeps that the places passed have their new tokens and their marks.
use Rattle.marking.specs.Sweep.{Swept}
use Rattle.marking.proofs.sweep.Given as goal

abbrev pub invariant-loop-p : goal.invariant-loop-p
invariant-loop-p l = Swept l.p l.initial.tokens l.moves.taken l.moves.put l.initial.kept l.tokens l.kept l.all
