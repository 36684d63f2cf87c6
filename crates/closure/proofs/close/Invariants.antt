use Rattle.closure.proofs.Part.{Part}
use Rattle.closure.proofs.close.Given as goal

abbrev pub invariant-loop-t : goal.invariant-loop-t
invariant-loop-t l = Part l.initial.rows l.t l.rows
