use Rattle.cycles.proofs.Turns.{Turned}
use Rattle.cycles.proofs.cycles.Given as goal

abbrev pub invariant-loop-i : goal.invariant-loop-i
invariant-loop-i l =
    Turned l.net l.image l.words l.count l.initial.report l.i l.state l.report l.kept l.moves
