-- The rows are enough.
use Rattle.engine.proofs.Room.{room}
use Rattle.engine.proofs.check_in.Goals as goal

pub judge-requires-clause-judge_asks : goal.judge-requires-clause-judge_asks
judge-requires-clause-judge_asks g c = room c.requires.roomy
