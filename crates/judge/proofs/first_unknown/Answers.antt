-- The records are asked where the rows show an unknown; where they do not, there is none.
use Rattle.judge.specs.Judged.{unknown_first}
use Rattle.judge.proofs.first_unknown.Goals as goal

pub returns-then-any_unknown : goal.returns-then-any_unknown
unfolding unknown_first
returns-then-any_unknown c = rw (← c.any_unknown.ensures, c.if-any_unknown.true) c.first_unknown.ensures

pub returns : goal.returns
unfolding unknown_first
returns c = rw (← c.any_unknown.ensures, c.if-any_unknown.false)
