-- The length first.
use mathlib.Core.Path.{sym, ◌∙◌}
use Rattle.judge.proofs.Stages.{answer_1}
use Rattle.engine.proofs.Room.{small, large}
use Rattle.engine.proofs.check.Goals as goal

pub returns-then-bad_length : goal.returns-then-bad_length
returns-then-bad_length c = record { answer_is = sym (answer_1 _ (sym c.bad_length.ensures ∙ c.if-bad_length.true)) }

-- The rows that are made are enough.
pub check_in-requires-clause-roomy : goal.check_in-requires-clause-roomy
check_in-requires-clause-roomy c = let low = c.is_small.ensures c.if-is_small.true in small c.numbers-n.ensures.0 low.0 low.1

pub check_in-requires-else-is_small-clause-roomy : goal.check_in-requires-else-is_small-clause-roomy
check_in-requires-else-is_small-clause-roomy c = large c.numbers-n.ensures.0 c.numbers-n.ensures.1 (sym c.bad_length.ensures ∙ c.if-bad_length.false)
