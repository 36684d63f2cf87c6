-- The length first.
use mathlib.Core.Path.{sym, ◌∙◌}
use Rattle.answers.specs.declared.Refusal.TheVariants as refusal
use Rattle.judge.proofs.Stages.{answer_1}
use Rattle.engine.proofs.Starts.{not_0}
use Rattle.engine.proofs.Runs.{refused_by_table}
use Rattle.engine.proofs.Room.{small, large}
use Rattle.engine.proofs.run.Goals as goal

pub returns-then-bad_length : goal.returns-then-bad_length
returns-then-bad_length c =
    refused_by_table _ _ _ _ (sym (answer_1 _ (sym c.bad_length.ensures ∙ c.if-bad_length.true)))
    (not_0 refusal.Length)

-- The rows that are made are enough.
pub run_in-requires-clause-roomy : goal.run_in-requires-clause-roomy
run_in-requires-clause-roomy c = let low = c.is_small.ensures c.if-is_small.true in small c.numbers-n.ensures.0 low.0 low.1

pub run_in-requires-else-is_small-clause-roomy : goal.run_in-requires-else-is_small-clause-roomy
run_in-requires-else-is_small-clause-roomy c = large c.numbers-n.ensures.0 c.numbers-n.ensures.1 (sym c.bad_length.ensures ∙ c.if-bad_length.false)
