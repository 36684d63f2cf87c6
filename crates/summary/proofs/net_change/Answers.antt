-- Each way out is one of the three cases of what net change leaves.
use mathlib.Core.Path.{sym, ◌∙◌}
use Rattle.summary.proofs.Outcomes.{handed, accepts, low_arcs, change_refused, change_often, change_all, change_by}
use Rattle.summary.proofs.net_change.Goals as goal

pub returns-in_err-check : goal.returns-in_err-check
returns-in_err-check c =
    rw (handed _ _ c.from_residual.ensures) (change_refused _ _ _ c.in_err-check.ensures)

pub returns-then-fires_too_often : goal.returns-then-fires_too_often
returns-then-fires_too_often c =
    change_often _ _ (accepts _ c.in_ok-check.ensures) (sym c.fires_too_often.ensures ∙ c.if-fires_too_often.true)

-- The arcs of an accepted table are in range.
pub moves-put-requires-clause-low_arcs : goal.moves-put-requires-clause-low_arcs
moves-put-requires-clause-low_arcs c = low_arcs _ (accepts _ c.in_ok-check.ensures)

pub moves-taken-requires-clause-low_arcs : goal.moves-taken-requires-clause-low_arcs
moves-taken-requires-clause-low_arcs c = low_arcs _ (accepts _ c.in_ok-check.ensures)

pub returns : goal.returns
returns c =
    let left =
    change_all _ _ (accepts _ c.in_ok-check.ensures) (sym c.fires_too_often.ensures ∙ c.if-fires_too_often.false) in
    record {
      answer_is = left.answer_is;
      change_is =
          c.differences.ensures
          ∙ change_by _ _ _ _ c.moves-put.ensures c.moves-taken.ensures
          ∙ left.change_is;
    }
