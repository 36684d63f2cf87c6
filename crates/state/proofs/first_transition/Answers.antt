-- The loop keeps that no transition before t is wrong.
use mathlib.Core.Path.{sym, ◌∙◌}
use Rattle.meaning.proofs.Below.{first_is}
use Rattle.state.proofs.first_transition.Goals as goal

pub returns-then-wrong_transition : goal.returns-then-wrong_transition
returns-then-wrong_transition c =
    let at = c.loop-t in
    let low = c.loop-t-test.true in
    (low, first_is 64 _ at.t low (sym c.wrong_transition.ensures ∙ c.if-wrong_transition.true) at.invariant)
