-- A member taken out is added: what is added so far and what the members left weigh is what all weigh.
use native.Mathlib.Omega.{arith}
use lib.ListN.{get_or}
use Rattle.sets.proofs.Taking.{over_less}
use Rattle.firing.proofs.at_place.Goals as goal

pub loop-t-preserved : goal.loop-t-preserved
loop-t-preserved c =
    let turn = c.in-Some.ensures.steps in
    let weights = over_less _ _ _ turn.less (λ k. get_or c.args.row.now k 0) turn.low turn.member in
    let members = over_less _ _ _ turn.less (λ k. 1) turn.low turn.member in
    (omega arith, omega arith)
