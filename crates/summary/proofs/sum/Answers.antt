-- Each number is the sum of the two in its place.
use Rattle.std.proofs.Common.{of_calls}
use Rattle.summary.specs.Day.{plus}
use Rattle.summary.proofs.Listed.{made_listed}
use Rattle.summary.proofs.sum.Goals as goal

pub returns : goal.returns
unfolding plus
returns c = made_listed _ _ _ 0 _ (λ i x q k. search of_calls) _ c.from_fn.ensures.items
