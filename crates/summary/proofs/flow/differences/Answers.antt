-- Each number is the difference of the two in its place.
use Rattle.std.proofs.Common.{rules}
use lib.IntN.{pos}
use Rattle.summary.proofs.Listed.{made_listed}
use Rattle.summary.proofs.flow.differences.Goals as goal

pub returns : goal.returns
returns c = made_listed _ _ _ (pos 0) _ (λ i x q k. search rules) _ c.from_fn.ensures.items
