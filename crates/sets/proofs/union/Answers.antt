-- `union` has what either has: so does an or.
use Rattle.sets.proofs.Bits.{bit-or}
use Rattle.sets.proofs.union.Goals as goal

pub returns : goal.returns
returns c = bit-or c.args.s c.args.t
