-- `less` takes from s what it shares with t, which is at most s, so that what t lacks stays.
use lib.Bits.{and_le_l}
use native.Mathlib.Omega.{arith}
use Rattle.sets.proofs.Bits.{bit_apart}
use Rattle.sets.proofs.less.Goals as goal

pub overflow_sub-result : goal.overflow_sub-result
overflow_sub-result c = omega (arith, and_le_l c.args.s c.args.t)

pub returns : goal.returns
returns c = bit_apart c.args.s c.args.t
