-- `has` answers its question: bit k of s is the lowest bit of s shifted by k, and s has nothing from 64 on.
use mathlib.Core.Path.{refl, sym}
use native.Mathlib.Omega.{arith}
use Rattle.meaning.specs.Bytes.{bit}
use Rattle.sets.proofs.Bits.{bit_out}
use Rattle.sets.proofs.has.Goals as goal

pub returns-then-k-lt64 : goal.returns-then-k-lt64
unfolding bit
returns-then-k-lt64 c = refl

pub returns-else-k-lt64 : goal.returns-else-k-lt64
returns-else-k-lt64 c = sym (bit_out c.args.s c.args.k (omega arith) (omega arith))
