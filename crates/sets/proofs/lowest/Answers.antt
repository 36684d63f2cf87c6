-- `lowest` counts the zeros below the lowest number in s, which is that number; a set without one is 0.
use mathlib.Core.Path.{sym}
use Prim.Native.Nat.{ℕ}
use native.Mathlib.Omega.{arith}
use lib.Count.{trailing_le}
use Rattle.meaning.specs.Bytes.{bit}
use Rattle.meaning.proofs.Below.{first_none}
use Rattle.sets.proofs.Bits.{bit_zero, zeros_first}
use Rattle.sets.proofs.Taking.{lowest_in}
use Rattle.sets.proofs.lowest.Goals as goal

pub overflow_cast-result : goal.overflow_cast-result
overflow_cast-result c = omega (arith, trailing_le 64 c.args.s)

pub returns-then-s-eq0 : goal.returns-then-s-eq0
returns-then-s-eq0 c = rw c.if-s-eq0.true (first_none 64 (bit 0) (λ k h. bit_zero k))

pub returns : goal.returns
returns c =
    let s : ℕ = c.args.s in
    ((lowest_in s _ (omega arith) c.if-s-eq0.false (zeros_first 64 s)).0, sym (zeros_first 64 s))
