-- `meet` answers its question: an and is 0 exactly if nothing is in both.
use mathlib.Core.Bool.{not, not-not, ◌&&◌}
use mathlib.Core.Path.{ap, ◌∙◌}
use Prim.Native.Nat.{ℕ}
use native.Mathlib.Omega.{arith}
use lib.Bits.{bit_and, and_lt}
use Rattle.meaning.specs.Below.{some}
use Rattle.meaning.specs.Bytes.{bit}
use Rattle.meaning.proofs.Below.{some_same}
use Rattle.sets.proofs.Bits.{bit-and, zero_set}
use Rattle.sets.proofs.meet.Goals as goal

pub returns : goal.returns
returns c =
    let s : ℕ = c.args.s in
    let t : ℕ = c.args.t in
    ap not (zero_set (bit_and s t) (and_lt 64 s t (omega arith) (omega arith)))
    ∙ not-not (some 64 (bit (bit_and s t)))
    ∙ some_same 64 (bit (bit_and s t)) (λ k. bit s k && bit t k) (λ k l. bit-and s t k)
