-- `common` answers its question: an or of two ands is 0 exactly if nothing is in both words of either pair.
use mathlib.Core.Bool.{Bool, not, not-not, ◌&&◌, ◌||◌}
use mathlib.Core.Path.{sym, ap, ap₂, ◌∙◌}
use Prim.Native.Nat.{ℕ}
use native.Mathlib.Omega.{arith}
use lib.Bits.{bit_and, bit_or, and_lt, or_lt}
use Rattle.meaning.specs.Below.{some}
use Rattle.meaning.specs.Bytes.{bit}
use Rattle.meaning.proofs.Below.{some_same}
use Rattle.sets.proofs.Bits.{bit-and, bit-or, zero_set}
use Rattle.sets.proofs.Some.{some_or}
use Rattle.arcs.proofs.common.Goals as goal

pub returns : goal.returns
returns x =
    let a : ℕ = x.args.a in
    let b : ℕ = x.args.b in
    let c : ℕ = x.args.c in
    let d : ℕ = x.args.d in
    let all : ℕ = bit_or (bit_and a b) (bit_and c d) in
    ap not
    (zero_set all
    (or_lt 64 (bit_and a b) (bit_and c d) (and_lt 64 a b (omega arith) (omega arith))
    (and_lt 64 c d (omega arith) (omega arith))))
    ∙ not-not (some 64 (bit all))
    ∙ some_same 64 (bit all) (λ k. (bit a k && bit b k) || (bit c k && bit d k))
    (λ k l. bit-or (bit_and a b) (bit_and c d) k ∙ ap₂ (λ (x y : Bool). x || y) (bit-and a b k) (bit-and c d k))
    ∙ sym (some_or 64 (λ k. bit a k && bit b k) (λ k. bit c k && bit d k))
