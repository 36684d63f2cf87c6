-- What is looked at and in the word is what is wanted true exactly if no condition is other than wanted, as what is
-- wanted true is looked at.
use mathlib.Core.Bool.{Bool, true, cond, not, ◌&&◌}
use mathlib.Core.Path.{◌≡◌, ap}
use Prim.Native.Nat.{ℕ, ◌^◌, ◌<◌}
use native.Mathlib.Omega.{arith}
use lib.Bits.{bit_and, and_lt}
use lib.Dec.{eqb}
use borrow.Author.Tests.{eqb-true, eq-eqb, not-true}
use Rattle.meaning.specs.Bytes.{bit}
use Rattle.meaning.proofs.Bool.{same_test}
use Rattle.meaning.proofs.Below.{none_intro, none_elim}
use Rattle.sets.proofs.Bits.{bit-and, same_set}
use Rattle.edge.specs.Edges.{as_asked}
use Rattle.edge.proofs.asked.Goals as goal

-- As wanted: what is looked at and in the word is what is wanted true.
wanted_in : (looks wanted word : ℕ) → looks < 2 ^ 64 → wanted < 2 ^ 64 → word < 2 ^ 64
    → ((k : ℕ) → k < 64 → bit wanted k ≡ true → bit looks k ≡ true)
    → eqb (bit_and looks word) wanted ≡ as_asked looks wanted word
unfolding as_asked
wanted_in looks wanted word hl ht hw looked =
    same_test (eqb (bit_and looks word) wanted) (as_asked looks wanted word)
    (λ e.
    let same : bit_and looks word ≡ wanted = eqb-true (bit_and looks word) wanted e in
    ap not (none_intro 64 amiss (λ k l. grind (arith, bit-and looks word k, ap (λ (x : ℕ). bit x k) same))))
    (λ e.
    eq-eqb (bit_and looks word) wanted
    (same_set (bit_and looks word) wanted (and_lt 64 looks word hl hw) ht
    (λ k l. grind (arith, bit-and looks word k, looked k l, none_elim 64 amiss (not-true _ e) k l))))
  where
    amiss : ℕ → Bool
    amiss k = bit looks k && cond (bit wanted k) (not (bit word k)) (bit word k)

pub returns : goal.returns
returns c =
    wanted_in c.args.looks c.args.wanted c.args.word (omega arith) (omega arith) (omega arith) c.requires
