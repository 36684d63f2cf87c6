-- The walk over the transitions with conditions: each turn drops one if its conditions are not as wanted, and who
-- stays in the end is the same.
use mathlib.Core.Bool.{Bool, true, false, cond, not, ◌&&◌, ◌||◌}
use mathlib.Core.Path.{◌≡◌, ap}
use Prim.Native.Nat.{ℕ}
use lib.Dec.{eqb}
use borrow.Author.Tests.{eqb-true, not-false}
use Rattle.meaning.specs.Bytes.{bit}
use Rattle.meaning.proofs.Below.{none_intro}
use Rattle.sets.proofs.Bits.{bit_zero, bit_out, bit-and}
use Rattle.edge.specs.Edges.{as_asked}

-- Where the walk has come to, by where it began: who is able, and passes or is not left, has stayed the same.
pub record Sifted (q : ℕ → Bool) (conditional able₀ left₀ able left : ℕ) : Type 0 where
  pub asking : (j : ℕ) → bit left j ≡ true → bit conditional j ≡ true
  pub stays : (t : ℕ) → (bit able t && (not (bit left t) || q t)) ≡ (bit able₀ t && (not (bit left₀ t) || q t))

-- Where no condition is looked at all is as wanted.
pub unasked : (looks wanted word : ℕ) → not (eqb looks 0) ≡ false → as_asked looks wanted word ≡ true
unfolding as_asked
unasked looks wanted word e =
    ap not
    (none_intro 64 (λ k. bit looks k && cond (bit wanted k) (not (bit word k)) (bit word k))
    (λ k h. rw (eqb-true looks 0 (not-false _ e), bit_zero k)))

-- What the search asks of the walk: the bits of its sets, and that who looks at nothing is as wanted.
pub ruleset sifting = (bit_zero, bit_out, bit-and, unasked)
