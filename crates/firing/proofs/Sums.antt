-- What the members of a set weigh.
use mathlib.Core.Bool.{Bool, true, false, cond, ◌&&◌}
use mathlib.Core.Path.{◌≡◌}
use Prim.Native.Nat.{ℕ, ◌≤◌, ◌<◌}
use native.Mathlib.Omega.{arith}
use lib.Bits.{bit_and}
use Rattle.meaning.specs.Below.{sum, first}
use Rattle.meaning.specs.Bytes.{bit}
use Rattle.meaning.proofs.Below.{sum_same, sum_zero, sum_mono, sum_part, first_before}
use Rattle.sets.proofs.Bits.{bit-and, bit_zero}
use Rattle.sets.proofs.Taking.{over}

-- A set that is 0 has none.
pub over_none : (s : ℕ) (f : ℕ → ℕ) → s ≡ 0 → over s f ≡ 0
over_none s f e = sum_zero 64 (λ t. cond (bit s t) (f t) 0) (λ t l. rw (e, bit_zero t))

-- Where the first member is 64 or more there is none.
pub over_nobody : (s t : ℕ) (f : ℕ → ℕ) → t ≡ first 64 (bit s) → 64 ≤ t → over s f ≡ 0
over_nobody s t f e h =
    sum_zero 64 (λ t. cond (bit s t) (f t) 0) (λ j l. rw (first_before 64 (bit s) j (omega arith)))

-- A member weighs at most what the set does.
pub over_part : (s k : ℕ) (f : ℕ → ℕ) → k < 64 → bit s k ≡ true → f k ≤ over s f
over_part s k f h e = rw e at (sum_part 64 (λ t. cond (bit s t) (f t) 0) k h)

-- A set has at most 64.
pub count_low : (s : ℕ) → over s (λ t. 1) ≤ 64
unfolding sum
count_low s = sum_mono 64 (λ t. cond (bit s t) 1 0) (λ t. 1) (λ k h. at_most (bit s k))
  where
    at_most : (b : Bool) → cond b 1 0 ≤ 1
    at_most true = omega arith
    at_most false = omega arith

-- Who is in both sets.
pub over_both : (s a : ℕ) (f : ℕ → ℕ) → over (bit_and s a) f ≡ sum 64 (λ t. cond (bit s t && bit a t) (f t) 0)
over_both s a f =
    sum_same 64 (λ t. cond (bit (bit_and s a) t) (f t) 0) (λ t. cond (bit s t && bit a t) (f t) 0)
    (λ t h. rw (bit-and s a t))
