-- Sums over the numbers below n: cut in two, taken in either order, and of a weight where a test passes.
use mathlib.Core.Bool.{Bool, true, false, cond}
use mathlib.Core.Path.{◌≡◌, refl, sym, ap, ◌∙◌}
use Prim.Native.Nat.{ℕ, zero, suc, ◌+◌, ◌*◌, ◌≤◌}
use native.Mathlib.Nat.{add-zero, add-suc, mul-zero, mul-add}
use native.Mathlib.Omega.{arith}
use Rattle.meaning.specs.Below.{sum}
use Rattle.meaning.proofs.Below.{sum_add, sum_zero}

-- The first m, then the next n.
pub sum_split : (m n : ℕ) (f : ℕ → ℕ) → sum (m + n) f ≡ sum m f + sum n (λ k. f (m + k))
unfolding sum
sum_split m zero f = ap (λ (i : ℕ). sum i f) (add-zero m) ∙ sym (add-zero (sum m f))
sum_split m (suc n) f = ap (λ (i : ℕ). sum i f) (add-suc m n) ∙ omega (arith, sum_split m n f)

-- Row by row or column by column.
pub sum_swap : (m n : ℕ) (f : ℕ → ℕ → ℕ) → sum m (λ i. sum n (f i)) ≡ sum n (λ j. sum m (λ i. f i j))
unfolding sum
sum_swap zero n f = sym (sum_zero n _ (λ j l. refl))
sum_swap (suc m) n f = ap (λ (x : ℕ). x + sum n (f m)) (sum_swap m n f) ∙ sym (sum_add n _ (f m))

-- A weight as often as a test passes.
pub sum_weight : (n w : ℕ) (b : ℕ → Bool) → sum n (λ j. cond (b j) w 0) ≡ w * sum n (λ j. cond (b j) 1 0)
unfolding sum
sum_weight zero w b = sym (mul-zero w)
sum_weight (suc n) w b =
    ap (λ (x : ℕ). x + cond (b n) w 0) (sum_weight n w b)
    ∙ go (b n)
    ∙ sym (mul-add w (sum n (λ j. cond (b j) 1 0)) (cond (b n) 1 0))
  where
    go : (c : Bool) → w * sum n (λ j. cond (b j) 1 0) + cond c w 0 ≡ w * sum n (λ j. cond (b j) 1 0) + w * cond c 1 0
    go true = omega arith
    go false = omega arith

-- No more often than there are numbers.
pub sum_most : (n : ℕ) (b : ℕ → Bool) → sum n (λ j. cond (b j) 1 0) ≤ n
unfolding sum
sum_most zero b = omega arith
sum_most (suc n) b = go (b n) (sum_most n b)
  where
    go : (c : Bool) → sum n (λ j. cond (b j) 1 0) ≤ n → sum n (λ j. cond (b j) 1 0) + cond c 1 0 ≤ suc n
    go true h = omega arith
    go false h = omega arith
