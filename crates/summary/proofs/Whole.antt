-- Differences of two counts, as whole numbers.
use mathlib.Core.Bool.{Bool, true, false, cond}
use mathlib.Core.Path.{◌≡◌, sym, ap, ◌∙◌}
use Prim.Native.Nat.{ℕ, zero, suc, ◌+◌, ◌-◌, ◌<◌, ◌^◌}
use native.Mathlib.Nat.{add_comm}
use native.Mathlib.Omega.{arith}
use lib.Dec.{ltb}
use lib.IntN.{ℤ, pos, negsuc, neg_ℤ, ◌+ℤ◌, ◌-ℤ◌, +ℤ_assoc, +ℤ_comm, +ℤ_invr, +ℤ_idr, neg_ℤ-+ℤ}
use mir.Syntax.{w64}
use mir.Val.{SFits}

-- Four numbers, two and two, in another order.
shuffle : (a b c d : ℤ) → (a +ℤ b) +ℤ (c +ℤ d) ≡ (a +ℤ c) +ℤ (b +ℤ d)
shuffle a b c d =
    +ℤ_assoc a b (c +ℤ d)
    ∙ ap (λ (x : ℤ). a +ℤ x) (sym (+ℤ_assoc b c d) ∙ ap (λ (x : ℤ). x +ℤ d) (+ℤ_comm b c) ∙ +ℤ_assoc c b d)
    ∙ sym (+ℤ_assoc a c (b +ℤ d))

-- The difference of two sums is the sum of the differences.
pub sum_of_differences : (a b c d : ℕ) → pos (a + c) -ℤ pos (b + d) ≡ (pos a -ℤ pos b) +ℤ (pos c -ℤ pos d)
sum_of_differences a b c d =
    ap (λ (x : ℤ). pos (a + c) +ℤ x) (neg_ℤ-+ℤ (pos b) (pos d)) ∙ shuffle (pos a) (pos c) (neg_ℤ (pos b)) (neg_ℤ (pos d))

-- A number less itself.
itself : (a : ℕ) → pos a -ℤ pos a ≡ pos 0
itself a = +ℤ_invr (pos a)

-- Two differences are one where the sums across are.
pub same_difference : (a b c d : ℕ) → a + d ≡ c + b → pos a -ℤ pos b ≡ pos c -ℤ pos d
same_difference a b c d e =
    sym (+ℤ_idr (pos a -ℤ pos b))
    ∙ ap (λ (x : ℤ). (pos a -ℤ pos b) +ℤ x) (sym (itself d))
    ∙ sym (sum_of_differences a b d d)
    ∙ ap (λ (x : ℕ). pos x -ℤ pos (b + d)) e
    ∙ ap (λ (x : ℕ). pos (c + b) -ℤ pos x) (add_comm b d)
    ∙ sum_of_differences c d b b
    ∙ ap (λ (x : ℤ). (pos c -ℤ pos d) +ℤ x) (itself b)
    ∙ +ℤ_idr (pos c -ℤ pos d)

-- Of two numbers below 2^63 it has a place in 64 bits with a sign.
pub difference_fits : (a b : ℕ) → a < 2 ^ 63 → b < 2 ^ 63 → SFits w64 (pos a -ℤ pos b)
difference_fits a zero h k = record { sfits = omega (arith, h) }
difference_fits a (suc n) h k = go (ltb a (suc n))
  where
    go : (c : Bool) → SFits w64 (cond c (negsuc (suc n - suc a)) (pos (a - suc n)))
    go true = record { sfits = omega (arith, k) }
    go false = record { sfits = omega (arith, h) }
