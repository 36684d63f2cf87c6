-- A word as a set: what its bits say of or, and, a power of two, a sum and a count of zeros. Each law goes bit by bit,
-- the lowest first.
use mathlib.Core.Bool.{Bool, true, false, cond, not, ◌&&◌, ◌||◌, and-true, and-false}
use mathlib.Core.Path.{◌≡◌, refl, sym, ap, ◌∙◌}
use mathlib.Core.Logic.{⊎_elim}
use Prim.Native.Nat.{ℕ, zero, suc, ◌-◌, ◌*◌, ◌/◌, ◌%◌, ◌^◌, min, max, ◌≤◌, ◌<◌, suc-le-suc}
use native.Mathlib.Nat.{not-suc-le-zero, le_of_suc-le-suc, lt_of_not-le, eq-or-lt_of_le, lt_of_le_of_lt, zero-min}
use native.Mathlib.Nat.{zero-max, max-le, min-le_left, min-eq_right, max-eq_left, pow-suc, one-mul}
use native.Mathlib.Omega.{arith}
use lib.Dec.{eqb, eqb-zero-suc, eqb-suc-zero, eqb-suc-suc}
use lib.Arith.{lt-one, digits_mod}
use lib.Pow.{shl_exact}
use lib.Bits.{bit_or, bit_and, or_step, or_shr, and_step, and_shr, and_le_l}
use lib.Count.{count_trailing_zeros, under, trailing_le}
use borrow.Author.Tests.{eqb-true, eq-eqb, ne_eqb}
use Rattle.meaning.specs.Below.{some, first}
use Rattle.meaning.specs.Bytes.{bit}
use Rattle.meaning.proofs.Bool.{not_both}
use Rattle.meaning.proofs.Bits.{bit_past}
pub use Rattle.meaning.proofs.Bits.{bit_low, bit_high, bit_zero, bits_bit, bits_low}
use Rattle.meaning.proofs.Below.{some_elim, none_elim, first_is, first_none}

-- A number's lowest digit is 0 or 1, so that its test says which.
digit_low : (a : ℕ) → a % 2 < 2
digit_low a = omega arith

no_digit : {x : ℕ} {A : Type 0} → suc (suc x) < 2 → A
no_digit h = absurd (not-suc-le-zero (le_of_suc-le-suc (le_of_suc-le-suc h)))

digit_is : (x : ℕ) → x < 2 → x ≡ cond (eqb x 1) 1 0
digit_is zero h = refl
digit_is (suc zero) h = refl
digit_is (suc (suc x)) h = no_digit h

digit_same : (a b : ℕ) → eqb (a % 2) 1 ≡ eqb (b % 2) 1 → a % 2 ≡ b % 2
digit_same a b e =
    digit_is (a % 2) (digit_low a) ∙ ap (λ (t : Bool). cond t 1 0) e ∙ sym (digit_is (b % 2) (digit_low b))

digit_or : (x y : ℕ) → x < 2 → y < 2 → eqb (max x y) 1 ≡ (eqb x 1 || eqb y 1)
digit_or zero y h l = rw zero-max
digit_or (suc zero) y h l = ap (λ (x : ℕ). eqb x 1) (max-eq_left (le_of_suc-le-suc l))
digit_or (suc (suc x)) y h l = no_digit h

digit_and : (x y : ℕ) → x < 2 → y < 2 → eqb (min x y) 1 ≡ (eqb x 1 && eqb y 1)
digit_and zero y h l = rw zero-min
digit_and (suc zero) y h l = ap (λ (x : ℕ). eqb x 1) (min-eq_right (le_of_suc-le-suc l))
digit_and (suc (suc x)) y h l = no_digit h

digit_apart : (x y : ℕ) → x < 2 → y < 2 → eqb (x - min x y) 1 ≡ (eqb x 1 && not (eqb y 1))
digit_apart zero y h l = rw zero-min
digit_apart (suc zero) zero h l = refl
digit_apart (suc zero) (suc zero) h l = refl
digit_apart (suc zero) (suc (suc y)) h l = no_digit l
digit_apart (suc (suc x)) y h l = no_digit h

-- The lowest digit of an or is the larger of the two, and of an and the smaller.
or_low : (a b : ℕ) → bit_or a b % 2 ≡ max (a % 2) (b % 2)
or_low a b =
    ap (λ (x : ℕ). x % 2) (or_step a b)
    ∙ digits_mod (bit_or (a / 2) (b / 2)) (suc-le-suc (max-le (le_of_suc-le-suc (digit_low a))
    (le_of_suc-le-suc (digit_low b))))

and_low : (a b : ℕ) → bit_and a b % 2 ≡ min (a % 2) (b % 2)
and_low a b =
    ap (λ (x : ℕ). x % 2) (and_step a b)
    ∙ digits_mod (bit_and (a / 2) (b / 2)) (lt_of_le_of_lt (min-le_left (a % 2) (b % 2)) (digit_low a))

-- An or has what either has, and an and what both have.
pub bit-or : (a b k : ℕ) → bit (bit_or a b) k ≡ (bit a k || bit b k)
unfolding bit
bit-or a b k =
    let x = a / 2 ^ k in
    let y = b / 2 ^ k in
    ap (λ (z : ℕ). eqb z 1) (ap (λ (z : ℕ). z % 2) (or_shr a b k) ∙ or_low x y)
    ∙ digit_or (x % 2) (y % 2) (digit_low x) (digit_low y)

pub bit-and : (a b k : ℕ) → bit (bit_and a b) k ≡ (bit a k && bit b k)
unfolding bit
bit-and a b k =
    let x = a / 2 ^ k in
    let y = b / 2 ^ k in
    ap (λ (z : ℕ). eqb z 1) (ap (λ (z : ℕ). z % 2) (and_shr a b k) ∙ and_low x y)
    ∙ digit_and (x % 2) (y % 2) (digit_low x) (digit_low y)

-- k alone is in 2 ^ k.
pub bit_one : (k j : ℕ) → bit (2 ^ k) j ≡ eqb k j
bit_one zero zero = bit_low 1
bit_one zero (suc j) = bit_high 1 j ∙ bit_zero j ∙ sym (eqb-zero-suc j)
bit_one (suc k) zero =
    let even : 2 ^ suc k % 2 ≡ 0 = omega (arith, pow-suc 2 k) in
    bit_low (2 ^ suc k) ∙ ap (λ (x : ℕ). eqb x 1) even ∙ sym (eqb-suc-zero k)
bit_one (suc k) (suc j) =
    let half : 2 ^ suc k / 2 ≡ 2 ^ k = omega (arith, pow-suc 2 k) in
    bit_high (2 ^ suc k) j ∙ ap (λ (x : ℕ). bit x j) half ∙ bit_one k j ∙ sym (eqb-suc-suc k j)

-- 1 shifted by k below 64 is 2 ^ k: nothing is shifted out.
pub one_shifted : (k : ℕ) → k < 64 → 1 * 2 ^ k % 2 ^ 64 ≡ 2 ^ k
one_shifted k h = shl_exact 1 k 64 (omega arith) (omega arith) ∙ one-mul (2 ^ k)

-- What a word has is below 64.
pub bit_out : (a k : ℕ) → a < 2 ^ 64 → 64 ≤ k → bit a k ≡ false
bit_out = bit_past 64

pub bit_under : (a k : ℕ) → a < 2 ^ 64 → bit a k ≡ true → k < 64
bit_under a k h e = lt_of_not-le (λ (l : 64 ≤ k). not_both e (bit_out a k h l))

-- A number that has k is at least 2 ^ k.
pub bit_least : (a k : ℕ) → bit a k ≡ true → 2 ^ k ≤ a
bit_least a k e = le_of_suc-le-suc (lt_of_not-le (λ (h : suc a ≤ 2 ^ k). not_both e (bit_past k a k h (omega arith))))

-- Half a number below 2 ^ (n + 1) is below 2 ^ n.
half_below : (n a : ℕ) → a < 2 ^ suc n → a / 2 < 2 ^ n
half_below n a h = omega (arith, pow-suc 2 n)

-- Numbers that have the same below their width are the same.
pub same_below : (n a b : ℕ) → a < 2 ^ n → b < 2 ^ n → ((k : ℕ) → k < n → bit a k ≡ bit b k) → a ≡ b
same_below zero a b h l f = lt-one h ∙ sym (lt-one l)
same_below (suc n) a b h l f =
    let above : (k : ℕ) → k < n → bit (a / 2) k ≡ bit (b / 2) k =
    λ k s. sym (bit_high a k) ∙ f (suc k) (suc-le-suc s) ∙ bit_high b k in
    let high : a / 2 ≡ b / 2 = same_below n (a / 2) (b / 2) (half_below n a h) (half_below n b l) above in
    let low : a % 2 ≡ b % 2 = digit_same a b (sym (bit_low a) ∙ f 0 (omega arith) ∙ bit_low b) in
    omega arith

pub same_set : (a b : ℕ) → a < 2 ^ 64 → b < 2 ^ 64 → ((k : ℕ) → k < 64 → bit a k ≡ bit b k) → a ≡ b
same_set = same_below 64

-- A word is 0 exactly if it has nothing.
pub zero_set : (a : ℕ) → a < 2 ^ 64 → eqb a 0 ≡ not (some 64 (bit a))
zero_set a h = go (some 64 (bit a)) refl
  where
    go : (t : Bool) → some 64 (bit a) ≡ t → eqb a 0 ≡ not t
    go true e =
        let w = some_elim 64 (bit a) e in
        ne_eqb a 0 (λ z. not_both w.2 (ap (λ (x : ℕ). bit x w.0) z ∙ bit_zero w.0))
    go false e = eq-eqb a 0 (same_set a 0 h (omega arith) (λ k l. none_elim 64 (bit a) e k l ∙ sym (bit_zero k)))

-- What has k, less 2 ^ k, has the rest.
pub bit_less : (k a j : ℕ) → bit a k ≡ true → bit (a - 2 ^ k) j ≡ (bit a j && not (eqb k j))
bit_less zero a zero e =
    let odd : a % 2 ≡ 1 = eqb-true (a % 2) 1 (sym (bit_low a) ∙ e) in
    let even : (a - 1) % 2 ≡ 0 = omega arith in
    bit_low (a - 1) ∙ rw (even, and-false (bit a 0))
bit_less zero a (suc j) e =
    let odd : a % 2 ≡ 1 = eqb-true (a % 2) 1 (sym (bit_low a) ∙ e) in
    let half : (a - 1) / 2 ≡ a / 2 = omega arith in
    bit_high (a - 1) j ∙ rw (half, eqb-zero-suc j, and-true (bit a (suc j))) (sym (bit_high a j))
bit_less (suc k) a zero e =
    let least : 2 ^ suc k ≤ a = bit_least a (suc k) e in
    let low : (a - 2 ^ suc k) % 2 ≡ a % 2 = omega (arith, pow-suc 2 k) in
    bit_low (a - 2 ^ suc k) ∙ rw (low, eqb-suc-zero k, and-true (bit a 0)) (sym (bit_low a))
bit_less (suc k) a (suc j) e =
    let least : 2 ^ suc k ≤ a = bit_least a (suc k) e in
    let half : (a - 2 ^ suc k) / 2 ≡ a / 2 - 2 ^ k = omega (arith, pow-suc 2 k) in
    bit_high (a - 2 ^ suc k) j ∙ rw (half, eqb-suc-suc k j, bit_high a j)
    (bit_less k (a / 2) j (sym (bit_high a k) ∙ e))

-- A number less what it shares with another has what the other lacks.
pub bit_apart : (a b j : ℕ) → bit (a - bit_and a b) j ≡ (bit a j && not (bit b j))
bit_apart a b zero =
    bit_low (a - bit_and a b) ∙ rw (bit_low a, bit_low b, low) (digit_apart (a % 2) (b % 2) (digit_low a) (digit_low b))
  where
    low : (a - bit_and a b) % 2 ≡ a % 2 - min (a % 2) (b % 2)
    low = omega (arith, and_step a b, and_le_l (a / 2) (b / 2), min-le_left (a % 2) (b % 2))
bit_apart a b (suc j) =
    bit_high (a - bit_and a b) j ∙ rw (bit_high a j, bit_high b j, half) (bit_apart (a / 2) (b / 2) j)
  where
    half : (a - bit_and a b) / 2 ≡ a / 2 - bit_and (a / 2) (b / 2)
    half = omega (arith, and_step a b, and_le_l (a / 2) (b / 2), min-le_left (a % 2) (b % 2))

-- The zeros below the lowest number of a set end at that number.
zeros_before : (n a j : ℕ) → j < count_trailing_zeros n a → bit a j ≡ false
unfolding count_trailing_zeros
zeros_before zero a j h = absurd (not-suc-le-zero h)
zeros_before (suc n) a j h = go (a % 2) j refl h (zeros_before n (a / 2))
  where
    go : (x j : ℕ) → a % 2 ≡ x → j < under x (count_trailing_zeros n (a / 2))
        → ((i : ℕ) → i < count_trailing_zeros n (a / 2) → bit (a / 2) i ≡ false) → bit a j ≡ false
    go zero zero e l f = bit_low a ∙ rw e
    go zero (suc i) e l f = bit_high a i ∙ f i (le_of_suc-le-suc l)
    go (suc x) j e l f = absurd (not-suc-le-zero l)

zeros_at : (n a : ℕ) → count_trailing_zeros n a < n → bit a (count_trailing_zeros n a) ≡ true
unfolding count_trailing_zeros
zeros_at zero a h = absurd (not-suc-le-zero h)
zeros_at (suc n) a h = go (a % 2) refl h (zeros_at n (a / 2))
  where
    go : (x : ℕ) → a % 2 ≡ x → under x (count_trailing_zeros n (a / 2)) < suc n
        → (count_trailing_zeros n (a / 2) < n → bit (a / 2) (count_trailing_zeros n (a / 2)) ≡ true)
        → bit a (under x (count_trailing_zeros n (a / 2))) ≡ true
    go zero e l f = bit_high a (count_trailing_zeros n (a / 2)) ∙ f (le_of_suc-le-suc l)
    go (suc x) e l f = bit_low a ∙ eq-eqb (a % 2) 1 (omega arith)

-- The lowest number of a set, or n where there is none below n, is the count of zeros below it.
pub zeros_first : (n a : ℕ) → count_trailing_zeros n a ≡ first n (bit a)
zeros_first n a =
    ⊎_elim (λ (q : count_trailing_zeros n a ≡ n). q ∙ sym (first_none n (bit a) (λ k l. zeros_before n a k (rw q l))))
    (λ (l : count_trailing_zeros n a < n). sym (first_is n (bit a) (count_trailing_zeros n a) l (zeros_at n a l) (zeros_before n a)))
    (eq-or-lt_of_le (trailing_le n a))
