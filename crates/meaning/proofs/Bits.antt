-- Binary digits and bytes: what the digits of a number say, that the number made of a set has just its members, and
-- that bytes spell back the number they were made of. Each law goes digit by digit or byte by byte, the lowest first.
use mathlib.Core.Bool.{Bool, true, false, cond, ◌||◌}
use mathlib.Core.Path.{◌≡◌, refl, sym, ap, ◌∙◌}
use mathlib.Core.Logic.{⊎_elim}
use Prim.Native.Nat.{ℕ, zero, suc, ◌+◌, ◌*◌, ◌/◌, ◌%◌, ◌^◌, ◌≤◌, ◌<◌}
use native.Mathlib.Nat.{not-suc-le-zero, lt_of_lt_of_le, add-zero, zero-div, div-one, div-eq_of_lt, div-eq_of_lt-le}
use native.Mathlib.Nat.{div-div-eq-div-mul, div-add-mod', mod-lt, pow-suc, pow-succ'}
use native.Mathlib.Omega.{arith}
use lib.Dec.{ltb, eqb, eqb-zero-suc, eqb-suc-zero, eqb-suc-suc}
use lib.Pow.{pow_mono, pow_pos}
use borrow.Author.Tests.{ltb-true, ltb-false, eqb-true, eq-eqb, ne_eqb}
use Rattle.meaning.specs.Below.{sum}
use Rattle.meaning.specs.Bytes.{number, bytes, bit, bits}
use Rattle.meaning.specs.Rules.{TrueIn}
use Rattle.meaning.proofs.Bool.{either}
use Rattle.meaning.proofs.Below.{last}
use Rattle.meaning.proofs.Reflect.{Decides}

-- The lowest digit of a number, and the digits above it, which are those of its half.
pub bit_low : (a : ℕ) → bit a 0 ≡ eqb (a % 2) 1
unfolding bit
bit_low a = rw (div-one a)

pub bit_high : (a k : ℕ) → bit a (suc k) ≡ bit (a / 2) k
unfolding bit
bit_high a k = ap (λ (x : ℕ). eqb (x % 2) 1) (ap (λ (x : ℕ). a / x) (pow-succ' 2 k) ∙ sym (div-div-eq-div-mul a 2 (2 ^ k)))

-- Nothing is in 0.
pub bit_zero : (j : ℕ) → bit 0 j ≡ false
unfolding bit
bit_zero j = ap (λ (x : ℕ). eqb (x % 2) 1) (zero-div (2 ^ j))

-- A number below 2 ^ n has nothing from n on.
pub bit_past : (n a k : ℕ) → a < 2 ^ n → n ≤ k → bit a k ≡ false
unfolding bit
bit_past n a k h l = ap (λ (x : ℕ). eqb (x % 2) 1) (div-eq_of_lt (lt_of_lt_of_le h (pow_mono l)))

-- What 2 ^ n adds to a number below it is n.
bit_add : (n a k : ℕ) → a < 2 ^ n → bit (a + 2 ^ n) k ≡ (eqb n k || bit a k)
bit_add zero a zero h =
    let none : a ≡ 0 = omega arith in
    rw (none, bit_low 1)
bit_add zero a (suc k) h =
    let none : a ≡ 0 = omega arith in
    rw (none, bit_high 1 k, bit_zero k, eqb-zero-suc k, bit_zero (suc k))
bit_add (suc n) a zero h =
    let low : (a + 2 ^ suc n) % 2 ≡ a % 2 = omega (arith, pow-suc 2 n) in
    rw (bit_low (a + 2 ^ suc n), low, eqb-suc-zero n) (sym (bit_low a))
bit_add (suc n) a (suc k) h =
    let half : (a + 2 ^ suc n) / 2 ≡ a / 2 + 2 ^ n = omega (arith, pow-suc 2 n) in
    rw (bit_high (a + 2 ^ suc n) k, half, eqb-suc-suc n k, bit_high a k) (bit_add n (a / 2) k (omega (arith, pow-suc 2 n)))

-- The number made of the tests below n is below 2 ^ n, and has what passes.
abbrev pub made : (ℕ → Bool) → ℕ → ℕ
made p k = cond (p k) (2 ^ k) 0

pub made_low : (n : ℕ) (p : ℕ → Bool) → sum n (made p) < 2 ^ n
unfolding sum
made_low zero p = omega arith
made_low (suc n) p = go (p n) (made_low n p)
  where
    go : (t : Bool) → sum n (made p) < 2 ^ n → sum n (made p) + cond t (2 ^ n) 0 < 2 ^ suc n
    go true h = omega (arith, pow-suc 2 n)
    go false h = omega (arith, pow-suc 2 n)

made_bit : (n : ℕ) (p : ℕ → Bool) (k : ℕ) → k < n → bit (sum n (made p)) k ≡ p k
unfolding sum
made_bit zero p k h = absurd (not-suc-le-zero h)
made_bit (suc n) p k h = ⊎_elim (λ (q : k ≡ n). at_last (p n) refl q) (λ (l : k < n). below (p n) (made_bit n p k l) l) (last h)
  where
    none : k ≡ n → bit (sum n (made p)) k ≡ false
    none q = bit_past n (sum n (made p)) k (made_low n p) (omega arith)

    at_last : (t : Bool) → p n ≡ t → k ≡ n → bit (sum n (made p) + cond t (2 ^ n) 0) k ≡ p k
    at_last true e q = bit_add n (sum n (made p)) k (made_low n p) ∙ rw (eq-eqb n k (sym q)) (sym (ap p q ∙ e))
    at_last false e q = rw (add-zero (sum n (made p))) (none q ∙ sym (ap p q ∙ e))

    below : (t : Bool) → bit (sum n (made p)) k ≡ p k → k < n → bit (sum n (made p) + cond t (2 ^ n) 0) k ≡ p k
    below true w l = bit_add n (sum n (made p)) k (made_low n p) ∙ rw (ne_eqb n k (λ e. omega arith)) w
    below false w l = rw (add-zero (sum n (made p))) w

pub bits_bit : (p : ℕ → Bool) (k : ℕ) → k < 64 → bit (bits p) k ≡ p k
unfolding bits
bits_bit = made_bit 64

pub bits_low : (p : ℕ → Bool) → bits p < 2 ^ 64
unfolding bits
bits_low = made_low 64

-- Rule 1: bit c of a word is set exactly if condition c is true in it.
pub condition_is : (word c : ℕ) → Decides (bit word c) (TrueIn word c)
unfolding bit
condition_is word c = (to, from)
  where
    q : ℕ
    q = word / 2 ^ c

    to : eqb (word / 2 ^ c % 2) 1 ≡ true → TrueIn word c
    to e =
        let odd : q ≡ 2 * (q / 2) + 1 = omega (arith, eqb-true (q % 2) 1 e) in
        (q / 2, word % 2 ^ c, mod-lt word (pow_pos c), sym (div-add-mod' word (2 ^ c)) ∙ ap (λ (x : ℕ). x * 2 ^ c + word % 2 ^ c) odd)

    from : TrueIn word c → eqb (word / 2 ^ c % 2) 1 ≡ true
    from (high, low, l, e) =
        let quotient : word / 2 ^ c ≡ 2 * high + 1 = div-eq_of_lt-le (2 ^ c) (omega arith) (omega arith) in
        eq-eqb (word / 2 ^ c % 2) 1 (omega arith)

-- n bytes spell back any number that fits them; eight bytes spell a set back.
pub number_bytes : (n x : ℕ) → x < 256 ^ n → number (bytes n x) ≡ x
unfolding number bytes
number_bytes zero x h = omega arith
number_bytes (suc n) x h =
    let rest : number (bytes n (x / 256)) ≡ x / 256 = number_bytes n (x / 256) (omega (arith, pow-suc 256 n)) in
    omega arith

pub set_back : (p : ℕ → Bool) → ((k : ℕ) → 64 ≤ k → p k ≡ false) → (k : ℕ) → bit (number (bytes 8 (bits p))) k ≡ p k
set_back p none k =
    rw (number_bytes 8 (bits p) (bits_low p))
    (⊎_elim (λ (e : ltb k 64 ≡ true). bits_bit p k (ltb-true k 64 e))
    (λ (e : ltb k 64 ≡ false).
    let high = ltb-false k 64 e in
    bit_past 64 (bits p) k (bits_low p) high ∙ sym (none k high))
    (either (ltb k 64)))
