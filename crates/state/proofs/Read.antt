-- Reading an image: a record's columns are four bytes, and what is read so far stands in the arrays.
use mathlib.Core.Bool.{Bool, true, false, ◌||◌, or-false}
use mathlib.Core.List.{List}
use mathlib.Core.Logic.{⊎_elim, inl, inr}
use mathlib.Core.Path.{◌≡◌, refl, sym, ap, ap₂, ◌∙◌}
use Prim.Native.Nat.{ℕ, zero, suc, ◌+◌, ◌*◌, ◌-◌, ◌≤◌, ◌<◌}
use native.Mathlib.Nat.{not-suc-le-zero, add-zero}
use native.Mathlib.Omega.{arith}
use lib.Bits.{bit_or, or_add_and, and_le_l, and_le_r}
use lib.Dec.{eqb, ltb}
use lib.ListN.{length, get_or, take, drop, set, replicate, length-replicate, length-take}
use lib.Seq.{get_or-set_same, get_or-set_other}
use borrow.Author.Count.{below_more}
use borrow.Author.Tests.{eq-eqb, ne_eqb, ltb-true, ltb-false}
use Rattle.meaning.specs.Bytes.{bit}
use Rattle.meaning.specs.Image.{image}
use Rattle.meaning.proofs.Bool.{either}
use Rattle.meaning.proofs.Bytes.{cut_read}
use Rattle.meaning.proofs.Walk.{compared}
use Rattle.std.proofs.lemmas.List.{get_or-take, get_or-drop}
use Rattle.sets.proofs.Bits.{bit_zero}
use Rattle.sets.proofs.Rows.{all_zero}
use Rattle.rows.proofs.Few.{transitions_le, past}
use Rattle.state.specs.Records.{Blank, Quiet}

-- The number and the third byte of a record.
pub number_at : (bs : List ℕ) (k : ℕ) → k < 192
    → (image bs).number k ≡ get_or bs (4 * k) 0 + 256 * get_or bs (4 * k + 1) 0
unfolding image
number_at bs k h =
    ap₂ (λ (a b : ℕ). a + 256 * b) (cut_read 4 192 k 0 bs h (omega arith)
    ∙ ap (λ (i : ℕ). get_or bs i 0) (add-zero (4 * k)))
    (cut_read 4 192 k 1 bs h (omega arith))

pub third_at : (bs : List ℕ) (k : ℕ) → k < 192 → (image bs).third k ≡ get_or bs (4 * k + 2) 0
unfolding image
third_at bs k h = cut_read 4 192 k 2 bs h (omega arith)

pub fourth_at : (bs : List ℕ) (k : ℕ) → k < 192 → (image bs).fourth k ≡ get_or bs (4 * k + 3) 0
unfolding image
fourth_at bs k h = cut_read 4 192 k 3 bs h (omega arith)

-- The same bytes of transition t.
pub transition_third : (bs : List ℕ) (t : ℕ) → t < 64 → (image bs).third (128 + t) ≡ get_or bs (512 + 4 * t + 2) 0
transition_third bs t h =
    let there : 4 * (128 + t) + 2 ≡ 512 + 4 * t + 2 = omega arith in
    third_at bs (128 + t) (omega arith) ∙ ap (λ (i : ℕ). get_or bs i 0) there

pub transition_fourth : (bs : List ℕ) (t : ℕ) → t < 64 → (image bs).fourth (128 + t) ≡ get_or bs (512 + 4 * t + 3) 0
transition_fourth bs t h =
    let there : 4 * (128 + t) + 3 ≡ 512 + 4 * t + 3 = omega arith in
    fourth_at bs (128 + t) (omega arith) ∙ ap (λ (i : ℕ). get_or bs i 0) there

-- Where the bits of two bytes put together are 0, both bytes are.
pub both_zero : (a b : ℕ) → bit_or a b ≡ 0 → (a ≡ 0) × (b ≡ 0)
both_zero a b e = (omega (arith, or_add_and a b, and_le_r a b), omega (arith, or_add_and a b, and_le_l a b))

-- Bytes of 0, and one more where its bits add nothing: byte i of the part from `from` on.
pub quiet_more : (bs : List ℕ) (from to i any : ℕ) → i < length (take (to - from) (drop from bs))
    → (any ≡ 0 → Quiet bs from (from + i))
    → bit_or any (get_or (take (to - from) (drop from bs)) i 0) ≡ 0
    → Quiet bs from (from + (i + 1))
quiet_more bs from to i any inside q e j l h =
    let none = both_zero any (get_or (take (to - from) (drop from bs)) i 0) e in
    let within : i < to - from = omega (arith, length-take (to - from) (drop from bs)) in
    let here : get_or bs (from + i) 0 ≡ 0 =
    sym (get_or-take (to - from) (drop from bs) i 0 within ∙ get_or-drop from bs i 0) ∙ none.1 in
    elim (compared j (from + i)) [
      | inl below ↦ q none.0 j l below
      | inr (inl same) ↦ ap (λ (k : ℕ). get_or bs k 0) same ∙ here
      | inr (inr above) ↦ absurd (omega arith)
    ]

-- A record whose bytes are 0 is 0.
pub quiet_is : (bs : List ℕ) (from to k : ℕ) → Quiet bs from to → from ≤ 4 * k → 4 * k + 4 ≤ to → k < 192
    → Blank (image bs) k
quiet_is bs from to k none l h m =
    record {
      number =
          omega (
            arith,
            number_at bs k m,
            none (4 * k) (omega arith) (omega arith),
            none (4 * k + 1) (omega arith) (omega arith),
          );
      third = omega (arith, third_at bs k m, none (4 * k + 2) (omega arith) (omega arith));
      fourth = omega (arith, fourth_at bs k m, none (4 * k + 3) (omega arith) (omega arith));
    }

-- The four bytes of a record that is 0.
pub blank_bytes : (bs : List ℕ) (k j : ℕ) → k < 192 → Blank (image bs) k → j < 4 → get_or bs (4 * k + j) 0 ≡ 0
blank_bytes bs k zero h blank l =
    let sum : get_or bs (4 * k) 0 + 256 * get_or bs (4 * k + 1) 0 ≡ 0 = sym (number_at bs k h) ∙ blank.number in
    ap (λ (i : ℕ). get_or bs i 0) (add-zero (4 * k)) ∙ omega (arith, sum)
blank_bytes bs k (suc zero) h blank l =
    let sum : get_or bs (4 * k) 0 + 256 * get_or bs (4 * k + 1) 0 ≡ 0 = sym (number_at bs k h) ∙ blank.number in
    omega (arith, sum)
blank_bytes bs k (suc (suc zero)) h blank l = sym (third_at bs k h) ∙ blank.third
blank_bytes bs k (suc (suc (suc zero))) h blank l = sym (fourth_at bs k h) ∙ blank.fourth
blank_bytes bs k (suc (suc (suc (suc j)))) h blank l = absurd (omega arith)

-- An array that is lent empty.
pub empty_row : (m : ℕ) (xs : List ℕ) → xs ≡ replicate m 0 → (length xs ≡ m) × ((i : ℕ) → get_or xs i 0 ≡ 0)
empty_row m xs e =
    let long : length xs ≡ m = ap (λ (l : List ℕ). length l) e ∙ length-replicate {A = ℕ} m 0 in
    (long, all_zero xs (e ∙ ap (λ (n : ℕ). replicate {A = ℕ} n 0) (sym long)))

-- An array lists the first n of the numbers f, and each fits two bytes.
pub record Lists (n : ℕ) (f : ℕ → ℕ) (xs : List ℕ) : Type 0 where
  pub same : (i : ℕ) → i < n → get_or xs i 0 ≡ f i
  pub small : (i : ℕ) → i < n → get_or xs i 0 ≤ 65535

-- The numbers read so far: none, one more, and all the others where these are 0.
pub lists_none : (f : ℕ → ℕ) (xs : List ℕ) → Lists 0 f xs
lists_none f xs = record { same = λ i h. absurd (not-suc-le-zero h); small = λ i h. absurd (not-suc-le-zero h) }

pub lists_more : (i : ℕ) (f : ℕ → ℕ) (xs : List ℕ) (x : ℕ) → Lists i f xs → i < length xs → x ≡ f i → x ≤ 65535
    → Lists (i + 1) f (set xs i x)
lists_more i f xs x l h e s =
    let other : (j : ℕ) → j < i → get_or (set xs i x) j 0 ≡ get_or xs j 0 =
    λ j a. get_or-set_other xs i j x 0 (λ q. omega arith) in
    let here : get_or (set xs i x) i 0 ≡ x = get_or-set_same xs i x 0 h in
    record {
      same = below_more _ i (λ j a. other j a ∙ l.same j a) (here ∙ e);
      small = below_more _ i (λ j a. rw (other j a) (l.small j a)) (rw here s);
    }

pub lists_rest : (n m : ℕ) (f : ℕ → ℕ) (xs : List ℕ) → Lists n f xs → ((i : ℕ) → n ≤ i → get_or xs i 0 ≡ 0)
    → ((i : ℕ) → n ≤ i → i < m → f i ≡ 0)
    → Lists m f xs
lists_rest n m f xs l none past =
    record {
      same = λ i h.
          ⊎_elim (λ (e : ltb i n ≡ true). l.same i (ltb-true i n e))
          (λ (e : ltb i n ≡ false). none i (ltb-false i n e) ∙ sym (past i (ltb-false i n e) h))
          (either (ltb i n));
      small = λ i h.
          ⊎_elim (λ (e : ltb i n ≡ true). l.small i (ltb-true i n e))
          (λ (e : ltb i n ≡ false). omega (arith, none i (ltb-false i n e)))
          (either (ltb i n));
    }

-- What is not written yet is still empty.
pub still_none : (n : ℕ) (xs : List ℕ) (x : ℕ) → ((i : ℕ) → n ≤ i → get_or xs i 0 ≡ 0) → (i : ℕ) → n + 1 ≤ i
    → get_or (set xs n x) i 0 ≡ 0
still_none n xs x none i h = get_or-set_other xs n i x 0 (λ e. omega (arith, e, h)) ∙ none i (omega (arith, h))

-- Of the first t numbers a set has those that pass f, and it has no others.
pub record Marked (t : ℕ) (f : ℕ → Bool) (s : ℕ) : Type 0 where
  pub below : (j : ℕ) → j < t → bit s j ≡ f j
  pub above : (j : ℕ) → t ≤ j → bit s j ≡ false

-- A set made so far: of none, with the next number passed over, with the next number joined, and with all others
-- passed over.
pub marked_none : (f : ℕ → Bool) → Marked 0 f 0
marked_none f = record { below = λ j h. absurd (not-suc-le-zero h); above = λ j h. bit_zero j }

pub marked_same : (t : ℕ) (f : ℕ → Bool) (s : ℕ) → Marked t f s → f t ≡ false → Marked (t + 1) f s
marked_same t f s m off =
    record {
      below = below_more _ t m.below (m.above t (omega arith) ∙ sym off);
      above =
          λ j h. m.above j (omega arith);
    }

pub marked_more : (t : ℕ) (f : ℕ → Bool) (s r : ℕ) → Marked t f s → f t ≡ true
    → ((j : ℕ) → bit r j ≡ (bit s j || eqb t j)) → Marked (t + 1) f r
marked_more t f s r m e says =
    record {
      below = below_more _ t (λ j l. says j ∙ rw (ne_eqb t j (λ q. omega arith), m.below j l) (or-false (f j)))
          (says t ∙ rw (m.above t (omega arith), eq-eqb t t refl) (sym e));
      above = λ j l. says j ∙ rw (ne_eqb t j (λ q. omega arith), m.above j (omega arith));
    }

pub marked_rest : (t n : ℕ) (f : ℕ → Bool) (s : ℕ) → Marked t f s → ((j : ℕ) → t ≤ j → j < n → f j ≡ false) → (j : ℕ)
    → j < n → bit s j ≡ f j
marked_rest t n f s m off j h =
    ⊎_elim (λ (e : ltb j t ≡ true). m.below j (ltb-true j t e))
    (λ (e : ltb j t ≡ false). m.above j (ltb-false j t e) ∙ sym (off j (ltb-false j t e) h))
    (either (ltb j t))

-- What the columns of a record are, and what a loop that reads numbers and a set has read.
pub ruleset columns = (number_at, third_at, fourth_at, transition_third, transition_fourth)

pub ruleset listing = (lists_more, lists_rest, still_none, marked_rest, transitions_le, past)
