-- Writing an image: four stores are one record, the records stored so far are those of the state, and 192 of them are
-- the image.
use mathlib.Core.Bool.{true, false}
use mathlib.Core.List.{List, [], ◌∷◌, ◌++◌}
use mathlib.Core.Logic.{⊎_elim}
use mathlib.Core.Path.{◌≡◌, refl, sym, ap, ◌∙◌, subst}
use Prim.Native.Nat.{ℕ, zero, suc, ◌+◌, ◌-◌, ◌*◌, ◌/◌, ◌%◌, ◌≤◌, ◌<◌}
use native.Mathlib.Nat.{add-zero}
use native.Mathlib.Omega.{arith}
use lib.ListN.{length, get_or, set, length-set}
use lib.Seq.{get_or-set_same, get_or-set_other}
use lib.Dec.{ltb}
use borrow.Author.Count.{below_more}
use borrow.Author.Tests.{ltb-true, ltb-false}
use Rattle.meaning.specs.Bytes.{bytes}
use Rattle.meaning.specs.Image.{State, image, image_bytes}
use Rattle.meaning.proofs.Bool.{either}
use Rattle.meaning.proofs.Image.{image_length, place_byte, transition_byte}
use Rattle.state.specs.Records.{Blank}
use Rattle.state.specs.Stored.{Stored}
use Rattle.state.proofs.Read.{blank_bytes}
use Rattle.state.proofs.Images.{image_same}

-- The bytes with the four of record k stored.
abbrev pub stored : List ℕ → ℕ → ℕ → ℕ → ℕ → ℕ → List ℕ
stored bs k a b c d = set (set (set (set bs (4 * k) a) (4 * k + 1) b) (4 * k + 2) c) (4 * k + 3) d

module _ (bs : List ℕ) (k a b c d : ℕ) (long : length bs ≡ 768) (low : k < 192) where
  -- The bytes after one, two and three stores.
  abbrev one : List ℕ
  one = set bs (4 * k) a

  abbrev two : List ℕ
  two = set one (4 * k + 1) b

  abbrev three : List ℕ
  three = set two (4 * k + 2) c

  inside : (j : ℕ) → j < 4 → 4 * k + j < length bs
  inside j h = omega (arith, long, low)

  -- Byte j of record k, store by store.
  stored_here : (j : ℕ) → j < 4 → get_or (stored bs k a b c d) (4 * k + j) 0 ≡ get_or (a ∷ b ∷ c ∷ d ∷ []) j 0
  stored_here zero h =
      ap (λ (i : ℕ). get_or (stored bs k a b c d) i 0) (add-zero (4 * k))
      ∙ get_or-set_other three (4 * k + 3) (4 * k) d 0 (λ e. omega arith)
      ∙ get_or-set_other two (4 * k + 2) (4 * k) c 0 (λ e. omega arith)
      ∙ get_or-set_other one (4 * k + 1) (4 * k) b 0 (λ e. omega arith)
      ∙ get_or-set_same bs (4 * k) a 0 (omega (arith, inside 0 h))
  stored_here (suc zero) h =
      get_or-set_other three (4 * k + 3) (4 * k + 1) d 0 (λ e. omega arith)
      ∙ get_or-set_other two (4 * k + 2) (4 * k + 1) c 0 (λ e. omega arith)
      ∙ get_or-set_same one (4 * k + 1) b 0 (simp length-set (inside 1 h))
  stored_here (suc (suc zero)) h =
      get_or-set_other three (4 * k + 3) (4 * k + 2) d 0 (λ e. omega arith)
      ∙ get_or-set_same two (4 * k + 2) c 0 (simp length-set (inside 2 h))
  stored_here (suc (suc (suc zero))) h = get_or-set_same three (4 * k + 3) d 0 (simp length-set (inside 3 h))
  stored_here (suc (suc (suc (suc j)))) h = absurd (omega arith)

  -- Four stores of the bytes of x are the record, and touch no other.
  pub stored_is : (x : ℕ) → a ∷ b ∷ c ∷ d ∷ [] ≡ bytes 2 x ++ 0 ∷ 0 ∷ [] → Stored bs k x (stored bs k a b c d)
  stored_is x e =
      record {
        long = simp length-set long;
        here = λ j h. stored_here j h ∙ ap (λ (v : List ℕ). get_or v j 0) e;
        others = λ n j apart h.
            get_or-set_other three (4 * k + 3) (4 * n + j) d 0 (λ e. apart (omega arith))
            ∙ get_or-set_other two (4 * k + 2) (4 * n + j) c 0 (λ e. apart (omega arith))
            ∙ get_or-set_other one (4 * k + 1) (4 * n + j) b 0 (λ e. apart (omega arith))
            ∙ get_or-set_other bs (4 * k) (4 * n + j) a 0 (λ e. apart (omega arith));
      }

-- The bytes of a number that fits two.
pub two_of : (x : ℕ) → x ≤ 65535 → x % 256 ∷ x / 256 ∷ 0 ∷ 0 ∷ [] ≡ bytes 2 x ++ 0 ∷ 0 ∷ []
unfolding bytes
two_of x h =
    let half : x / 256 % 256 ≡ x / 256 = omega arith in
    rw half

-- The first k records are those of the image wanted, and the others as they were of old.
pub record Upto (want old : List ℕ) (k : ℕ) (bs : List ℕ) : Type 0 where
  pub long : length bs ≡ 768
  pub right : (n : ℕ) → n < k → (j : ℕ) → j < 4 → get_or bs (4 * n + j) 0 ≡ get_or want (4 * n + j) 0
  pub rest : (n : ℕ) → k ≤ n → (j : ℕ) → j < 4 → get_or bs (4 * n + j) 0 ≡ get_or old (4 * n + j) 0

-- One more record.
upto_more : (want old bs next : List ℕ) (k x : ℕ) → Upto want old k bs → Stored bs k x next
    → ((j : ℕ) → j < 4 → get_or want (4 * k + j) 0 ≡ get_or (bytes 2 x ++ 0 ∷ 0 ∷ []) j 0) → Upto want old (k + 1) next
upto_more want old bs next k x u s is =
    record {
      long = s.long;
      right =
          below_more _ k (λ n l j h. s.others n j (λ e. omega arith) h ∙ u.right n l j h)
          (λ j h. s.here j h ∙ sym (is j h));
      rest = λ n l j h. s.others n j (λ e. omega arith) h ∙ u.rest n (omega arith) j h;
    }

-- Records that were right of old.
upto_past : (want old bs : List ℕ) (k n : ℕ) → Upto want old k bs → k ≤ n
    → ((i : ℕ) → k ≤ i → i < n → (j : ℕ) → j < 4 → get_or old (4 * i + j) 0 ≡ get_or want (4 * i + j) 0)
    → Upto want old n bs
upto_past want old bs k n u l same =
    record {
      long = u.long;
      right = λ i h j d.
          ⊎_elim (λ (e : ltb i k ≡ true). u.right i (ltb-true i k e) j d)
          (λ (e : ltb i k ≡ false). u.rest i (ltb-false i k e) j d ∙ same i (ltb-false i k e) h j d)
          (either (ltb i k));
      rest = λ i h j d. u.rest i (omega (arith, l, h)) j d;
    }

-- Counted from here on.
pub upto_here : (want old bs : List ℕ) (k : ℕ) → Upto want old k bs → Upto want bs k bs
upto_here want old bs k u = record { long = u.long; right = u.right; rest = λ n h j d. refl }

-- The record of nothing is four bytes of 0.
no_byte : (j : ℕ) → j < 4 → get_or (bytes 2 0 ++ 0 ∷ 0 ∷ []) j 0 ≡ 0
unfolding bytes
no_byte zero h = refl
no_byte (suc zero) h = refl
no_byte (suc (suc zero)) h = refl
no_byte (suc (suc (suc zero))) h = refl
no_byte (suc (suc (suc (suc j)))) h = absurd (omega arith)

module _ (s : State) (old : List ℕ) where
  -- Places at which there is nothing, and was nothing of old; and transitions.
  pub idle_places : (bs : List ℕ) (n : ℕ) → n ≤ 128 → ((p : ℕ) → n ≤ p → p < 128 → Blank (image old) p)
      → ((p : ℕ) → n ≤ p → p < 128 → s.tokens p ≡ 0)
      → Upto (image_bytes s) old n bs → Upto (image_bytes s) old 128 bs
  idle_places bs n low blank none u =
      upto_past (image_bytes s) old bs n 128 u low
      (λ p l h j d.
      blank_bytes old p j (omega arith) (blank p l h) d
      ∙ sym (place_byte s p j h d ∙ ap (λ (x : ℕ). get_or (bytes 2 x ++ 0 ∷ 0 ∷ []) j 0) (none p l h) ∙ no_byte j d))

  pub idle_transitions : (bs : List ℕ) (n : ℕ) → n ≤ 64
      → ((t : ℕ) → n ≤ t → t < 64 → (j : ℕ) → j < 4 → get_or old (4 * (128 + t) + j) 0 ≡ 0)
      → ((t : ℕ) → n ≤ t → t < 64 → s.counter t ≡ 0) → ((k : ℕ) → s.order k ≡ false)
      → Upto (image_bytes s) old (128 + n) bs → Upto (image_bytes s) old 192 bs
  idle_transitions bs n low blank none unordered u =
      upto_past (image_bytes s) old bs (128 + n) 192 u (omega arith)
      (λ i l h j d.
      let split : i ≡ 128 + (i - 128) = omega (arith, l) in
      let past : n ≤ i - 128 = omega (arith, l) in
      let small : i - 128 < 64 = omega (arith, h, l) in
      subst (λ (k : ℕ). get_or old (4 * k + j) 0 ≡ get_or (image_bytes s) (4 * k + j) 0) (sym split)
      (blank (i - 128) past small j d
      ∙ sym
      (transition_byte s (i - 128) j small d
      ∙ rw (unordered (i - 128)) (ap (λ (x : ℕ). get_or (bytes 2 x ++ 0 ∷ 0 ∷ []) j 0) (none (i - 128) past small)
      ∙ no_byte j d))))

  -- A place's record, and a transition's.
  pub upto_place : (bs next : List ℕ) (p : ℕ) → p < 128 → Upto (image_bytes s) old p bs → Stored bs p (s.tokens p) next
      → Upto (image_bytes s) old (p + 1) next
  upto_place bs next p h u w =
      upto_more (image_bytes s) old bs next p (s.tokens p) u w (λ j l. place_byte s p j h l)

  pub upto_transition : (bs next : List ℕ) (t : ℕ) → t < 64 → ((k : ℕ) → s.order k ≡ false)
      → Upto (image_bytes s) old (128 + t) bs → Stored bs (128 + t) (s.counter t) next
      → Upto (image_bytes s) old (128 + (t + 1)) next
  upto_transition bs next t h none u w =
      let on : 128 + t + 1 ≡ 128 + (t + 1) = omega arith in
      rw on at
      (upto_more (image_bytes s) old bs next (128 + t) (s.counter t) u w
      (λ j l. transition_byte s t j h l ∙ rw (none t)))

  -- All 192 records are the image.
  pub upto_all : (bs : List ℕ) → Upto (image_bytes s) old 192 bs → bs ≡ image_bytes s
  upto_all bs u = image_same bs (image_bytes s) u.long (image_length s) (λ k j h l. u.right k h j l)
