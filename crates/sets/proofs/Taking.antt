-- A walk over the members of a set, the lowest first: each turn takes one out, so that the set falls.
use mathlib.Core.Bool.{Bool, true, false, cond, not, ◌&&◌, ◌||◌, and-true, and-false, or-false}
use mathlib.Core.Path.{◌≡◌, refl, sym, ap, ◌∙◌}
use Prim.Native.Nat.{ℕ, ◌+◌, ◌-◌, ◌^◌, ◌<◌}
use native.Mathlib.Nat.{add-zero, zero-add}
use native.Mathlib.Omega.{arith}
use lib.Dec.{eqb}
use lib.Pow.{pow_pos}
use borrow.Author.Tests.{eqb-true, eqb-false, eq-eqb, ne_eqb, not-false}
use Rattle.meaning.specs.Below.{some, sum, first}
use Rattle.meaning.specs.Bytes.{bit}
use Rattle.meaning.proofs.Bool.{not_both}
use Rattle.meaning.proofs.Below.{some_elim, first_before, first_passes, sum_same, sum_add}
use Rattle.meaning.proofs.Sound.{sum_one}
use Rattle.sets.proofs.Bits.{bit_least, bit_less, same_set, zero_set}

-- The lowest member of a set that is not empty is below 64, and is in the set.
pub lowest_in : (a k : ℕ) → a < 2 ^ 64 → ¬ (a ≡ 0) → k ≡ first 64 (bit a) → (k < 64) × (bit a k ≡ true)
lowest_in a k h n e =
    let w = some_elim 64 (bit a) (not-false (some 64 (bit a)) (sym (zero_set a h) ∙ ne_eqb a 0 n)) in
    let above : ¬ (w.0 < first 64 (bit a)) = λ l. not_both w.2 (first_before 64 (bit a) w.0 l) in
    let low : first 64 (bit a) < 64 = omega (arith, w.1) in
    (omega arith, ap (bit a) e ∙ first_passes 64 (bit a) low)

-- A set without a lowest member has none.
pub none_in : (a : ℕ) → a < 2 ^ 64 → first 64 (bit a) ≡ 64 → a ≡ 0
none_in a h e = go (eqb a 0) refl
  where
    go : (b : Bool) → eqb a 0 ≡ b → a ≡ 0
    go true y = eqb-true a 0 y
    go false y = absurd (omega (arith, (lowest_in a _ h (eqb-false a 0 y) refl).0))

-- The sum of f over the members of a set.
abbrev pub over : ℕ → (ℕ → ℕ) → ℕ
over s f = sum 64 (λ t. cond (bit s t) (f t) 0)

-- What is left after a turn is what was left without the lowest member.
pub without : (left k rest : ℕ) → k ≡ first 64 (bit left)
    → ((j : ℕ) → bit rest j ≡ (bit left j && not (eqb (first 64 (bit left)) j)))
    → (j : ℕ) → bit rest j ≡ (bit left j && not (eqb k j))
without left k rest e less j = less j ∙ ap (λ (x : ℕ). bit left j && not (eqb x j)) (sym e)

-- A turn takes member k out of set a and leaves set b.
module _ (a k b : ℕ) (rest : (j : ℕ) → bit b j ≡ (bit a j && not (eqb k j))) where
  -- The set falls.
  pub falls : a < 2 ^ 64 → b < 2 ^ 64 → bit a k ≡ true → b < a
  falls h l e =
      let least = bit_least a k e in
      let same : b ≡ a - 2 ^ k = same_set b (a - 2 ^ k) l (omega arith) (λ j _. rest j ∙ sym (bit_less k a j e)) in
      omega (arith, pow_pos k)

  -- What holds of all that are out of a, and of k, holds of all that are out of b.
  pub out_more : (P : ℕ → Type 0) → ((j : ℕ) → bit a j ≡ false → P j) → P k → (j : ℕ) → bit b j ≡ false → P j
  out_more P out here j z = go (eqb k j) refl
    where
      go : (x : Bool) → eqb k j ≡ x → P j
      go true y = rw (← eqb-true k j y) here
      go false y = out j (sym (and-true (bit a j)) ∙ sym (rw y at (rest j)) ∙ z)

  -- Member k is kept if it passes: what is kept or is still to be kept stays the same.
  pub kept : (f : ℕ → Bool) (r after : ℕ) (y : Bool) → bit a k ≡ true → y ≡ f k
      → ((j : ℕ) → bit after j ≡ (bit r j || (y && eqb k j))) → (t : ℕ)
      → (bit after t || (bit b t && f t)) ≡ (bit r t || (bit a t && f t))
  kept f r after y e passes gains t = go (eqb k t) refl
    where
      go : (x : Bool) → eqb k t ≡ x → (bit after t || (bit b t && f t)) ≡ (bit r t || (bit a t && f t))
      go true q = rw (← eqb-true k t q, gains k, rest k, e, eq-eqb k k refl, and-true y, passes) (or-false _)
      go false q = rw (gains t, rest t, q, and-false y, or-false (bit r t), and-true (bit a t))

  -- Something of every member adds up to that of member k and of the others.
  pub over_less : (f : ℕ → ℕ) → k < 64 → bit a k ≡ true → over a f ≡ f k + over b f
  over_less f low has =
      sum_same 64 (λ t. cond (bit a t) (f t) 0) (λ t. cond (eqb k t) (f t) 0 + cond (bit b t) (f t) 0)
      (λ t h. rw (rest t) (part t (eqb k t) (bit a t) refl refl))
      ∙ sum_add 64 (λ t. cond (eqb k t) (f t) 0) (λ t. cond (bit b t) (f t) 0)
      ∙ ap (λ (x : ℕ). x + over b f) alone
    where
      part : (t : ℕ) (x y : Bool) → eqb k t ≡ x → bit a t ≡ y
          → cond y (f t) 0 ≡ cond x (f t) 0 + cond (y && not x) (f t) 0
      part t true true e d = sym (add-zero (f t))
      part t true false e d = not_both (ap (bit a) (sym (eqb-true k t e)) ∙ has) d
      part t false true e d = sym (zero-add (f t))
      part t false false e d = refl

      alone : sum 64 (λ t. cond (eqb k t) (f t) 0) ≡ f k
      alone =
          sum_one 64 (λ t. cond (eqb k t) (f t) 0) k low (λ t h n. rw (ne_eqb k t (λ e. n (sym e))))
          ∙ rw (eq-eqb k k refl)
