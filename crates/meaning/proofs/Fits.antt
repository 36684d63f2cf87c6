-- An image that fits, after a cycle that is not refused, fits again: each counter stays at most as high as its sort
-- allows, and a place that no record declares has no arc to fill it.
use mathlib.Core.Bool.{Bool, true, false, cond, not, ◌&&◌, ◌||◌, and-false}
use mathlib.Core.List.{List}
use mathlib.Core.Logic.{◌⊎◌, inl, inr, ⊎_elim}
use mathlib.Core.Path.{◌≡◌, refl, sym, ap, ◌∙◌}
use Prim.Native.Nat.{ℕ, zero, suc, ◌+◌, ◌-◌, ◌≤◌, ◌<◌}
use native.Mathlib.Nat.{le_trans}
use native.Mathlib.Omega.{arith}
use lib.Dec.{ltb, leb, eqb}
use borrow.Author.Tests.{ltb-true, ltb-false, le-ltb, lt-ltb, leb-true, eqb-true}
use Rattle.meaning.specs.Below.{within}
use Rattle.meaning.specs.Table.{Table, total, place, timing, a_of, b_of, post}
use Rattle.meaning.specs.Image.{Image, image, State, state, image_bytes, most, most_order, wrong, wrong_place}
use Rattle.meaning.specs.Image.{wrong_transition}
use Rattle.meaning.specs.Cycle.{enabled, risen, counted, falling, withdrawn, added, marked, reset, rising, cycle}
use Rattle.meaning.proofs.Bool.{either, not_both, or_false_left, or_false_right, and_left, and_right}
use Rattle.meaning.proofs.Below.{sum_zero}
use Rattle.meaning.proofs.Image.{place_number, place_third, place_fourth, transition_number, transition_third}
use Rattle.meaning.proofs.Image.{transition_fourth}
use Rattle.meaning.proofs.Enabled.{arc_is}
use Rattle.meaning.proofs.Well.{Well}

-- An image fits a table: no record of it is wrong (answer 10 is not given).
abbrev pub Fits : Table → Image → Type 0
Fits tb img = (k : ℕ) → k < 192 → wrong tb img k ≡ false

module _ (tb : Table) (img : Image) (fits : Fits tb img) where
  -- Of an image that fits: undeclared places are empty, and counters and reset orders are at most the highest.
  pub fits_place : (p : ℕ) → p < 128 → wrong_place tb img p ≡ false
  unfolding wrong
  fits_place p h = rw (lt-ltb p 128 h) at (fits p (omega arith))

  pub fits_transition : (t : ℕ) → t < 64 → wrong_transition tb img t ≡ false
  unfolding wrong
  fits_transition t h =
      let here : 128 + t - 128 ≡ t = omega arith in
      rw here at (rw (le-ltb (128 + t) 128 (omega arith)) at (fits (128 + t) (omega arith)))

  pub fits_empty : (p : ℕ) → p < 128 → place tb p ≡ false → (state img).tokens p ≡ 0
  unfolding wrong_place state
  fits_empty p h e =
      ⊎_elim (λ (z : eqb (img.number p) 0 ≡ true). eqb-true (img.number p) 0 z)
      (λ (z : eqb (img.number p) 0 ≡ false).
      not_both
      (rw (z, e))
      (or_false_right (not (eqb (img.third p) 0) || not (eqb (img.fourth p) 0)) (not (eqb (img.number p) 0) && not (place tb p)) (fits_place p h)))
      (either (eqb (img.number p) 0))

  pub fits_counter : (t : ℕ) → t < 64 → (state img).counter t ≤ most tb t
  unfolding wrong_transition state
  fits_counter t h =
      ltb-false (most tb t) (img.number (128 + t))
      (or_false_left (ltb (most tb t) (img.number (128 + t))) (ltb (most_order tb t) (img.third (128 + t)))
      (or_false_left _ (not (eqb (img.fourth (128 + t)) 0)) (fits_transition t h)))

-- The three sorts.
pub sorts : (n : ℕ) → n ≤ 2 → (n ≡ 0) ⊎ ((n ≡ 1) ⊎ (n ≡ 2))
sorts zero h = inl refl
sorts (suc zero) h = inr (inl refl)
sorts (suc (suc zero)) h = inr (inr refl)
sorts (suc (suc (suc n))) h = absurd (omega arith)

module _ (tb : Table) (well : Well tb) where
  -- No counter passes the highest that fits.
  pub counted_low : (s : State) (t : ℕ) → s.counter t ≤ most tb t → counted tb s t ≤ most tb t
  unfolding counted risen most
  counted_low s t h = ⊎_elim untimed (⊎_elim between from) (sorts (timing tb t) (well.timing_sort t))
    where
      untimed : timing tb t ≡ 0 → counted tb s t ≤ most tb t
      untimed e = rw e (rw e at h)

      between : timing tb t ≡ 1 → counted tb s t ≤ most tb t
      between e =
          let low : s.counter t ≤ b_of tb t + 1 = rw e at h in
          rw e (go (enabled tb s.tokens t) (s.order t) (leb (s.counter t) (b_of tb t)) refl low)
        where
          go : (on again fits : Bool) → leb (s.counter t) (b_of tb t) ≡ fits → s.counter t ≤ b_of tb t + 1
              → cond on (cond again 1 (cond fits (suc (s.counter t)) (s.counter t))) 0 ≤ b_of tb t + 1
          go true true fits e l = omega arith
          go true false true e l = omega (arith, leb-true (s.counter t) (b_of tb t) e)
          go true false false e l = l
          go false again fits e l = omega arith

      from : timing tb t ≡ 2 → counted tb s t ≤ most tb t
      from e =
          let low : s.counter t ≤ a_of tb t = rw e at h in
          let some_time : 1 ≤ a_of tb t = well.a_low t (λ z. omega arith) in
          rw e (go (enabled tb s.tokens t) (s.order t) (ltb (s.counter t) (a_of tb t)) refl low some_time)
        where
          go : (on again fits : Bool) → ltb (s.counter t) (a_of tb t) ≡ fits → s.counter t ≤ a_of tb t → 1 ≤ a_of tb t
              → cond on (cond again 1 (cond fits (suc (s.counter t)) (s.counter t))) 0 ≤ a_of tb t
          go true true fits e l o = o
          go true false true e l o = ltb-true (s.counter t) (a_of tb t) e
          go true false false e l o = l
          go false again fits e l o = omega arith

  -- The highest counter that fits takes two bytes.
  pub most_low : (t : ℕ) → most tb t ≤ 65535
  unfolding most
  most_low t =
      ⊎_elim (λ (e : timing tb t ≡ 0). rw e (omega arith))
      (⊎_elim (λ (e : timing tb t ≡ 1). rw e (omega (arith, well.b_high t))) (λ (e : timing tb t ≡ 2). rw e (well.a_high t)))
      (sorts (timing tb t) (well.timing_sort t))

  -- Nothing moves at a place that no record declares.
  quiet : (a : ℕ → Bool) (F : ℕ → Bool) (p : ℕ) → ((r : ℕ) → a r ≡ true → tb.kind r ≡ 3) → place tb p ≡ false
      → total tb (λ r. a r && eqb (tb.one r) p && F (tb.two r)) tb.four ≡ 0
  unfolding total
  quiet a F p arcs none =
      sum_zero tb.records _ (λ r l. zero_of (a r && eqb (tb.one r) p && F (tb.two r)) (tb.four r) (λ e. both_hold r l (and_left _ (F (tb.two r)) e)))
    where
      zero_of : (b : Bool) (w : ℕ) → (b ≡ true → ⊥) → cond b w 0 ≡ 0
      zero_of true w f = absurd (f refl)
      zero_of false w f = refl

      both_hold : (r : ℕ) → r < tb.records → (a r && eqb (tb.one r) p) ≡ true → ⊥
      both_hold r l e =
          not_both (ap (place tb) (sym (eqb-true (tb.one r) p (and_right (a r) _ e))) ∙ well.arc_place r l (arcs r (and_left (a r) _ e))) none

  pub empty_stays : (m : ℕ → ℕ) (F : ℕ → Bool) (p : ℕ) → place tb p ≡ false → m p ≡ 0 → marked tb m F p ≡ 0
  unfolding marked withdrawn added
  empty_stays m F p none e =
      omega (arith, quiet (post tb) F p (λ r b. (arc_is tb 3 r b).0) none)

  -- A state whose counters fit and whose undeclared places and untimed transitions are empty gives an image that fits.
  pub image_fits : (s : State) → ((p : ℕ) → p < 128 → s.tokens p ≤ 65535)
      → ((p : ℕ) → p < 128 → place tb p ≡ false → s.tokens p ≡ 0)
      → ((t : ℕ) → t < 64 → s.counter t ≤ most tb t) → ((t : ℕ) → t < 64 → timing tb t ≡ 0 → s.order t ≡ false)
      → Fits tb (image (image_bytes s))
  unfolding wrong wrong_place wrong_transition most_order
  image_fits s small empty low still k h =
      ⊎_elim (λ (l : ltb k 128 ≡ true). rw l (place_part k (ltb-true k 128 l)))
      (λ (l : ltb k 128 ≡ false). rw l (transition_part (k - 128) (omega (arith, ltb-false k 128 l))))
      (either (ltb k 128))
    where
      place_part : (p : ℕ) → p < 128 → wrong_place tb (image (image_bytes s)) p ≡ false
      place_part p h =
          rw (place_third s p h, place_fourth s p h)
          (⊎_elim (λ (d : place tb p ≡ true). rw d (and-false (not (eqb ((image (image_bytes s)).number p) 0))))
          (λ (d : place tb p ≡ false). rw (place_number s p h (small p h) ∙ empty p h d))
          (either (place tb p)))

      transition_part : (t : ℕ) → t < 64 → wrong_transition tb (image (image_bytes s)) t ≡ false
      transition_part t h =
          let counter_fits : ltb (most tb t) (s.counter t) ≡ false = le-ltb (most tb t) (s.counter t) (low t h) in
          let order_fits : ltb (cond (eqb (timing tb t) 0) 0 1) (cond (s.order t) 1 0) ≡ false =
          order_low (s.order t) (eqb (timing tb t) 0) (λ z. still t h (eqb-true (timing tb t) 0 z)) in
          rw (transition_number s t h (le_trans (low t h) (most_low t)), transition_third s t h, transition_fourth s t h, counter_fits, order_fits)
        where
          order_low : (o z : Bool) → (z ≡ true → o ≡ false) → ltb (cond z 0 1) (cond o 1 0) ≡ false
          order_low true true f = not_both refl (f refl)
          order_low true false f = refl
          order_low false true f = refl
          order_low false false f = refl

  -- After a cycle every counter takes two bytes.
  pub counter_low : (bs : List ℕ) (word : ℕ) → Fits tb (image bs) → (t : ℕ) → t < 64
      → (cycle tb bs word).after.counter t ≤ 65535
  unfolding cycle rising falling
  counter_low bs word fits t h = le_trans (counted_low (state (image bs)) t (fits_counter tb (image bs) fits t h)) (most_low t)

  -- After a cycle that keeps every place within two bytes, the image fits again.
  pub fits_after : (bs : List ℕ) (word : ℕ) → Fits tb (image bs)
      → ((p : ℕ) → p < 128 → (cycle tb bs word).after.tokens p ≤ 65535)
      → Fits tb (image (image_bytes (cycle tb bs word).after))
  unfolding cycle rising falling reset
  fits_after bs word fits small =
      image_fits (cycle tb bs word).after small
      (λ p h none. empty_stays (state (image bs)).tokens (within (cycle tb bs word).fired) p none (fits_empty tb (image bs) fits p h none))
      (λ t h. counted_low (state (image bs)) t (fits_counter tb (image bs) fits t h))
      (λ t h untimed. no_order t untimed)
    where
      no_order : (t : ℕ) → timing tb t ≡ 0
          → reset tb (state (image bs)).tokens (within (cycle tb bs word).fired) t ≡ false
      no_order t e = rw e
