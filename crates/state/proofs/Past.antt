-- Past the numbers of a table an image that fits is 0, since no record declares a place or a transition there; and a
-- state that agrees with it has nothing.
use mathlib.Core.Bool.{not, ◌&&◌, ◌||◌, false}
use mathlib.Core.List.{List}
use mathlib.Core.Path.{◌≡◌, ◌∙◌}
use Prim.Native.Nat.{ℕ, ◌+◌, ◌≤◌, ◌<◌}
use native.Mathlib.Omega.{arith}
use lib.Dec.{eqb, ltb}
use borrow.Author.Tests.{eqb-true, ltb-false, not-false}
use Rattle.meaning.specs.Table.{Table, is, place, timing}
use Rattle.meaning.specs.Image.{Image, state, wrong_place, wrong_transition, most, most_order}
use Rattle.meaning.proofs.Below.{none_intro}
use Rattle.meaning.proofs.Bool.{and_right, or_false_left, or_false_right}
use Rattle.meaning.proofs.Fits.{Fits, fits_place, fits_transition, fits_empty, fits_counter}
use Rattle.meaning.proofs.Near.{Alike}
use Rattle.meaning.proofs.Reflect.{not_true_false}
use Rattle.meaning.proofs.Sound.{declared_none}
use Rattle.state.specs.Holds.{held, IdlePast}
use Rattle.state.specs.Records.{Blank, BlankPast}

module _ (tb : Table) {n : ℕ} (below : (r : ℕ) → r < tb.records → tb.one r < n) (img : Image)
    (fits : Fits tb img) where
  no_place : (p : ℕ) → n ≤ p → place tb p ≡ false
  unfolding place
  no_place p l =
      none_intro tb.records _
      (λ r h. not_true_false _ (λ e. omega (
        arith,
        below r h,
        l,
        eqb-true (tb.one r) p (and_right (is tb 1 r) (eqb (tb.one r) p) e),
      )))

  no_timing : (t : ℕ) → n ≤ t → timing tb t ≡ 0
  no_timing t l = declared_none tb 2 t tb.sort (λ r h k o. omega (arith, below r h, l, o))

  blank_place : (p : ℕ) → n ≤ p → p < 128 → Blank img p
  unfolding wrong_place state
  blank_place p l h =
      let zeros : (not (eqb (img.third p) 0) || not (eqb (img.fourth p) 0)) ≡ false =
      or_false_left _ (not (eqb (img.number p) 0) && not (place tb p)) (fits_place tb img fits p h) in
      record {
        number = fits_empty tb img fits p h (no_place p l);
        third =
            eqb-true _ 0 (not-false _ (or_false_left (not (eqb (img.third p) 0)) (not (eqb (img.fourth p) 0)) zeros));
        fourth =
            eqb-true _ 0 (not-false _ (or_false_right (not (eqb (img.third p) 0)) (not (eqb (img.fourth p) 0))
            zeros));
      }

  no_counter : (t : ℕ) → n ≤ t → most tb t ≡ 0
  unfolding most
  no_counter t l = rw (no_timing t l)

  no_order : (t : ℕ) → n ≤ t → most_order tb t ≡ 0
  unfolding most_order
  no_order t l = rw (no_timing t l)

  blank_transition : (t : ℕ) → n ≤ t → t < 64 → Blank img (128 + t)
  unfolding wrong_transition state
  blank_transition t l h =
      let right = fits_transition tb img fits t h in
      let low : (ltb (most tb t) (img.number (128 + t)) || ltb (most_order tb t) (img.third (128 + t))) ≡ false =
      or_false_left _ (not (eqb (img.fourth (128 + t)) 0)) right in
      record {
        number = omega (arith, fits_counter tb img fits t h, no_counter t l);
        third =
            omega (
              arith,
              no_order t l,
              ltb-false (most_order tb t) (img.third (128 + t))
                  (or_false_right (ltb (most tb t) (img.number (128 + t)))
                  (ltb (most_order tb t) (img.third (128 + t))) low),
            );
        fourth =
            eqb-true _ 0
            (not-false _
            (or_false_right (ltb (most tb t) (img.number (128 + t)) || ltb (most_order tb t) (img.third (128 + t)))
            (not (eqb (img.fourth (128 + t)) 0)) right));
      }

  pub blank_past : BlankPast img n
  blank_past = record { places = blank_place; transitions = blank_transition }

  -- The arrays of a state that agrees with it.
  pub idle_past : {tokens counters : List ℕ} (orders : ℕ) → Alike (state img) (held tokens counters orders)
      → IdlePast tokens counters n
  unfolding state
  idle_past orders alike =
      record {
        no_tokens = λ p l h. alike.tokens p h ∙ (blank_place p l h).number;
        no_counters = λ t l h. alike.counter t h ∙ (blank_transition t l h).number;
      }
