-- Answer 10: the tests of an image's records decide whether they fit, since a sound table has one record of each
-- transition to read a and b from.
use mathlib.Core.Bool.{Bool, false, not, ◌&&◌, ◌||◌}
use mathlib.Core.Path.{◌≡◌, ap}
use mathlib.Core.Logic.{◌↔◌, ⊎_elim}
use Prim.Native.Nat.{ℕ, ◌+◌, ◌-◌, ◌≤◌, ◌<◌}
use native.Mathlib.Omega.{arith}
use lib.Dec.{ltb, eqb}
use borrow.Author.Tests.{lt-ltb, le-ltb, ltb-false, eqb-true, eq-eqb, not-false}
use Rattle.meaning.specs.Table.{Table, place, timing, a_of, b_of}
use Rattle.meaning.specs.Image.{Image, wrong_place, most, most_order, wrong_transition, wrong}
use Rattle.meaning.specs.Says.{Place, Timed, PlaceFits, TransitionFits}
use Rattle.meaning.proofs.Bool.{or_false, or_false_left, or_false_right}
use Rattle.meaning.proofs.Reflect.{Decides, fails, decided, refuted, refutes, not_decides, and_decides}
use Rattle.meaning.proofs.Reflect.{eq_decides}
use Rattle.meaning.proofs.Rows.{place_decides}
use Rattle.meaning.proofs.Sound.{SoundTable, timed_is, SortOf, sort_of}

-- A byte that is not tested wrong is 0.
zero_byte : (x : ℕ) → not (eqb x 0) ≡ false → x ≡ 0
zero_byte x e = eqb-true x 0 (not-false (eqb x 0) e)

byte_zero : (x : ℕ) → x ≡ 0 → not (eqb x 0) ≡ false
byte_zero x e = ap not (eq-eqb x 0 e)

-- A place's record.
pub place_fits_is : (tb : Table) (img : Image) (p : ℕ) → (wrong_place tb img p ≡ false) ↔ PlaceFits tb img p
unfolding wrong_place
place_fits_is tb img p = (to, from)
  where
    bytes_wrong : Bool
    bytes_wrong = not (eqb (img.third p) 0) || not (eqb (img.fourth p) 0)

    held : Decides (not (eqb (img.number p) 0) && not (place tb p)) (¬ (img.number p ≡ 0) × ¬ Place tb p)
    held = and_decides (not_decides (eq_decides (img.number p) 0)) (not_decides (place_decides tb p))

    to : wrong_place tb img p ≡ false → PlaceFits tb img p
    to e =
        let b = or_false_left bytes_wrong (not (eqb (img.number p) 0) && not (place tb p)) e in
        record {
          third = zero_byte (img.third p) (or_false_left (not (eqb (img.third p) 0)) (not (eqb (img.fourth p) 0)) b);
          fourth = zero_byte (img.fourth p) (or_false_right (not (eqb (img.third p) 0)) (not (eqb (img.fourth p) 0)) b);
          undeclared = λ n.
              ⊎_elim (λ (z : img.number p ≡ 0). z)
              (λ (z : ¬ (img.number p ≡ 0)). absurd (refutes held (or_false_right bytes_wrong (not (eqb (img.number p) 0) && not (place tb p)) e) (z, n)))
              (decided (eq_decides (img.number p) 0));
        }

    from : PlaceFits tb img p → wrong_place tb img p ≡ false
    from f =
        or_false (or_false (byte_zero (img.third p) f.third) (byte_zero (img.fourth p) f.fourth))
        (refuted held (λ w. w.0 (f.undeclared w.1)))

pub wrong_place_decides : (tb : Table) (img : Image) (p : ℕ) → Decides (wrong_place tb img p) (¬ PlaceFits tb img p)
wrong_place_decides tb img p = fails (wrong_place tb img p) (place_fits_is tb img p).0 (place_fits_is tb img p).1

-- The highest counter and reset order, by the transition's sort.
most_untimed : (tb : Table) (t : ℕ) → timing tb t ≡ 0 → (most tb t ≡ 0) × (most_order tb t ≡ 0)
unfolding most most_order
most_untimed tb t e = (rw e, rw e)

most_between : (tb : Table) (t : ℕ) → timing tb t ≡ 1 → (most tb t ≡ b_of tb t + 1) × (most_order tb t ≡ 1)
unfolding most most_order
most_between tb t e = (rw e, rw e)

most_from : (tb : Table) (t : ℕ) → timing tb t ≡ 2 → (most tb t ≡ a_of tb t) × (most_order tb t ≡ 1)
unfolding most most_order
most_from tb t e = (rw e, rw e)

-- The counter, the reset order and the last byte are within what the sort allows.
abbrev Within : Table → Image → ℕ → Type 0
Within tb img t = (img.number (128 + t) ≤ most tb t) × (img.third (128 + t) ≤ most_order tb t) × (img.fourth (128 + t) ≡ 0)

module _ (tb : Table) (sound : SoundTable tb) (img : Image) (t : ℕ) where
  -- What is within fits.
  within_fits : Within tb img t → TransitionFits tb img t
  within_fits w =
      record {
        order = order (sort_of tb sound t);
        fourth = w.2;
        untimed = λ no_between no_from. untimed (sort_of tb sound t) no_between no_from;
        between = λ r h. omega (arith, w, timed_is tb sound t 1 r h, most_between tb t (timed_is tb sound t 1 r h).0);
        from = λ r h. omega (arith, w, timed_is tb sound t 2 r h, most_from tb t (timed_is tb sound t 2 r h).0);
      }
    where
      order : SortOf tb t → img.third (128 + t) ≤ 1
      order (SortOf.none e) = omega (arith, w, most_untimed tb t e)
      order (SortOf.between r h) = omega (arith, w, most_between tb t (timed_is tb sound t 1 r h).0)
      order (SortOf.from r h) = omega (arith, w, most_from tb t (timed_is tb sound t 2 r h).0)

      untimed : SortOf tb t → ((r : ℕ) → ¬ Timed tb t 1 r) → ((r : ℕ) → ¬ Timed tb t 2 r)
          → (img.number (128 + t) ≡ 0) × (img.third (128 + t) ≡ 0)
      untimed (SortOf.none e) no_between no_from = omega (arith, w, most_untimed tb t e)
      untimed (SortOf.between r h) no_between no_from = absurd (no_between r h)
      untimed (SortOf.from r h) no_between no_from = absurd (no_from r h)

  -- What fits is within.
  fits_within : TransitionFits tb img t → Within tb img t
  fits_within f = go (sort_of tb sound t)
    where
      go : SortOf tb t → Within tb img t
      go (SortOf.none e) =
          let z = f.untimed (λ r h. omega (arith, e, (timed_is tb sound t 1 r h).0)) (λ r h. omega (arith, e, (timed_is tb sound t 2 r h).0)) in
          omega (arith, f.fourth, most_untimed tb t e)
      go (SortOf.between r h) =
          omega (arith, f.fourth, f.order, f.between r h, timed_is tb sound t 1 r h, most_between tb t (timed_is tb sound t 1 r h).0)
      go (SortOf.from r h) = omega (arith, f.fourth, f.order, f.from r h, timed_is tb sound t 2 r h, most_from tb t (timed_is tb sound t 2 r h).0)

  -- A transition's record.
  pub transition_fits_is : (wrong_transition tb img t ≡ false) ↔ TransitionFits tb img t
  unfolding wrong_transition
  transition_fits_is = (to, from)
    where
      low : Bool
      low = ltb (most tb t) (img.number (128 + t))

      high : Bool
      high = ltb (most_order tb t) (img.third (128 + t))

      last : Bool
      last = not (eqb (img.fourth (128 + t)) 0)

      to : wrong_transition tb img t ≡ false → TransitionFits tb img t
      to e =
          let b = or_false_left (low || high) last e in
          within_fits (
            ltb-false (most tb t) (img.number (128 + t)) (or_false_left low high b),
            ltb-false (most_order tb t) (img.third (128 + t)) (or_false_right low high b),
            zero_byte (img.fourth (128 + t)) (or_false_right (low || high) last e),
          )

      from : TransitionFits tb img t → wrong_transition tb img t ≡ false
      from f =
          let w = fits_within f in
          or_false
          (or_false (le-ltb (most tb t) (img.number (128 + t)) w.0) (le-ltb (most_order tb t) (img.third (128 + t)) w.1))
          (byte_zero (img.fourth (128 + t)) w.2)

  pub wrong_transition_decides : Decides (wrong_transition tb img t) (¬ TransitionFits tb img t)
  wrong_transition_decides = fails (wrong_transition tb img t) transition_fits_is.0 transition_fits_is.1

-- The records of an image, places and then transitions.
pub wrong_at_place : (tb : Table) (img : Image) (p : ℕ) → p < 128 → wrong tb img p ≡ wrong_place tb img p
unfolding wrong
wrong_at_place tb img p l = rw (lt-ltb p 128 l)

pub wrong_at_transition : (tb : Table) (img : Image) (t : ℕ) → wrong tb img (128 + t) ≡ wrong_transition tb img t
unfolding wrong
wrong_at_transition tb img t =
    let back : 128 + t - 128 ≡ t = omega arith in
    rw (le-ltb (128 + t) 128 (omega arith), back)
