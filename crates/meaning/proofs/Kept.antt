-- Images that fit: the one that start leaves, and the one after every finished cycle; so run never answers 10 to
-- them. First tokens, counters and reset orders are within what the table says, and each cycle keeps them there.
use mathlib.Core.Bool.{false}
use mathlib.Core.List.{List}
use mathlib.Core.Logic.{◌↔◌, ◌≢◌, ◌⊎◌, inl, inr, ⊎_elim}
use mathlib.Core.Path.{◌≡◌, refl, sym, ap, ◌∙◌}
use Prim.Native.Nat.{ℕ, ◌+◌, ◌≤◌, ◌<◌}
use native.Mathlib.Omega.{arith}
use lib.ListN.{length}
use Rattle.meaning.specs.Table.{table, first_tokens, place, ceiling}
use Rattle.meaning.specs.Answer.{Answer, accepted}
use Rattle.meaning.specs.Defined.{check}
use Rattle.meaning.specs.Rules.{StateSpelt, Fresh}
use Rattle.meaning.specs.Image.{State, image, image_bytes, fresh, wrong, wrong_place, wrong_transition}
use Rattle.meaning.specs.Calls.{run}
use Rattle.meaning.specs.Says.{Shown, Place, PlaceFits, TransitionFits, ImageFits, RunSays}
use Rattle.meaning.specs.Steps.{Steps}
use Rattle.meaning.proofs.Bool.{either}
use Rattle.meaning.proofs.Reflect.{decided, refutes, eq_decides}
use Rattle.meaning.proofs.Same.{of_kind}
use Rattle.meaning.proofs.Rows.{place_decides}
use Rattle.meaning.proofs.Tables.{place_or_transition}
use Rattle.meaning.proofs.Sound.{SoundTable, check_sound, place_column, declared_none}
use Rattle.meaning.proofs.Wrong.{place_fits_is, transition_fits_is, wrong_place_decides}
use Rattle.meaning.proofs.Wrong.{wrong_transition_decides, wrong_at_place, wrong_at_transition}
use Rattle.meaning.proofs.Accepted.{accepted_well}
use Rattle.meaning.proofs.Image.{image_length, tokens_back, counter_back, order_back}
use Rattle.meaning.proofs.Spelt.{state_spelt, fresh_is}
use Rattle.meaning.proofs.Fits.{Fits, image_fits, fits_after}
use Rattle.meaning.proofs.Answers.{run_stops, run_goes}
use Rattle.meaning.proofs.Run.{verdict, run_refused_leaves}
use Rattle.meaning.proofs.Demands.{table_low, verdict_form, ended, went_accepted}

shown_tokens : {o t s f x : ℕ} → Shown 1 o t s f x → f ≤ 65535
shown_tokens (Shown.place a b) = b

-- An image spells the state that was written to it, as far as its numbers fit two bytes.
pub written_spelt : (s : State) → ((p : ℕ) → p < 128 → s.tokens p ≤ 65535) → ((t : ℕ) → t < 64 → s.counter t ≤ 65535)
    → StateSpelt (image_bytes s) s
written_spelt s small low =
    let read = state_spelt (image_bytes s) in
    record {
      tokens = λ p l. sym (tokens_back s p l (small p l)) ∙ read.tokens p l;
      counter = λ t l. sym (counter_back s t l (low t l)) ∙ read.counter t l;
      order = λ t l. rw (sym (order_back s t l)) (read.order t l);
    }

module _ (bs : List ℕ) (ok : check bs ≡ accepted 0) where
  sound : SoundTable (table bs)
  sound = check_sound bs (ap (λ (a : Answer). a.number) ok)

  -- The tests of an image's 192 records decide whether it fits.
  pub fits_is : (img : List ℕ) → ((length img ≡ 768) × Fits (table bs) (image img)) ↔ ImageFits (table bs) img
  fits_is img = (
    λ (long, clean).
        record {
          long = long;
          place = λ p l. (place_fits_is (table bs) (image img) p).0 (sym (wrong_at_place (table bs) (image img) p l) ∙ clean p (omega arith));
          transition = λ t l.
              (transition_fits_is (table bs) sound (image img) t).0 (sym (wrong_at_transition (table bs) (image img) t) ∙ clean (128 + t) (omega arith));
        },
    λ fits. (
      fits.long,
      place_or_transition (λ k. k < 192 → wrong (table bs) (image img) k ≡ false)
          (λ p l h. wrong_at_place (table bs) (image img) p l ∙ (place_fits_is (table bs) (image img) p).1 (fits.place p l))
          (λ t h. wrong_at_transition (table bs) (image img) t ∙ (transition_fits_is (table bs) sound (image img) t).1 (fits.transition t (omega arith))),
    ),
  )

  -- First tokens: none where no place is declared, and at most 65,535.
  empty : (p : ℕ) → ¬ Place (table bs) p → first_tokens (table bs) p ≡ 0
  empty p none = declared_none (table bs) 1 p (table bs).four (λ s m k o. none (s, m, k, o))

  small : (p : ℕ) → first_tokens (table bs) p ≤ 65535
  small p = go (decided (place_decides (table bs) p))
    where
      go : Place (table bs) p ⊎ ¬ Place (table bs) p → first_tokens (table bs) p ≤ 65535
      go (inl (r, l, k, o)) =
          rw (place_column (table bs) sound p (table bs).four r l k o) (shown_tokens (of_kind (table bs) r 1 (sound.shown r l) k))
      go (inr none) = omega (arith, empty p none)

  -- The image of a fresh net fits, and spells it.
  pub fresh_fits : ImageFits (table bs) (image_bytes (fresh (table bs)))
  unfolding fresh
  fresh_fits =
      (fits_is (image_bytes (fresh (table bs)))).0 (
        image_length (fresh (table bs)),
        image_fits (table bs) (accepted_well bs ok) (fresh (table bs)) (λ p l. small p)
            (λ p l none. empty p (refutes (place_decides (table bs) p) none))
            (λ t l. omega arith)
            (λ t l z. refl),
      )

  pub fresh_spelt : (s : State) × Fresh (table bs) s × StateSpelt (image_bytes (fresh (table bs))) s
  unfolding fresh
  fresh_spelt =
      (fresh (table bs), fresh_is (table bs) sound, written_spelt (fresh (table bs)) (λ p l. small p) (λ t l. omega arith))

  -- After any number of finished cycles the image fits again.
  pub steps_fit : {ws img left img' bytes : List ℕ} {n : ℕ} → ImageFits (table bs) img
      → Steps (table bs) ws img n left img' bytes
      → ImageFits (table bs) img'
  unfolding ceiling
  steps_fit fits Steps.none = fits
  steps_fit fits (Steps.more {w} {img = img} stays r) =
      steps_fit
      ((fits_is _).0 (image_length _, fits_after (table bs) (accepted_well bs ok) img w ((fits_is img).1 fits).1 stays)) r

-- Run never answers 10 to an image that fits.
fitting_passes : {bs img ws report : List ℕ} {n w : ℕ} → ImageFits (table bs) img → RunSays bs img ws report n w
    → n ≢ 10
fitting_passes fits (RunSays.of_table s) e = omega (arith, table_low s)
fitting_passes fits (RunSays.image_length h) e = h fits.long
fitting_passes fits (RunSays.image_place {p} long l h) e = h (fits.place p l)
fitting_passes fits (RunSays.image_transition t long l h) e = h (fits.transition t l)
fitting_passes fits (RunSays.words_odd h) e = omega arith
fitting_passes fits (RunSays.words_long h) e = omega arith
fitting_passes fits (RunSays.room h) e = omega arith

pub never_10 : (bs img : List ℕ) → ImageFits (table bs) img → (ws report : List ℕ)
    → (run bs img ws report).answer.number ≢ 10
never_10 bs img fits ws report e =
    ⊎_elim
    (λ v. ⊎_elim (λ z. omega arith) (λ z. omega arith) (ended bs img ws report (ap (λ (a : Answer). a.number) v)))
    (λ (n, w, some, low, v).
    let named : (verdict bs img ws report).number ≡ n = ap (λ (a : Answer). a.number) v in
    let same : (run bs img ws report).answer.number ≡ n =
    ap (λ (a : Answer). a.number) (run_refused_leaves bs img ws report (λ z. omega arith)).2 ∙ named in
    fitting_passes fits ((run_stops bs img ws report n w some).0 v).0 (omega arith))
    (verdict_form bs img ws report)

-- And a run that goes on did so from an image that fits.
pub went_fits : (bs img ws report : List ℕ) → verdict bs img ws report ≡ accepted 0 → ImageFits (table bs) img
went_fits bs img ws report v = record { long = long; place = place_fits; transition = transition_fits }
  where
    nothing : (n w : ℕ) → ¬ RunSays bs img ws report n w
    nothing = (run_goes bs img ws report).0 v

    long : length img ≡ 768
    long = ⊎_elim (λ e. e) (λ n. absurd (nothing 10 192 (RunSays.image_length n))) (decided (eq_decides (length img) 768))

    place_fits : (p : ℕ) → p < 128 → PlaceFits (table bs) (image img) p
    place_fits p l =
        ⊎_elim (λ e. absurd (nothing 10 p (RunSays.image_place long l ((wrong_place_decides (table bs) (image img) p).0 e))))
        (λ e. (place_fits_is (table bs) (image img) p).0 e)
        (either (wrong_place (table bs) (image img) p))

    transition_fits : (t : ℕ) → t < 64 → TransitionFits (table bs) (image img) t
    transition_fits t l =
        let firm = sound bs (went_accepted bs img ws report v) in
        ⊎_elim
        (λ e. absurd (nothing 10 (128 + t) (RunSays.image_transition t long l ((wrong_transition_decides (table bs) firm (image img) t).0 e))))
        (λ e. (transition_fits_is (table bs) firm (image img) t).0 e)
        (either (wrong_transition (table bs) (image img) t))
