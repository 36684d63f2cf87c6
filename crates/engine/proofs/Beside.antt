-- Answers 10, 11 and 12 one after the other, and what is known of the lent bytes where none is given.
use mathlib.Core.Bool.{not, or-true}
use mathlib.Core.List.{List, ◌∷◌, ◌++◌}
use mathlib.Core.Logic.{◌≢◌}
use mathlib.Core.Path.{◌≡◌, refl, ap, ◌∙◌}
use Prim.Native.Nat.{ℕ, ◌*◌, ◌/◌, ◌%◌, ◌≤◌, ◌<◌}
use native.Mathlib.Omega.{arith}
use lib.Dec.{eqb, ltb}
use lib.ListN.{length}
use borrow.Author.Tests.{lt-ltb, le-ltb, ltb-false, eq-eqb, ne_eqb, eqb-true, not-false}
use Rattle.meaning.specs.Below.{first}
use Rattle.meaning.specs.Table.{Table}
use Rattle.meaning.specs.Answer.{Answer, accepted, refused, Check, check_of, decide}
use Rattle.meaning.specs.Image.{image, wrong, state_checks}
use Rattle.meaning.specs.Calls.{word_checks}
use Rattle.meaning.proofs.Bool.{or_false_right}
use Rattle.meaning.proofs.Below.{first_none}
use Rattle.meaning.proofs.Decide.{All, Clean, Refuses, accepted_clean}
use Rattle.rows.specs.declared.Declared.{Declared}
use Rattle.state.specs.Fit.{wrong_by}
use Rattle.judge.proofs.Stages.{hands_on, answers}
use Rattle.engine.specs.Said.{lent_checks}

module _ (img ws report : List ℕ) (known : Declared) (times : List ℕ) where
  -- What the checks decide.
  abbrev lent : Answer
  lent = decide (lent_checks img ws report known times) (accepted 0)

  -- The checks of the image, of the words and of the room.
  abbrev long_check : Check
  long_check = check_of 1 (λ k. not (eqb (length img) 768)) (λ k. refused 10 192)

  abbrev fit_check : Check
  fit_check = check_of 192 (wrong_by img known times) (λ k. refused 10 k)

  pub lent_long : length img ≢ 768 → lent ≡ refused 10 192
  unfolding lent_checks first
  lent_long n = answers long_check _ (accepted 0) (rw (ne_eqb (length img) 768 n) (omega arith))

  module _ (long : length img ≡ 768) where
    past_long : lent ≡ decide (fit_check ∷ word_checks ws report) (accepted 0)
    unfolding lent_checks first
    past_long = hands_on long_check _ (accepted 0) (rw (eq-eqb (length img) 768 long))

    pub lent_wrong : {k : ℕ} → (k < 192) × (first 192 (wrong_by img known times) ≡ k) → lent ≡ refused 10 k
    lent_wrong found =
        past_long ∙ answers fit_check (word_checks ws report) (accepted 0) (rw found.1 found.0)
        ∙ ap (refused 10) found.1

    module _ (fits : first 192 (wrong_by img known times) ≡ 192) where
      past_fit : lent ≡ decide (word_checks ws report) (accepted 0)
      past_fit = past_long ∙ hands_on fit_check (word_checks ws report) (accepted 0) fits

      pub lent_odd : length ws % 8 ≢ 0 → lent ≡ refused 11 0
      unfolding word_checks decide first
      lent_odd n = past_fit ∙ rw (ne_eqb (length ws % 8) 0 n)

      pub lent_many : 4096 < length ws → lent ≡ refused 11 0
      unfolding word_checks decide first
      lent_many l = past_fit ∙ rw (lt-ltb 4096 (length ws) l, or-true (not (eqb (length ws % 8) 0)))

      module _ (whole : length ws % 8 ≡ 0) (few : length ws ≤ 4096) where
        pub lent_short : length report < 24 * (length ws / 8) → lent ≡ refused 12 0
        unfolding word_checks decide first
        lent_short l =
            past_fit
            ∙ rw (
              eq-eqb (length ws % 8) 0 whole,
              le-ltb 4096 (length ws) few,
              lt-ltb (length report) (24 * (length ws / 8)) l,
            )

        pub lent_fine : 24 * (length ws / 8) ≤ length report → lent ≡ refused 0 0
        unfolding word_checks decide first
        lent_fine l =
            past_fit
            ∙ rw (
              eq-eqb (length ws % 8) 0 whole,
              le-ltb 4096 (length ws) few,
              le-ltb (length report) (24 * (length ws / 8)) l,
            )

  -- Each of the checks refuses what it finds.
  lent_refusing : All Refuses (lent_checks img ws report known times)
  unfolding lent_checks word_checks
  lent_refusing = (
    λ k l e. (omega arith, refl),
    (λ k l e. (omega arith, refl), (λ k l e. (omega arith, refl), (λ k l e. (omega arith, refl), tt))),
  )

  -- None is given: the image has 768 bytes and fits, the words are not too many, and the report has room.
  module _ (none : lent.number ≡ 0) where
    clean : All Clean (lent_checks img ws report known times)
    clean = accepted_clean _ (accepted 0) lent_refusing none

    pub long_is : length img ≡ 768
    unfolding lent_checks
    long_is = eqb-true (length img) 768 (not-false _ (clean.0 0 (omega arith)))

    pub fits_is : first 192 (wrong_by img known times) ≡ 192
    unfolding lent_checks
    fits_is = first_none 192 (wrong_by img known times) clean.1.0

    pub few_is : length ws ≤ 4096
    unfolding lent_checks word_checks
    few_is =
        ltb-false 4096 (length ws)
        (or_false_right (not (eqb (length ws % 8) 0)) (ltb 4096 (length ws)) (clean.1.1.0 0 (omega arith)))

    pub room_is : 24 * (length ws / 8) ≤ length report
    unfolding lent_checks word_checks
    room_is = ltb-false (length report) (24 * (length ws / 8)) (clean.1.1.1.0 0 (omega arith))

  -- Where these are the table's, they are run's own checks behind the table's.
  pub lent_same : (tb : Table) → first 192 (wrong_by img known times) ≡ first 192 (wrong tb (image img))
      → lent ≡ decide (state_checks tb img ++ word_checks ws report) (accepted 0)
  unfolding lent_checks state_checks decide
  lent_same tb same = rw same
