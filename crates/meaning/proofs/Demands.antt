-- The three demands, whole, for every table, image, list of words and report: each is put together from the laws of
-- its part.
use mathlib.Core.Bool.{Bool, ◌&&◌}
use mathlib.Core.List.{List, [], ◌∷◌}
use mathlib.Core.Logic.{◌↔◌, ◌⊎◌, inl, inr, ⊎_elim}
use mathlib.Core.Path.{◌≡◌, refl, sym, ap, ◌∙◌}
use Prim.Native.Nat.{ℕ, ◌≤◌, ◌<◌}
use native.Mathlib.Omega.{arith}
use Rattle.meaning.specs.Below.{within}
use Rattle.meaning.specs.Bytes.{number}
use Rattle.meaning.specs.Table.{table}
use Rattle.meaning.specs.Priority.{above}
use Rattle.meaning.specs.Answer.{Answer, accepted, refused}
use Rattle.meaning.specs.Defined.{check}
use Rattle.meaning.specs.Image.{State, state, image}
use Rattle.meaning.specs.Cycle.{falling, firable, withdrawn, cycle, fired}
use Rattle.meaning.specs.Calls.{start, ran, run, trace}
use Rattle.meaning.specs.Says.{TableSays, StartSays, RunSays}
use Rattle.meaning.specs.Orders.{Meets, Safe}
use Rattle.meaning.specs.Source.{source_falling, source_run}
use Rattle.meaning.specs.Steps.{Steps, Bursts}
use Rattle.meaning.proofs.Answers.{check_refuses, check_accepts, check_form, start_refuses, start_accepts}
use Rattle.meaning.proofs.Answers.{start_form, run_stops, run_goes, run_form}
use Rattle.meaning.proofs.Accepted.{accepted_well}
use Rattle.meaning.proofs.Fired.{fired_meets, fired_only}
use Rattle.meaning.proofs.Fits.{Fits}
use Rattle.meaning.proofs.Demand3.{start_pays, residual_whole, any_order}
use Rattle.meaning.proofs.Source.{stopping_changes_nothing}
use Rattle.meaning.proofs.Sequence.{one_end}
use Rattle.meaning.proofs.Run.{verdict, words, run_goes_on, run_refused_leaves, run_accepted_leaves}
use Rattle.meaning.proofs.Run.{run_full_leaves, trace_finishes, trace_bursts, trace_number}

-- DEMAND 1: every input has its answer, and a refusal leaves what it must.

-- Answers 1 to 9 are numbers up to 9, and what run refuses before any cycle is at most 12.
pub table_low : {bs : List ℕ} {n w : ℕ} → TableSays bs n w → n < 10
table_low (TableSays.length_odd h) = omega arith
table_low (TableSays.length_long h) = omega arith
table_low (TableSays.kind l h) = omega arith
table_low (TableSays.field l h) = omega arith
table_low (TableSays.twice s l m h) = omega arith
table_low (TableSays.unknown l h) = omega arith
table_low (TableSays.no_place h) = omega arith
table_low (TableSays.no_transition h) = omega arith
table_low (TableSays.isolated_place p h) = omega arith
table_low (TableSays.isolated_transition t p h) = omega arith
table_low (TableSays.circle h) = omega arith
table_low (TableSays.conflict i j l m c h) = omega arith

says_low : {bs img ws report : List ℕ} {n w : ℕ} → RunSays bs img ws report n w → n < 13
says_low (RunSays.of_table s) = omega (arith, table_low s)
says_low (RunSays.image_length h) = omega arith
says_low (RunSays.image_place e l h) = omega arith
says_low (RunSays.image_transition t e l h) = omega arith
says_low (RunSays.words_odd h) = omega arith
says_low (RunSays.words_long h) = omega arith
says_low (RunSays.room h) = omega arith

-- Check answers 0 to 9, start 0 to 9 or 12; neither does a cycle.
pub check_number : (bs : List ℕ) → ((check bs).number ≤ 9) × ((check bs).cycles ≡ 0)
unfolding check
check_number bs =
    ⊎_elim (λ e. (omega (arith, ap (λ (a : Answer). a.number) e), ap (λ (a : Answer). a.cycles) e))
    (λ x. (
      omega (arith, ap (λ (a : Answer). a.number) x.3, table_low ((check_refuses bs x.0 x.1 x.2).0 x.3).0),
      ap (λ (a : Answer). a.cycles) x.3,
    ))
    (check_form bs)

start_low : {bs img : List ℕ} {n w : ℕ} → StartSays bs img n w → (n ≤ 9) ⊎ (n ≡ 12)
start_low (StartSays.of_table s) = inl (omega (arith, table_low s))
start_low (StartSays.room h) = inr refl

pub start_number : (bs img : List ℕ)
    → (((start bs img).answer.number ≤ 9) ⊎ ((start bs img).answer.number ≡ 12)) × ((start bs img).answer.cycles ≡ 0)
start_number bs img =
    ⊎_elim (λ e. (inl (omega (arith, ap (λ (a : Answer). a.number) e)), ap (λ (a : Answer). a.cycles) e))
    (λ x.
    let named = ap (λ (a : Answer). a.number) x.3 in (
      ⊎_elim (λ l. inl (omega (arith, named))) (λ l. inr (named ∙ l)) (start_low ((start_refuses bs img x.0 x.1 x.2).0 x.3).0),
      ap (λ (a : Answer). a.cycles) x.3,
    ))
    (start_form bs img)

-- A start that is accepted started an accepted table.
pub start_checked : (bs img : List ℕ) → (start bs img).answer.number ≡ 0 → check bs ≡ accepted 0
start_checked bs img z =
    ⊎_elim (λ e. (check_accepts bs).1 (λ n w s. (start_accepts bs img).0 e n w (StartSays.of_table s)))
    (λ x. absurd (omega (arith, x.2, ap (λ (a : Answer). a.number) x.3)))
    (start_form bs img)

module _ (bs img ws report : List ℕ) where
  -- What run's checks decide is the acceptance or a number from 1 to 12.
  pub verdict_form : (verdict bs img ws report ≡ accepted 0)
      ⊎ ((n : ℕ) × (w : ℕ) × (0 < n) × (n < 13) × (verdict bs img ws report ≡ refused n w))
  verdict_form =
      ⊎_elim inl
      (λ x. inr (x.0, x.1, x.2, says_low ((run_stops bs img ws report x.0 x.1 x.2).0 x.3).0, x.3))
      (run_form bs img ws report)

  -- The checks before any cycle never give 13.
  pub verdict_not_13 : (verdict bs img ws report).number ≡ 13 → ⊥
  verdict_not_13 e =
      ⊎_elim (λ z. absurd (omega (arith, ap (λ (a : Answer). a.number) z)))
      (λ x. absurd (omega (arith, ap (λ (a : Answer). a.number) x.4, x.3)))
      verdict_form

  -- Run goes on to its cycles where it answers 0 or 13.
  pub went : ((run bs img ws report).answer.number ≡ 0) ⊎ ((run bs img ws report).answer.number ≡ 13)
      → verdict bs img ws report ≡ accepted 0
  went h = ⊎_elim (λ e. e) (λ x. absurd (both_hold x h)) verdict_form
    where
      both_hold : (n : ℕ) × (w : ℕ) × (0 < n) × (n < 13) × (verdict bs img ws report ≡ refused n w)
          → ((run bs img ws report).answer.number ≡ 0) ⊎ ((run bs img ws report).answer.number ≡ 13) → ⊥
      both_hold x h =
          let named : (verdict bs img ws report).number ≡ x.0 = ap (λ (a : Answer). a.number) x.4 in
          let same : (run bs img ws report).answer.number ≡ x.0 =
          ap (λ (a : Answer). a.number) (run_refused_leaves bs img ws report (λ z. omega arith)).2 ∙ named in
          ⊎_elim (λ z. omega arith) (λ z. omega arith) h

  -- A run that goes on answers 0 or 13.
  pub ended : (verdict bs img ws report).number ≡ 0
      → ((run bs img ws report).answer.number ≡ 0) ⊎ ((run bs img ws report).answer.number ≡ 13)
  ended z = rw (run_goes_on bs img ws report z) (trace_number (table bs) (words ws) img)

  -- Run answers 0 to 13.
  pub run_number : (run bs img ws report).answer.number ≤ 13
  run_number =
      ⊎_elim (λ v. ⊎_elim (λ z. omega arith) (λ z. omega arith) (ended (ap (λ (a : Answer). a.number) v)))
      (λ x.
      let named : (verdict bs img ws report).number ≡ x.0 = ap (λ (a : Answer). a.number) x.4 in
      omega (arith, x.2, x.3, ap (λ (a : Answer). a.number) (run_refused_leaves bs img ws report (λ z. omega (arith, x.2))).2))
      verdict_form

  -- A finished cycle tells that the run went on.
  pub some_cycle_went : (k : ℕ) → 1 ≤ k → k ≤ (run bs img ws report).answer.cycles
      → verdict bs img ws report ≡ accepted 0
  some_cycle_went k l h =
      ⊎_elim (λ v. v)
      (λ x.
      let named : (verdict bs img ws report).number ≡ x.0 = ap (λ (a : Answer). a.number) x.4 in
      let none : (verdict bs img ws report).cycles ≡ 0 = ap (λ (a : Answer). a.cycles) x.4 in
      absurd (omega (arith, x.2, ap (λ (a : Answer). a.cycles) (run_refused_leaves bs img ws report (λ z. omega (arith, x.2))).2)))
      verdict_form

  -- A run that goes on does so over an accepted table.
  pub went_accepted : verdict bs img ws report ≡ accepted 0 → check bs ≡ accepted 0
  went_accepted v = (check_accepts bs).1 (λ n w s. (run_goes bs img ws report).0 v n w (RunSays.of_table s))

  -- Refused by 1 to 12, every byte is as it was.
  pub refused_leaves : (n w : ℕ) → 0 < n → n < 13 → (run bs img ws report).answer ≡ refused n w
      → ((run bs img ws report).image ≡ img) × ((run bs img ws report).report ≡ report)
  refused_leaves n w p q e =
      let left = run_refused_leaves bs img ws report (λ z. ⊎_elim (λ k. omega (arith, named)) (λ k. omega (arith, named)) (ended z)) in
      (left.0, left.1)
    where
      named : (run bs img ws report).answer.number ≡ n
      named = ap (λ (a : Answer). a.number) e

  goes : ((n w : ℕ) → ¬ RunSays bs img ws report n w)
      → run bs img ws report ≡ ran (trace (table bs) (words ws) img) report
  goes none = run_goes_on bs img ws report (ap (λ (a : Answer). a.number) ((run_goes bs img ws report).1 none))

  -- Accepted after c cycles: exactly if nothing of 1 to 12 is said and all words' cycles are taken, c of them; image
  -- and report are theirs.
  pub run_accepts : (c : ℕ)
      → ((run bs img ws report).answer ≡ accepted c)
      ↔ (((n w : ℕ) → ¬ RunSays bs img ws report n w)
      × ((img' : List ℕ) × (bytes : List ℕ) × Steps (table bs) (words ws) img c [] img' bytes))
  run_accepts c = (to, from)
    where
      to : (run bs img ws report).answer ≡ accepted c
          → ((n w : ℕ) → ¬ RunSays bs img ws report n w)
          × ((img' : List ℕ) × (bytes : List ℕ) × Steps (table bs) (words ws) img c [] img' bytes)
      to e =
          let zero_is = ap (λ (a : Answer). a.number) e in
          let left = run_accepted_leaves bs img ws report zero_is in
          let count : left.0 ≡ c = ap (λ (a : Answer). a.cycles) (sym left.4.0 ∙ e) in
          ((run_goes bs img ws report).0 (went (inl zero_is)), (left.1, left.2, rw count at left.3))

      from : ((n w : ℕ) → ¬ RunSays bs img ws report n w)
          × ((img' : List ℕ) × (bytes : List ℕ) × Steps (table bs) (words ws) img c [] img' bytes)
          → (run bs img ws report).answer ≡ accepted c
      from h = rw (goes h.0, trace_finishes (table bs) h.1.2)

  -- Refused by 13 after c cycles at place p: exactly if nothing of 1 to 12 is said, c cycles are taken, and the next
  -- would burst at p first.
  pub run_bursts : (p c : ℕ)
      → ((run bs img ws report).answer ≡ record { number = 13; at = p; cycles = c })
      ↔ (((n w : ℕ) → ¬ RunSays bs img ws report n w)
      × ((word : ℕ) × (left : List ℕ) × (img' : List ℕ) × (bytes : List ℕ)
      × Steps (table bs) (words ws) img c (word ∷ left) img' bytes × Bursts (table bs) img' word p))
  run_bursts p c = (to, from)
    where
      Burst : Type 0
      Burst =
          ((n w : ℕ) → ¬ RunSays bs img ws report n w)
          × ((word : ℕ) × (left : List ℕ) × (img' : List ℕ) × (bytes : List ℕ)
          × Steps (table bs) (words ws) img c (word ∷ left) img' bytes × Bursts (table bs) img' word p)

      to : (run bs img ws report).answer ≡ record { number = 13; at = p; cycles = c } → Burst
      to e =
          let full = ap (λ (a : Answer). a.number) e in
          let v = went (inr full) in
          let left = run_full_leaves bs img ws report full (λ k. omega (arith, ap (λ (a : Answer). a.number) v)) in
          let count : left.0 ≡ c = ap (λ (a : Answer). a.cycles) (sym left.8.0 ∙ e) in
          let at_p : left.5 ≡ p = ap (λ (a : Answer). a.at) (sym left.8.0 ∙ e) in
          ((run_goes bs img ws report).0 v, (left.1, left.2, left.3, left.4, rw count at left.6, rw at_p at left.7))

      from : Burst → (run bs img ws report).answer ≡ record { number = 13; at = p; cycles = c }
      from h = rw (goes h.0, trace_bursts (table bs) h.1.4 h.1.5)

-- DEMAND 2: acceptance is well-definedness (check_refuses and check_accepts of Answers.antt), and each cycle's set is
-- the one that meets definition 6.
pub fires_by_definition_6 : (bs : List ℕ) → check bs ≡ accepted 0 → (s : State) (word : ℕ)
    → Meets (table bs) s word (within (fired (table bs) s word))
    × ((F : ℕ → Bool) → Meets (table bs) s word F → (t : ℕ) → F t ≡ within (fired (table bs) s word) t)
fires_by_definition_6 bs e s word = (fired_meets (table bs) (accepted_well bs e) s word, fired_only (table bs) (accepted_well bs e) s word)

-- DEMAND 3, for every accepted table, every image and every word.
pub demand_3 : (bs : List ℕ) → check bs ≡ accepted 0 → (img : List ℕ) (word : ℕ) → Safe (table bs) img word
unfolding cycle falling
demand_3 bs e img word =
    let well = accepted_well bs e in
    let s = falling (table bs) (state (image img)) in
    record {
      pays = start_pays (table bs) well s word;
      finds = λ order o. ((any_order (table bs) well s word order o).0, (any_order (table bs) well s word order o).1);
      ends = λ order m' o f p.
          let known = any_order (table bs) well s word order o in
          one_end f known.1 p ∙ known.2 p;
    }

-- What goes with demand 3: the residual marking of any transition is M less what is really there, so natural
-- subtraction hides nothing.
pub residual_never_below : (bs : List ℕ) → check bs ≡ accepted 0 → (s : State) (word t p : ℕ)
    → withdrawn (table bs) (λ u. within (fired (table bs) s word) u && above (table bs) u t) p ≤ s.tokens p
residual_never_below bs e = residual_whole (table bs) (accepted_well bs e)

-- And with demand 2: over any run from an image that fits, the page's stopped counters and the source's make the same
-- transitions firable.
pub same_firable_as_the_source : (bs : List ℕ) → check bs ≡ accepted 0 → {ws img left img' bytes : List ℕ} {n : ℕ}
    → Fits (table bs) (image img) → Steps (table bs) ws img n left img' bytes → (word t : ℕ)
    → firable (table bs) (falling (table bs) (state (image img'))) word t
    ≡ firable (table bs) (source_falling (table bs) (source_run (table bs) n ws (state (image img)))) word t
same_firable_as_the_source bs e = stopping_changes_nothing (table bs) (accepted_well bs e)
