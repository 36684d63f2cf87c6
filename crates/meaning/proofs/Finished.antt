-- Every finished cycle of a run, from the bytes alone: a run that did a cycle passed all its checks, so its table is
-- accepted and its image fits, and the laws of one cycle hold of each step it took.
use mathlib.Core.List.{List, [], ◌∷◌}
use mathlib.Core.Logic.{◌⊎◌, ⊎_elim}
use mathlib.Core.Path.{◌≡◌, refl, sym, ap, ◌∙◌}
use Prim.Native.Nat.{ℕ, zero, suc, ◌+◌, ◌*◌, ◌-◌, ◌/◌, ◌≤◌, ◌<◌}
use native.Mathlib.Omega.{arith}
use lib.ListN.{length, get_or, drop}
use lib.Seq.{drop_at}
use Rattle.meaning.specs.Table.{Table, table, ceiling}
use Rattle.meaning.specs.Answer.{Answer, accepted, refused}
use Rattle.meaning.specs.Defined.{check}
use Rattle.meaning.specs.Image.{image, image_bytes}
use Rattle.meaning.specs.Cycle.{cycle}
use Rattle.meaning.specs.Calls.{run, words_of, lookup}
use Rattle.meaning.specs.Says.{ImageFits, RunSays}
use Rattle.meaning.specs.Steps.{Steps, Stays, Reaches}
use Rattle.meaning.specs.Rules.{StateSpelt}
use Rattle.meaning.specs.Finished.{Finished}
use Rattle.meaning.proofs.Answers.{run_stops}
use Rattle.meaning.proofs.Spelt.{words_spelt}
use Rattle.meaning.proofs.Accepted.{accepted_well}
use Rattle.meaning.proofs.Fits.{counter_low}
use Rattle.meaning.proofs.Demand3.{marking_stands}
use Rattle.meaning.proofs.Turns.{fired_alone, fired_read, record_turns}
use Rattle.meaning.proofs.Run.{verdict, words, written_length, run_leaves, run_refused_leaves, no_words}
use Rattle.meaning.proofs.Carried.{one_more}
use Rattle.meaning.proofs.Outcomes.{lookup_run}
use Rattle.meaning.proofs.Demands.{verdict_form, run_accepts, some_cycle_went, went_accepted, demand_3}
use Rattle.meaning.proofs.Kept.{written_spelt, fits_is, steps_fit, went_fits}

-- STEPS: they take the words from the front, and the same number of them reaches one image.

steps_left : {tb : Table} {ws img left img' bytes : List ℕ} {n : ℕ} → Steps tb ws img n left img' bytes
    → (k : ℕ) → get_or left k 0 ≡ get_or ws (n + k) 0
steps_left {ws = ws} Steps.none k =
    let here : k ≡ 0 + k = omega arith in
    ap (λ (i : ℕ). get_or ws i 0) here
steps_left (Steps.more {w} {n} {ws} s r) k =
    let there : suc (n + k) ≡ suc n + k = omega arith in
    steps_left r k ∙ ap (λ (i : ℕ). get_or (w ∷ ws) i 0) there

pub steps_count : {tb : Table} {ws img left img' bytes : List ℕ} {n : ℕ} → Steps tb ws img n left img' bytes
    → n + length left ≡ length ws
steps_count Steps.none = omega arith
steps_count (Steps.more s r) = omega (arith, steps_count r)

pub reached_once : {tb : Table} {ws img left img' bytes left' img'' bytes' : List ℕ} {n : ℕ}
    → Steps tb ws img n left img' bytes
    → Steps tb ws img n left' img'' bytes' → img' ≡ img''
reached_once Steps.none Steps.none = refl
reached_once (Steps.more s r) (Steps.more s' r') = reached_once r r'

pub words_length : (n : ℕ) (ws : List ℕ) → length (words_of n ws) ≡ n
unfolding words_of
words_length zero ws = refl
words_length (suc n) ws = ap suc (words_length n (drop 8 ws))

-- FINISHED CYCLES

-- What a cycle that is not refused leaves in the image is the state after it.
after_spelt : (bs : List ℕ) → check bs ≡ accepted 0 → (img : List ℕ) (word : ℕ) → ImageFits (table bs) img
    → Stays (table bs) img word
    → StateSpelt (image_bytes (cycle (table bs) img word).after) (cycle (table bs) img word).after
unfolding ceiling
after_spelt bs ok img word fits stays =
    written_spelt (cycle (table bs) img word).after stays (counter_low (table bs) (accepted_well bs ok) img word ((fits_is bs ok img).1 fits).1)

module _ (bs img ws report : List ℕ) where
  -- What run leaves in the image is what its cycles done reach, however it ends.
  pub image_reached : Reaches (table bs) (words ws) img (run bs img ws report).answer.cycles
      (run bs img ws report).image
  image_reached = ⊎_elim went stopped (verdict_form bs img ws report)
    where
      went : verdict bs img ws report ≡ accepted 0
          → Reaches (table bs) (words ws) img (run bs img ws report).answer.cycles (run bs img ws report).image
      went v =
          let x = run_leaves bs img ws report (ap (λ (a : Answer). a.number) v) in
          rw (x.7.0, x.7.1) (x.3, x.5, x.6)

      stopped : (n : ℕ) × (w : ℕ) × (0 < n) × (n < 13) × (verdict bs img ws report ≡ refused n w)
          → Reaches (table bs) (words ws) img (run bs img ws report).answer.cycles (run bs img ws report).image
      stopped (n, w, some, low, v) =
          let left = run_refused_leaves bs img ws report (λ z. omega (arith, ap (λ (a : Answer). a.number) v)) in
          rw (left.2, v, left.0) (words ws, [], Steps.none)

  -- After a run that ends with 0 or 13 the image fits again.
  pub run_fits : verdict bs img ws report ≡ accepted 0 → ImageFits (table bs) (run bs img ws report).image
  run_fits v = steps_fit bs (went_accepted bs img ws report v) (went_fits bs img ws report v) image_reached.2

  -- A cycle with its word and image, whose record lookup finds.
  step_finished : verdict bs img ws report ≡ accepted 0 → (k : ℕ) → 1 ≤ k → {word : ℕ} {later before behind : List ℕ}
      → Steps (table bs) (words ws) img (k - 1) (word ∷ later) before behind → Stays (table bs) before word
      → lookup (run bs img ws report).report k ≡ (cycle (table bs) before word).written
      → Finished bs img ws (run bs img ws report).report k
  step_finished v k l {word} {later} {before} {behind} steps stays found =
      let ok = went_accepted bs img ws report v in
      let fits = steps_fit bs ok (went_fits bs img ws report v) steps in
      let this : suc (k - 1) ≡ k = omega arith in
      let more : Reaches (table bs) (words ws) img (suc (k - 1)) (image_bytes (cycle (table bs) before word).after) =
      (later, _, one_more (table bs) steps stays) in
      let first_left : k - 1 + 0 ≡ k - 1 = omega arith in
      let here : word ≡ get_or (words ws) (k - 1) 0 = steps_left steps 0 ∙ ap (λ (i : ℕ). get_or (words ws) i 0) first_left in
      let room : k - 1 < length ws / 8 = omega (arith, steps_count steps, words_length (length ws / 8) ws) in
      record {
        word = word;
        word_is = rw here (words_spelt (length ws / 8) ws (k - 1) room);
        before = before;
        before_is = (word ∷ later, behind, steps);
        next = (cycle (table bs) before word).after;
        after = image_bytes (cycle (table bs) before word).after;
        after_is = rw this at more;
        after_spells = after_spelt bs ok before word fits stays;
        after_fits = steps_fit bs ok (went_fits bs img ws report v) more.2;
        turn = rw found (record_turns bs ok before word);
        only = λ F meets t. fired_alone bs ok before word F meets t ∙ sym (rw found (fired_read bs ok before word t));
        safe = demand_3 bs ok before word;
        ends_there = λ order m' o f p low.
            marking_stands (table bs) before word stays p low ∙ sym ((demand_3 bs ok before word).ends order m' o f p);
      }

  -- A run that is accepted did a cycle for every word.
  pub accepted_count : (c : ℕ) → (run bs img ws report).answer ≡ accepted c → c ≡ length ws / 8
  accepted_count c e =
      let (img', bytes, steps) = ((run_accepts bs img ws report c).0 e).1 in
      omega (arith, steps_count steps, words_length (length ws / 8) ws)

  -- Behind the finished cycles the report is as it was.
  pub rest_kept : drop (24 * (run bs img ws report).answer.cycles) (run bs img ws report).report
      ≡ drop (24 * (run bs img ws report).answer.cycles) report
  rest_kept = ⊎_elim went stopped (verdict_form bs img ws report)
    where
      went : verdict bs img ws report ≡ accepted 0
          → drop (24 * (run bs img ws report).answer.cycles) (run bs img ws report).report
          ≡ drop (24 * (run bs img ws report).answer.cycles) report
      went v =
          let x = run_leaves bs img ws report (ap (λ (a : Answer). a.number) v) in
          rw (x.7.0, x.7.2) (drop_at x.5 (drop (24 * x.2) report) (24 * x.2) (written_length (table bs) x.6))

      stopped : (n : ℕ) × (w : ℕ) × (0 < n) × (n < 13) × (verdict bs img ws report ≡ refused n w)
          → drop (24 * (run bs img ws report).answer.cycles) (run bs img ws report).report
          ≡ drop (24 * (run bs img ws report).answer.cycles) report
      stopped (n, w, some, low, v) =
          rw (run_refused_leaves bs img ws report (λ z. omega (arith, ap (λ (a : Answer). a.number) v))).1

  -- Every finished cycle, counted from 1.
  pub finished : (k : ℕ) → 1 ≤ k → k ≤ (run bs img ws report).answer.cycles
      → Finished bs img ws (run bs img ws report).report k
  finished k l h =
      let v = some_cycle_went bs img ws report k l h in
      let x = lookup_run bs img ws report (ap (λ (a : Answer). a.number) v) k l h in
      step_finished v k l x.4 x.5 x.6

-- No words: no cycle is done and every byte is as it was; accepted, if nothing of 1 to 12 is said.
pub nothing_to_do : (bs img report : List ℕ)
    → (((n w : ℕ) → ¬ RunSays bs img [] report n w) → (run bs img [] report).answer ≡ accepted 0)
    × ((run bs img [] report).answer.cycles ≡ 0) × ((run bs img [] report).image ≡ img)
    × ((run bs img [] report).report ≡ report)
nothing_to_do bs img report = ⊎_elim went stopped (verdict_form bs img [] report)
  where
    Left : Type 0
    Left =
        (((n w : ℕ) → ¬ RunSays bs img [] report n w) → (run bs img [] report).answer ≡ accepted 0)
        × ((run bs img [] report).answer.cycles ≡ 0) × ((run bs img [] report).image ≡ img)
        × ((run bs img [] report).report ≡ report)

    went : verdict bs img [] report ≡ accepted 0 → Left
    went v =
        let left = no_words bs img report (ap (λ (a : Answer). a.number) v) in
        (λ none. left.0, ap (λ (a : Answer). a.cycles) left.0, left.1, left.2)

    stopped : (n : ℕ) × (w : ℕ) × (0 < n) × (n < 13) × (verdict bs img [] report ≡ refused n w) → Left
    stopped (n, w, some, low, v) =
        let left = run_refused_leaves bs img [] report (λ z. omega (arith, ap (λ (a : Answer). a.number) v)) in (
          λ none. absurd (none n w ((run_stops bs img [] report n w some).0 v).0),
          ap (λ (a : Answer). a.cycles) (left.2 ∙ v),
          left.0,
          left.1,
        )
