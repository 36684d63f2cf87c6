-- Demands 1, 2 and 3 of the code: what a call promises (its `ensures`) is what the meaning defines, so what is proved
-- of the meaning holds of the answer and of every byte that the call leaves to its caller.
use mathlib.Core.List.{List, [], ◌∷◌, ◌++◌}
use mathlib.Core.Logic.{◌↔◌, ◌≢◌, ◌⊎◌}
use mathlib.Core.Path.{◌≡◌, sym, ap, ◌∙◌}
use Prim.Native.Nat.{ℕ, ◌+◌, ◌*◌, ◌-◌, ◌/◌, ◌≤◌, ◌<◌}
use lib.ListN.{length, take, drop}
use Rattle.meaning.specs.Bytes.{bit}
use Rattle.meaning.specs.Table.{table}
use Rattle.meaning.specs.Answer.{Answer, accepted, refused}
use Rattle.meaning.specs.Says.{TableSays, StartSays, RunSays, First, ImageFits}
use Rattle.meaning.specs.Image.{State, image, state, image_bytes, fresh}
use Rattle.meaning.specs.Calls.{run}
use Rattle.meaning.specs.Steps.{Bursts, Steps, Reaches}
use Rattle.meaning.specs.Orders.{Safe}
use Rattle.meaning.specs.Rules.{WordSpelt, StateSpelt, Fresh, Turn}
use Rattle.meaning.specs.Finished.{Finished, fired_in, actions_in, functions_in}
use Rattle.meaning.specs.History.{tokens_in, History}
use Rattle.meaning.specs.Promise.{Checked, Started, Ran, LookedUp}
use Rattle.meaning.proofs.Answers.{check_refuses, check_accepts, start_refuses, start_accepts, run_refuses}
use Rattle.meaning.proofs.Run.{words, start_refused_leaves, start_accepted_leaves, run_accepted_leaves, run_full_leaves}
use Rattle.meaning.proofs.Outcomes.{lookup_whole, lookup_none}
use Rattle.meaning.proofs.Demands.{check_number, start_number, start_checked, run_number, verdict_not_13}
use Rattle.meaning.proofs.Demands.{refused_leaves, went, run_accepts, run_bursts, demand_3}
use Rattle.meaning.proofs.Kept.{fresh_spelt, fresh_fits, never_10}
use Rattle.meaning.proofs.History.{run_history}
use Rattle.meaning.proofs.Finished.{finished, image_reached, run_fits, accepted_count, rest_kept, nothing_to_do}

-- The number of an answer.
abbrev number_of : Answer → ℕ
number_of a = a.number

-- CHECK

module _ (bs : List ℕ) (a : Answer) (promised : Checked bs a) where
  -- A table is refused exactly by the first number that the page's answer table gives it, and accepted exactly if
  -- none is given.
  pub check_is_refused : (n w : ℕ) → 0 < n → (a ≡ refused n w) ↔ First (TableSays bs) n w
  check_is_refused n w l = rw promised.answer_is (check_refuses bs n w l)

  pub check_is_accepted : (a ≡ accepted 0) ↔ ((n w : ℕ) → ¬ TableSays bs n w)
  check_is_accepted = rw promised.answer_is (check_accepts bs)

  -- It answers 0 to 9, after no cycle.
  pub check_answers : (a.number ≤ 9) × (a.cycles ≡ 0)
  check_answers = rw promised.answer_is (check_number bs)

-- START

module _ (bs img : List ℕ) (a : Answer) (img' : List ℕ) (promised : Started bs img a img') where
  pub start_is_refused : (n w : ℕ) → 0 < n → (a ≡ refused n w) ↔ First (StartSays bs img) n w
  start_is_refused n w l = rw promised.answer_is (start_refuses bs img n w l)

  pub start_is_accepted : (a ≡ accepted 0) ↔ ((n w : ℕ) → ¬ StartSays bs img n w)
  start_is_accepted = rw promised.answer_is (start_accepts bs img)

  -- It answers 0 to 9 and 12, after no cycle.
  pub start_answers : ((a.number ≤ 9) ⊎ (a.number ≡ 12)) × (a.cycles ≡ 0)
  start_answers = rw promised.answer_is (start_number bs img)

  -- A refusal changes no byte.
  pub start_refused_changes_nothing : (a.number ≡ 0 → ⊥) → img' ≡ img
  start_refused_changes_nothing n =
      promised.image_is ∙ start_refused_leaves bs img (λ z. n (ap number_of promised.answer_is ∙ z))

  -- Accepted, the image spells a fresh net and fits the table.
  module _ (z : a.number ≡ 0) where
    written : img' ≡ image_bytes (fresh (table bs))
    written = promised.image_is ∙ start_accepted_leaves bs img (sym (ap number_of promised.answer_is) ∙ z)

    pub start_leaves_a_fresh_net : (s : State) × Fresh (table bs) s × StateSpelt img' s
    start_leaves_a_fresh_net =
        rw written (fresh_spelt bs (start_checked bs img (sym (ap number_of promised.answer_is) ∙ z)))

    pub start_fits : ImageFits (table bs) img'
    start_fits = rw written (fresh_fits bs (start_checked bs img (sym (ap number_of promised.answer_is) ∙ z)))

    -- So run never answers 10 to it.
    pub run_after_start : (ws report : List ℕ) (b : Answer) (img'' report' : List ℕ)
        → Ran bs img' ws report b img'' report' → b.number ≢ 10
    run_after_start ws report b img'' report' ran e =
        never_10 bs img' start_fits ws report (sym (ap number_of ran.answer_is) ∙ e)

-- RUN

module _ (bs img ws report : List ℕ) (a : Answer) (img' report' : List ℕ)
    (promised : Ran bs img ws report a img' report') where
  -- It answers 0 to 13.
  pub run_answers : a.number ≤ 13
  run_answers = rw promised.answer_is (run_number bs img ws report)

  -- Demand 1: refused before any cycle by the first number that is given, and then no byte is changed.
  pub run_is_refused : (n w : ℕ) → 0 < n → n < 13 → (a ≡ refused n w) ↔ First (RunSays bs img ws report) n w
  run_is_refused n w l h = rw promised.answer_is (run_refuses bs img ws report n w l h)

  pub refused_changes_nothing : (n w : ℕ) → 0 < n → n < 13 → a ≡ refused n w → (img' ≡ img) × (report' ≡ report)
  refused_changes_nothing n w l h e =
      let left = refused_leaves bs img ws report n w l h (sym promised.answer_is ∙ e) in
      (promised.image_is ∙ left.0, promised.report_is ∙ left.1)

  -- Refused at a cycle, exactly if nothing of 1 to 12 is said, c cycles of the meaning can be done, and the next
  -- would burst at p and nowhere below. Then the image is the one that the finished cycles reached, and the report
  -- has their records and behind them what it had.
  pub run_is_full : (p c : ℕ)
      → (a ≡ record { number = 13; at = p; cycles = c })
      ↔ (((n w : ℕ) → ¬ RunSays bs img ws report n w)
      × ((word : ℕ) × (later : List ℕ) × (reached : List ℕ) × (bytes : List ℕ)
      × Steps (table bs) (words ws) img c (word ∷ later) reached bytes × Bursts (table bs) reached word p))
  run_is_full p c = rw promised.answer_is (run_bursts bs img ws report p c)

  pub full_keeps_the_finished : (p c : ℕ) → a ≡ record { number = 13; at = p; cycles = c }
      → (word : ℕ) × (later : List ℕ) × (reached : List ℕ) × (bytes : List ℕ)
      × Steps (table bs) (words ws) img c (word ∷ later) reached bytes × Bursts (table bs) reached word p
      × (img' ≡ reached) × (report' ≡ bytes ++ drop (24 * c) report)
  full_keeps_the_finished p c e =
      let answer : (run bs img ws report).answer ≡ record { number = 13; at = p; cycles = c } =
      sym promised.answer_is ∙ e in
      let left = run_full_leaves bs img ws report (ap number_of answer) (verdict_not_13 bs img ws report) in
      let same = sym left.8.0 ∙ answer in
      let at_p : left.5 ≡ p = ap (λ (b : Answer). b.at) same in
      let count : left.0 ≡ c = ap (λ (b : Answer). b.cycles) same in (
        left.1,
        left.2,
        left.3,
        left.4,
        rw count at left.6,
        rw at_p at left.7,
        promised.image_is ∙ left.8.1,
        rw count at (promised.report_is ∙ left.8.2),
      )

  -- Demand 2: accepted, exactly if nothing of 1 to 12 is said and every word's cycle can be done; then these are the
  -- cycles done, one a word, and image and report are those that they leave.
  pub run_is_accepted : (c : ℕ)
      → (a ≡ accepted c)
      ↔ (((n w : ℕ) → ¬ RunSays bs img ws report n w)
      × ((reached : List ℕ) × (bytes : List ℕ) × Steps (table bs) (words ws) img c [] reached bytes))
  run_is_accepted c = rw promised.answer_is (run_accepts bs img ws report c)

  pub accepted_does_every_word : (c : ℕ) → a ≡ accepted c
      → (c ≡ length ws / 8)
      × ((reached : List ℕ) × (bytes : List ℕ) × Steps (table bs) (words ws) img c [] reached bytes
      × (img' ≡ reached) × (report' ≡ bytes ++ drop (24 * c) report))
  accepted_does_every_word c e =
      let answer : (run bs img ws report).answer ≡ accepted c = sym promised.answer_is ∙ e in
      let left = run_accepted_leaves bs img ws report (ap number_of answer) in
      let count : left.0 ≡ c = ap (λ (b : Answer). b.cycles) (sym left.4.0 ∙ answer) in (
        accepted_count bs img ws report c answer,
        (left.1, left.2, rw count at left.3, promised.image_is ∙ left.4.1, rw count at (promised.report_is ∙ left.4.2)),
      )

  -- Demands 2 and 3 of every finished cycle, however the run ended: its word and image, its sets read back from the
  -- report, its new state by the rules, definition 6's one set, and that the members fired one by one in any order
  -- end in the marking that it left.
  pub every_finished_cycle : (k : ℕ) → 1 ≤ k → k ≤ a.cycles → Finished bs img ws report' k
  every_finished_cycle k l h =
      rw promised.report_is (finished bs img ws report k l (rw (ap (λ (b : Answer). b.cycles) promised.answer_is) at h))

  -- The image left is the one that the cycles done reach, and the report behind them is as it was.
  pub image_is_reached : Reaches (table bs) (words ws) img a.cycles img'
  image_is_reached = rw (promised.answer_is, promised.image_is) (image_reached bs img ws report)

  pub report_beyond_is_kept : drop (24 * a.cycles) report' ≡ drop (24 * a.cycles) report
  report_beyond_is_kept = rw (promised.answer_is, promised.report_is) (rest_kept bs img ws report)

  -- The history of the marking: at every place the end marking with all that the fired sets of the finished cycles
  -- took is the start marking with all that they put.
  pub marking_history : History (table bs) report' a.cycles (tokens_in img) (tokens_in img')
  marking_history = rw (promised.answer_is, promised.image_is, promised.report_is) (run_history bs img ws report)

  -- After a run that ends with 0 or 13 the image fits again, so another run never answers 10 to it.
  module _ (end : (a.number ≡ 0) ⊎ (a.number ≡ 13)) where
    pub run_leaves_a_fitting_image : ImageFits (table bs) img'
    run_leaves_a_fitting_image =
        rw promised.image_is (run_fits bs img ws report (went bs img ws report (rw promised.answer_is at end)))

    pub run_after_run : (vs room : List ℕ) (b : Answer) (img'' report'' : List ℕ) → Ran bs img' vs room b img'' report''
        → b.number ≢ 10
    run_after_run vs room b img'' report'' ran e =
        never_10 bs img' run_leaves_a_fitting_image vs room (sym (ap number_of ran.answer_is) ∙ e)

-- No words: no cycle is done and nothing changes; accepted, if nothing of 1 to 12 is said.
pub no_words_change_nothing : (bs img report : List ℕ) (a : Answer) (img' report' : List ℕ)
    → Ran bs img [] report a img' report'
    → (((n w : ℕ) → ¬ RunSays bs img [] report n w) → a ≡ accepted 0) × (a.cycles ≡ 0) × (img' ≡ img)
    × (report' ≡ report)
no_words_change_nothing bs img report a img' report' ran =
    rw (ran.answer_is, ran.image_is, ran.report_is) (nothing_to_do bs img report)

-- And for every accepted table, state and word: the marking at the start pays for all, each finds what it takes, and
-- every order ends in one marking.
pub every_cycle_is_safe : (bs : List ℕ) (a : Answer) → Checked bs a → a ≡ accepted 0 → (img : List ℕ) (word : ℕ)
    → Safe (table bs) img word
every_cycle_is_safe bs a promised e = demand_3 bs (sym promised.answer_is ∙ e)

-- LOOKUP

module _ (report : List ℕ) (at : ℕ × ℕ) (cycle : ℕ) (part : List ℕ) (part_at : ℕ
    × ℕ) (promised : LookedUp report at cycle part part_at) where
  -- A cycle that the report holds whole is handed back as its 24 bytes, where they stand; for any other the part is
  -- empty.
  pub lookup_hands_back : 1 ≤ cycle → 24 * cycle ≤ length report
      → (part ≡ take 24 (drop (24 * (cycle - 1)) report)) × (length part ≡ 24)
      × (part_at.0 ≡ at.0) × (part_at.1 ≡ at.1 + 24 * (cycle - 1))
  lookup_hands_back l h =
      let found = lookup_whole report cycle l h in (
        promised.part_is ∙ found.0,
        ap length promised.part_is ∙ found.1,
        promised.block_is,
        promised.byte_is ∙ ap (λ (n : ℕ). at.1 + n) found.2,
      )

  pub lookup_is_empty : (cycle < 1) ⊎ (length report < 24 * cycle) → part ≡ []
  lookup_is_empty n = promised.part_is ∙ (lookup_none report cycle n).0

-- Of the report that a run left, lookup of each cycle done hands back that cycle's record: its sets make the turn
-- that its word and the image before it come to.
pub lookup_after_run : (bs img ws report : List ℕ) (a : Answer) (img' report' : List ℕ)
    → Ran bs img ws report a img' report'
    → (at : ℕ × ℕ) (k : ℕ) (part : List ℕ) (part_at : ℕ × ℕ) → LookedUp report' at k part part_at → 1 ≤ k
    → k ≤ a.cycles
    → (word : ℕ) × (before : List ℕ) × (next : State) × WordSpelt ws (k - 1) word
    × Reaches (table bs) (words ws) img (k - 1) before
    × Turn (table bs) (state (image before)) word (bit (fired_in part)) (bit (actions_in part))
    (bit (functions_in part)) next
lookup_after_run bs img ws report a img' report' ran at k part part_at found l h =
    let cycle = every_finished_cycle bs img ws report a img' report' ran k l h in
    (cycle.word, cycle.before, cycle.next, cycle.word_is, cycle.before_is, rw found.part_is cycle.turn)
