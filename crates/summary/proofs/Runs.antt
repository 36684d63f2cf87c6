-- The finished cycles of a run, counted: their records are a report that count accepts, and what the counts change is
-- the end marking less the start marking, by the history of the marking.
use mathlib.Core.Bool.{cond}
use mathlib.Core.List.{List, ◌++◌}
use mathlib.Core.Path.{◌≡◌, sym, ap, ◌∙◌}
use Prim.Native.Nat.{ℕ, suc, ◌*◌, ◌-◌, ◌/◌, ◌≤◌, ◌<◌}
use native.Mathlib.Omega.{arith}
use lib.IntN.{pos, ◌-ℤ◌}
use lib.ListN.{length, take, drop, length-append}
use lib.Seq.{take_at}
use borrow.Author.Tests.{ltb-false}
use Rattle.meaning.specs.Below.{sum}
use Rattle.meaning.specs.Bytes.{bit}
use Rattle.meaning.specs.Table.{table}
use Rattle.meaning.specs.Answer.{Answer, accepted}
use Rattle.meaning.specs.Defined.{check}
use Rattle.meaning.specs.Calls.{run, lookup}
use Rattle.meaning.specs.Says.{RunSays}
use Rattle.meaning.specs.Finished.{Finished, fired_in}
use Rattle.meaning.specs.History.{tokens_in, fired_set}
use Rattle.meaning.proofs.Below.{sum_same}
use Rattle.meaning.proofs.Reflect.{Decides, lt_decides, refuted}
use Rattle.meaning.proofs.Accepted.{accepted_well}
use Rattle.meaning.proofs.Answers.{check_accepts, run_goes}
use Rattle.meaning.proofs.Run.{verdict, written_length, run_leaves}
use Rattle.meaning.proofs.Turns.{cycle_only}
use Rattle.meaning.proofs.Demands.{went_accepted}
use Rattle.meaning.proofs.Finished.{steps_count, words_length, reached_once, finished}
use Rattle.meaning.proofs.History.{run_history}
use Rattle.summary.specs.Day.{times_of, fired_word, times, summary, count, moved, change, net_change}
use Rattle.summary.specs.Spoken.{CountSays, ChangeSays, Times, CycleFires}
use Rattle.summary.proofs.Whole.{same_difference}
use Rattle.summary.proofs.Refusals.{fired_decides, count_accepts, change_accepts}
use Rattle.summary.proofs.Reading.{times_by}
use Rattle.summary.proofs.Moving.{sets_take, sets_put}
use Rattle.summary.proofs.Reports.{word_front, lookup_word, summary_times, summary_fair}

module _ (bs img ws report : List ℕ) (v : verdict bs img ws report ≡ accepted 0) where
  -- The report that the run leaves, its finished cycles, and their records.
  abbrev out : List ℕ
  out = (run bs img ws report).report

  abbrev done : ℕ
  done = (run bs img ws report).answer.cycles

  abbrev pub kept : List ℕ
  kept = take (24 * done) out

  ok : check bs ≡ accepted 0
  ok = went_accepted bs img ws report v

  -- THE RECORDS

  -- They are the bytes that the finished cycles wrote, 24 each, and at most 512.
  pub record Written : Type 0 where
    pub bytes : List ℕ
    pub rest : List ℕ
    pub out_is : out ≡ bytes ++ rest
    pub long : length bytes ≡ 24 * done
    pub few : done ≤ 512

  written : Written
  written =
      let x = run_leaves bs img ws report (ap (λ (a : Answer). a.number) v) in
      let cycles : done ≡ x.2 = ap (λ (a : Answer). a.cycles) x.7.0 in
      let short : length ws ≤ 4096 =
      ltb-false 4096 (length ws)
      (refuted (lt_decides 4096 (length ws)) (λ h. (run_goes bs img ws report).0 v 11 0 (RunSays.words_long h))) in
      record {
        bytes = x.5;
        rest = drop (24 * x.2) report;
        out_is = x.7.2;
        long = written_length (table bs) x.6 ∙ ap (λ (n : ℕ). 24 * n) (sym cycles);
        few = omega (arith, cycles, short, steps_count x.6, words_length (length ws / 8) ws);
      }

  kept_is : kept ≡ written.bytes
  kept_is =
      ap (take (24 * done)) written.out_is ∙ take_at written.bytes written.rest (24 * done) written.long

  pub kept_long : length kept ≡ 24 * done
  kept_long = ap length kept_is ∙ written.long

  out_long : 24 * done ≤ length out
  out_long =
      omega (arith, ap length written.out_is, length-append written.bytes written.rest, written.long)

  -- The fired word of each is that of the cycle.
  word_kept : (j : ℕ) → j < done → fired_word kept j ≡ fired_in (lookup out (suc j))
  word_kept j l =
      ap (λ (x : List ℕ). fired_word x j) kept_is
      ∙ sym (word_front written.bytes written.rest j (omega (arith, written.long, l)))
      ∙ ap (λ (x : List ℕ). fired_word x j) (sym written.out_is)
      ∙ sym (lookup_word out j (omega (arith, out_long, l)))

  -- Each finished cycle, counted from 0.
  cycle_at : (j : ℕ) → j < done → Finished bs img ws out (suc j)
  cycle_at j l = finished bs img ws report (suc j) (omega arith) (omega (arith, l))

  -- COUNT

  pub counted : (count bs kept).answer ≡ accepted 0
  counted = (count_accepts bs kept).1 never
    where
      never : (n w : ℕ) → CountSays bs kept n w → ⊥
      never n w (CountSays.of_table s) = (check_accepts bs).0 ok n w s
      never n w (CountSays.length_odd h) = h (omega (arith, kept_long))
      never n w (CountSays.length_long h) = omega (arith, kept_long, written.few, h)
      never n w (CountSays.stranger {r} k even short l m f u) =
          let low : r < done = omega (arith, kept_long, l) in
          let fires = ap (λ (x : ℕ). bit x k) (sym (word_kept r low)) ∙ (fired_decides kept k r).1 f in
          u (((cycle_at r low).turn.fired k).0 fires).firable.declared

  pub kept_cycles : length kept / 24 ≡ done
  kept_cycles = omega (arith, kept_long)

  -- Each count is the number of fired sets that have the transition.
  times_kept : (k : ℕ) → k < 64 → times_of (summary kept) k ≡ sum done (λ j. cond (fired_set out j k) 1 0)
  unfolding times
  times_kept k l =
      summary_times kept k l
      ∙ ap (λ (n : ℕ). times kept n k) kept_cycles
      ∙ sum_same done _ _ (λ j i. ap (λ (x : ℕ). cond (bit x k) 1 0) (word_kept j i))

  -- In a cycle a transition is in the fired set exactly if it fires by the rules.
  fires_decides : (k j : ℕ) → j < done → Decides (fired_set out j k) (CycleFires bs img ws k j)
  fires_decides k j l =
      let c = cycle_at j l in
      let this : suc j - 1 ≡ j = omega arith in (
        λ e.
            record {
              before = c.before;
              before_is = rw this at c.before_is;
              word = c.word;
              word_is = rw this at c.word_is;
              next = c.next;
              fired = fired_set out j;
              actions = _;
              functions = _;
              turn = c.turn;
              fires = e;
            },
        λ x.
            let there = rw this at c.before_is in
            let same : x.before ≡ c.before = reached_once x.before_is.2 there.2 in
            let word : x.word ≡ c.word = x.word_is ∙ sym (rw this at c.word_is) in
            let turn = rw (same, word) at x.turn in
            (cycle_only bs ok c.before c.word (fired_set out j) _ _ c.next c.turn).0 k
            ∙ sym ((cycle_only bs ok c.before c.word x.fired x.actions x.functions x.next turn).0 k)
            ∙ x.fires,
      )

  pub times_fired : (k : ℕ) → k < 64 → Times (CycleFires bs img ws k) done (times_of (summary kept) k)
  times_fired k l =
      rw (times_kept k l) (times_by (CycleFires bs img ws k) (λ j. fired_set out j k) done (fires_decides k))

  -- NET CHANGE

  pub changed : (net_change bs (summary kept)).answer ≡ accepted 0
  changed = (change_accepts bs (summary kept)).1 never
    where
      never : (n w : ℕ) → ChangeSays bs (summary kept) n w → ⊥
      never n w (ChangeSays.of_table s) = (check_accepts bs).0 ok n w s
      never n w (ChangeSays.wrong (k, l, h)) = omega (arith, summary_fair kept k l, h)

  pub change_ends : (p : ℕ) → p < 128
      → change (table bs) (summary kept) p ≡ pos (tokens_in (run bs img ws report).image p) -ℤ pos (tokens_in img p)
  unfolding change
  change_ends p h =
      let low = (accepted_well bs ok).arc_transition in
      let take = sets_take (table bs) low (summary kept) done (fired_set out) times_kept p in
      let put = sets_put (table bs) low (summary kept) done (fired_set out) times_kept p in
      same_difference (moved (table bs) 3 (summary kept) p) (moved (table bs) 0 (summary kept) p)
      (tokens_in (run bs img ws report).image p) (tokens_in img p)
      (omega (arith, take, put, (run_history bs img ws report).balances p h))
