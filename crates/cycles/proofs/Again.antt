-- The same words from the same image come to the same: a cycle that was finished is finished again, with the same
-- record; and what is left is the trace's.
use mathlib.Core.List.{List, [], ◌∷◌, ◌++◌}
use mathlib.Core.Path.{◌≡◌, refl, ap, ap₂, ◌∙◌}
use Prim.Native.Nat.{ℕ, ◌*◌, ◌/◌, ◌<◌}
use native.Mathlib.Omega.{arith}
use lib.ListN.{length, drop}
use lib.Seq.{drop_at}
use borrow.Author.Tests.{ne_eqb}
use Rattle.std.specs.Prelude.{Result, Ok, Err, IsOk}
use Rattle.meaning.specs.Table.{Table, table}
use Rattle.meaning.specs.Calls.{words_of, trace}
use Rattle.meaning.specs.Steps.{Stays, Steps}
use Rattle.meaning.specs.Cycle.{cycle}
use Rattle.meaning.proofs.Finished.{steps_count, reached_once, words_length}
use Rattle.meaning.proofs.Run.{trace_finishes, trace_bursts, written_length}
use Rattle.rows.specs.declared.Net.{Net}
use Rattle.answers.specs.declared.Refusal.TheVariants as Refusal
use Rattle.cycles.specs.declared.Full.{Full}
use Rattle.cycles.specs.Cycles.{all_words, CyclesOf, Done, Broke, Cycled, Ends}

-- One number of steps writes one list of bytes.
written_once : {tb : Table} {ws img left img' bytes left' img'' bytes' : List ℕ} {n : ℕ}
    → Steps tb ws img n left img' bytes → Steps tb ws img n left' img'' bytes' → bytes ≡ bytes'
written_once Steps.none Steps.none = refl
written_once {tb} (Steps.more {w} {img = img} s r) (Steps.more s' r') =
    ap (λ (bs : List ℕ). (cycle tb img w).written ++ bs) (written_once r r')

-- Of the steps taken none was refused.
stays_at : {tb : Table} {ws img left img' bytes left' img'' bytes' : List ℕ} {n i w : ℕ}
    → Steps tb ws img n left img' bytes → Steps tb ws img i (w ∷ left') img'' bytes' → i < n → Stays tb img'' w
stays_at Steps.none r h = absurd (omega (arith, h))
stays_at (Steps.more s r) Steps.none h = s
stays_at (Steps.more s r) (Steps.more s' r') h = stays_at r r' (omega (arith, h))

module _ {bs img ws report : List ℕ} {count p : ℕ} {out : List ℕ} (broke : Broke bs img ws report count p out) where
  -- The cycles before the refused one are finished when they are done again.
  not_again : {report' : List ℕ} {i q : ℕ} {out' : List ℕ} → i < count → ¬ Broke bs img ws report' i q out'
  not_again {q = q} less other =
      let stays = stays_at broke.steps other.steps less in
      omega (arith, stays q other.bursts.0, other.bursts.1)

  -- So they all are.
  pub all_again : {net : Net} {e : Result Unit Full} {img₁ img' out' : List ℕ} → img₁ ≡ img
      → Cycled net img₁ ws count out e img' out' → CyclesOf bs net img₁ ws count out
      → IsOk e × Done bs img ws out count img' out'
  all_again {e = Ok o} same cycled of = (refl, rw same at (cycled.comes bs of))
  all_again {e = Err f} same cycled of =
      let refusal = cycled.comes bs of in
      absurd (not_again refusal.0 (rw same at refusal.1))

  bursting : trace (table bs) (all_words ws) img
      ≡ record { number = 13; at = p; cycles = count; image = broke.reached; written = broke.written }
  bursting = trace_bursts (table bs) broke.steps broke.bursts

  -- With none before it the image is as it was.
  pub at_once : {img' : List ℕ} → img' ≡ img → count ≡ 0
      → Ends bs img ws report (Err (Refusal.Full p count)) img' out
  at_once same none =
      record {
        answer_is = rw bursting refl;
        image_is = same ∙ reached_once (Steps.none) (rw none at broke.steps) ∙ rw bursting refl;
        report_is = broke.out_is ∙ rw (bursting, written_length (table bs) broke.steps) refl;
      }

  -- With some before it the image is what they leave when they are done again, and their records are written again.
  pub again : {img' out' : List ℕ} → ¬ (count ≡ 0) → Done bs img ws out count img' out'
      → Ends bs img ws report (Err (Refusal.Full p count)) img' out'
  again some done =
      record {
        answer_is = rw bursting refl;
        image_is =
            rw (ne_eqb count 0 some) at done.image_is ∙ reached_once done.steps broke.steps
            ∙ rw bursting refl;
        report_is = done.out_is ∙ twice ∙ rw (bursting, long) refl;
      }
    where
      long : length broke.written ≡ 24 * count
      long = written_length (table bs) broke.steps

      twice : done.written ++ drop (24 * count) out ≡ broke.written ++ drop (24 * count) report
      twice =
          ap₂ (λ (a b : List ℕ). a ++ b) (written_once done.steps broke.steps)
          (ap (drop (24 * count)) broke.out_is
          ∙ drop_at broke.written (drop (24 * count) report) (24 * count) long)

-- No words are left after as many steps as there are.
none_left : {tb : Table} (ws : List ℕ) {img left img' bytes : List ℕ}
    → Steps tb (all_words ws) img (length ws / 8) left img' bytes → left ≡ []
none_left ws steps = empty _ (omega (arith, steps_count steps, words_length (length ws / 8) ws))
  where
    empty : (xs : List ℕ) → length xs ≡ 0 → xs ≡ []
    empty [] e = refl
    empty (x ∷ xs) e = absurd (omega (arith, e))

-- Every word is done.
pub all_done : {bs img ws report img' out : List ℕ} → ¬ (length ws / 8 ≡ 0)
    → Done bs img ws report (length ws / 8) img' out
    → Ends bs img ws report (Ok (length ws / 8)) img' out
all_done {bs} {img} {ws} some done =
    record {
      answer_is = rw finishing refl;
      image_is = rw (ne_eqb (length ws / 8) 0 some) at done.image_is ∙ rw finishing refl;
      report_is = done.out_is ∙ rw (finishing, written_length (table bs) done.steps) refl;
    }
  where
    finishing : trace (table bs) (all_words ws) img
        ≡ record { number = 0; at = 0; cycles = length ws / 8; image = done.reached; written = done.written }
    finishing = trace_finishes (table bs) (rw (none_left ws done.steps) at done.steps)

-- There is no word.
pub no_words : {bs img ws report : List ℕ} → length ws / 8 ≡ 0
    → Ends bs img ws report (Ok 0) img report
unfolding words_of
no_words {bs} {img} {ws} none =
    record { answer_is = rw empty refl; image_is = rw empty refl; report_is = rw empty refl }
  where
    none_there : all_words ws ≡ []
    none_there = ap (λ (k : ℕ). words_of k ws) none

    empty : trace (table bs) (all_words ws) img
        ≡ record { number = 0; at = 0; cycles = 0; image = img; written = [] }
    empty = trace_finishes (table bs) (rw none_there (Steps.none))
