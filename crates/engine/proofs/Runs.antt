-- What run leaves: its table's answer, else what is said of the lent bytes, else what the cycles leave.
use mathlib.Core.List.{List, ◌++◌, append_assoc}
use mathlib.Core.Logic.{◌≢◌}
use mathlib.Core.Path.{◌≡◌, refl, sym, ap, ◌∙◌}
use Prim.Native.Nat.{ℕ, ◌<◌}
use Rattle.std.specs.Prelude.{Result}
use Rattle.meaning.specs.Below.{first}
use Rattle.meaning.specs.Bytes.{bit}
use Rattle.meaning.specs.Table.{table, transition}
use Rattle.meaning.specs.Answer.{Answer, accepted, Check, decide}
use Rattle.meaning.specs.Defined.{table_checks, check}
use Rattle.meaning.specs.Image.{image, wrong, state_checks}
use Rattle.meaning.specs.Calls.{run_checks, word_checks}
use Rattle.meaning.specs.Promise.{Ran}
use Rattle.meaning.proofs.Decide.{decide_append, accepted_clean}
use Rattle.meaning.proofs.Tables.{table_refusing}
use Rattle.meaning.proofs.Sound.{SoundTable, check_sound}
use Rattle.meaning.proofs.Run.{verdict, run_refused_leaves, run_goes_on}
use Rattle.rows.specs.declared.Declared.{Declared}
use Rattle.state.specs.Fit.{wrong_by}
use Rattle.state.proofs.Fitted.{first_wrong_same}
use Rattle.answers.specs.declared.Refusal.{Refusal}
use Rattle.answers.specs.Numbered.{run_told}
use Rattle.cycles.specs.Cycles.{Ready, PlayOf, Ends}
use Rattle.engine.specs.Said.{lent_checks, ProceedOf}
use Rattle.engine.proofs.Starts.{refused_too}
use Rattle.engine.proofs.Beside.{lent_same, long_is, fits_is, few_is, room_is}

module _ {bs : List ℕ} {n : ℕ} {known : Declared} {rows times : List ℕ} {w s : List (List ℕ)} {heads posts : List ℕ}
    (of : ProceedOf bs n known rows times w s heads posts) where
  sound : SoundTable (table bs)
  sound = check_sound bs (ap (λ (a : Answer). a.number) of.net_of.sound)

  known_is : (t : ℕ) → t < 64 → bit known.transitions t ≡ transition (table bs) t
  unfolding transition
  known_is t h = of.net_of.filed.known_are.transitions t h

  -- With what is lent in order, the cycles may be played.
  pub plays : {img ws report : List ℕ} → Ready bs img ws report
      → PlayOf bs n known.transitions img ws report rows times w s heads posts
  plays ready =
      record {
        declared = known;
        net_of = of.net_of;
        eights = of.eights;
        enough = of.enough;
        few = of.few;
        sizes = of.sizes;
        known_is = known_is;
        ready = ready;
      }

module _ (bs img ws report : List ℕ) where
  -- What stands behind the table's checks.
  abbrev behind : List Check
  behind = state_checks (table bs) img ++ word_checks ws report

  in_order : verdict bs img ws report ≡ decide (table_checks bs ++ behind) (accepted 0)
  unfolding run_checks
  in_order =
      ap (λ (l : List Check). decide l (accepted 0))
      (append_assoc (table_checks bs) (state_checks (table bs) img) (word_checks ws report))

  -- A refusal before any cycle leaves every byte.
  refuses : {a : Answer} → verdict bs img ws report ≡ a → a.number ≢ 0 → Ran bs img ws report a img report
  refuses e n =
      let left = run_refused_leaves bs img ws report (λ z. n (ap (λ (b : Answer). b.number) (sym e) ∙ z)) in
      record { answer_is = sym e ∙ sym left.2; image_is = sym left.0; report_is = sym left.1 }

  -- The table is refused: that is the answer.
  pub refused_by_table : {a : Answer} → a ≡ check bs → a.number ≢ 0 → Ran bs img ws report a img report
  unfolding check
  refused_by_table e n =
      refuses
      (in_order
      ∙ refused_too (table_checks bs) behind (λ z. n (ap (λ (b : Answer). b.number) e ∙ z))
      ∙ sym e)
      n

  module _ {n : ℕ} {known : Declared} {rows times : List ℕ} {w s : List (List ℕ)} {heads posts : List ℕ}
      (of : ProceedOf bs n known rows times w s heads posts) where
    same_wrong : first 192 (wrong_by img known times) ≡ first 192 (wrong (table bs) (image img))
    same_wrong = first_wrong_same (sound of) of.net_of.filed.timed of.net_of.filed.known_are img

    lent_decides : decide (lent_checks img ws report known times) (accepted 0) ≡ verdict bs img ws report
    unfolding check
    lent_decides =
        lent_same img ws report known times (table bs) same_wrong
        ∙ sym
        (in_order
        ∙ decide_append (table_checks bs) behind (accepted 0)
        (accepted_clean (table_checks bs) (accepted 0) (table_refusing bs) zero_table))
      where
        zero_table : (decide (table_checks bs) (accepted 0)).number ≡ 0
        zero_table = ap (λ (a : Answer). a.number) of.net_of.sound

    -- Something is said of the lent bytes: that is the answer.
    pub refused_by_lent : {a : Answer} → a ≡ decide (lent_checks img ws report known times) (accepted 0) → a.number ≢ 0
        → Ran bs img ws report a img report
    refused_by_lent e n = refuses (sym lent_decides ∙ sym e) n

    -- Nothing is: the cycles may be done, and what they leave is what run leaves.
    module _ (none : (decide (lent_checks img ws report known times) (accepted 0)).number ≡ 0) where
      pub ready : Ready bs img ws report
      ready =
          record {
            long = long_is img ws report known times none;
            fits = sym same_wrong ∙ fits_is img ws report known times none;
            few = few_is img ws report known times none;
            room = room_is img ws report known times none;
          }

      pub ran_through : {told : Result ℕ Refusal} {img' report' : List ℕ} → Ends bs img ws report told img' report'
          → Ran bs img ws report (run_told told) img' report'
      ran_through ends =
          let goes = run_goes_on bs img ws report (ap (λ (a : Answer). a.number) (sym lent_decides) ∙ none) in
          record {
            answer_is = ends.answer_is ∙ rw goes refl;
            image_is = ends.image_is ∙ rw goes refl;
            report_is = ends.report_is ∙ rw goes refl;
          }
