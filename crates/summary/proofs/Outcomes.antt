-- What each call leaves, way by way through its code: the table's checks come first, then the call's own.
use mathlib.Core.Bool.{Bool, true, false, ◌||◌}
use mathlib.Core.List.{List, [], ◌∷◌, ◌++◌}
use mathlib.Core.Logic.{◌≢◌}
use mathlib.Core.Path.{◌≡◌, sym, ap, ap₂, ◌∙◌}
use Prim.Native.Nat.{ℕ, ◌+◌, ◌/◌, ◌≤◌, ◌<◌}
use native.Mathlib.Nat.{not-suc-le-zero}
use native.Mathlib.Omega.{arith}
use lib.Dec.{ltb}
use lib.IntN.{pos, ◌-ℤ◌}
use lib.ListN.{length, get_or}
use borrow.Author.Tests.{ltb-false}
use Rattle.meaning.specs.Below.{first}
use Rattle.meaning.specs.Table as tables
use Rattle.meaning.specs.Table.{table}
use Rattle.meaning.specs.Answer.{Answer, accepted, refused, Check, check_of, decide}
use Rattle.meaning.specs.Defined.{table_checks, check}
use Rattle.meaning.specs.Says.{TableSays}
use Rattle.meaning.specs.Promise.{Checked}
use Rattle.std.specs.Prelude.{Result}
use Rattle.std.specs.Result.{IsErr, IsErrAnd}
use Rattle.std.proofs.lemmas.Bool.{false≢true}
use Rattle.std.specs.declared.result.Result.TheVariants.{Ok, Err}
use Rattle.meaning.proofs.Accepted.{accepted_well}
use Rattle.meaning.proofs.Answers.{check_accepts}
use Rattle.meaning.proofs.Reflect.{lt_decides, refuted}
use Rattle.meaning.proofs.Below.{first_passes, first_before}
use Rattle.meaning.proofs.Decide.{AllClean, decide_pass, decide_first, decide_append, accepted_clean}
use Rattle.meaning.proofs.Demands.{check_number}
use Rattle.meaning.proofs.Tables.{table_refusing}
use Rattle.answers.specs.declared.Refusal.{Refusal}
use Rattle.answers.specs.Numbered.{number_of, at_of, refusal_told}
use Rattle.engine.proofs.Starts.{refused_too, accepted_if, not_0}
use Rattle.summary.specs.declared.Refused.{Refused}
use Rattle.summary.specs.declared.Refused.TheVariants.{Table}
use Rattle.summary.specs.Day.{listed, empty, no_change, cycles_of, summary, plus, change, bad_report, strange}
use Rattle.summary.specs.Day.{report_checks, count_checks, count, too_often, add_checks, add, change_checks}
use Rattle.summary.specs.Parts.{LowArcs, MovesSo}
use Rattle.summary.specs.Promised.{Counted, Added, NetChanged}
use Rattle.summary.proofs.Listed.{listed_same}
use Rattle.summary.proofs.Adding.{given, withheld}
use Rattle.summary.proofs.Moving.{given_change, withheld_change}
use Rattle.summary.proofs.Refusals.{count_answer, add_answer, change_answer}

-- The number of an answer.
abbrev number : Answer → ℕ
number a = a.number

-- What `?` hands on of a refused table.
pub handed : {A : Type 0} (r : Result A Refused) (t : Refusal) → IsErr r × IsErrAnd r (λ e. e ≡ Table t)
    → r ≡ Err (Table t)
handed (Ok x) t h = absurd (false≢true h.0)
handed (Err e) t h = ap Err h.1

-- An accepted table's checks are clean.
clean : (bs : List ℕ) → (check bs).number ≡ 0 → AllClean (table_checks bs)
unfolding check
clean bs z = accepted_clean (table_checks bs) (accepted 0) (table_refusing bs) z

-- A table's answer is of before any cycle; a refused one decides whatever checks stand behind its own.
pub its_refusal : (bs : List ℕ) → check bs ≡ refused (check bs).number (check bs).at
its_refusal bs = λ i. record { number = (check bs).number; at = (check bs).at; cycles = (check_number bs).1 i }

refused_first : (bs : List ℕ) (ys : List Check) → (check bs).number ≢ 0
    → decide (table_checks bs ++ ys) (accepted 0) ≡ refused (check bs).number (check bs).at
unfolding check
refused_first bs ys n = refused_too (table_checks bs) ys n ∙ its_refusal bs

-- What a check says of the table's answer: where it accepts, the number is 0; where it refuses, it is not, and number
-- and where are the refusal's.
pub accepts : (bs : List ℕ) → Checked bs (accepted 0) → (check bs).number ≡ 0
accepts bs h = sym (ap number h.answer_is)

refuses : (bs : List ℕ) (r : Refusal) → Checked bs (refusal_told r)
    → ((check bs).number ≢ 0) × (refused (number_of r) (at_of r) ≡ refused (check bs).number (check bs).at)
refuses bs r h =
    let same = h.answer_is in
    (λ z. not_0 r (ap number same ∙ z), ap₂ refused (ap number same) (ap (λ (a : Answer). a.at) same))

-- A check that asks once.
asked : (b : Bool) (n w : ℕ) (cs : List Check) → b ≡ true
    → decide (check_of 1 (λ k. b) (λ k. refused n w) ∷ cs) (accepted 0) ≡ refused n w
asked b n w cs e = decide_first _ cs (accepted 0) 0 (omega arith, e, λ j h. absurd (not-suc-le-zero h))

passed : (b : Bool) (n w : ℕ) (cs : List Check) → b ≡ false
    → decide (check_of 1 (λ k. b) (λ k. refused n w) ∷ cs) (accepted 0) ≡ decide cs (accepted 0)
passed b n w cs e = decide_pass _ cs (accepted 0) (λ k l. e)

-- COUNT

module _ (bs report : List ℕ) where
  -- By what its checks decide.
  refuses_so : (a : Answer) → a.number ≢ 0 → decide (count_checks bs report) (accepted 0) ≡ a
      → Counted bs report a empty
  unfolding count
  refuses_so a n d =
      record {
        answer_is = sym (count_answer bs report ∙ d);
        counts_are = sym (withheld _ (summary report) (λ z. n (sym (ap number d) ∙ z)));
      }

  pub count_table : (check bs).number ≢ 0 → Counted bs report (refused (check bs).number (check bs).at) empty
  unfolding count_checks
  count_table n = refuses_so _ n (refused_first bs (report_checks (table bs) report) n)

  -- The same by the refusal that a check hands on.
  pub count_refused : (r : Refusal) → Checked bs (refusal_told r)
      → Counted bs report (refused (number_of r) (at_of r)) empty
  count_refused r h = rw (refuses bs r h).1 (count_table (refuses bs r h).0)

  behind : (check bs).number ≡ 0
      → decide (count_checks bs report) (accepted 0) ≡ decide (report_checks (table bs) report) (accepted 0)
  unfolding count_checks
  behind z = decide_append (table_checks bs) (report_checks (table bs) report) (accepted 0) (clean bs z)

  pub count_length : (check bs).number ≡ 0 → bad_report report ≡ true → Counted bs report (refused 14 512) empty
  unfolding report_checks
  count_length z e = refuses_so _ (λ w. omega (arith, w)) (behind z ∙ asked (bad_report report) 14 512 _ e)

  module _ (z : (check bs).number ≡ 0) (e : bad_report report ≡ false) where
    strangers : decide (count_checks bs report) (accepted 0)
        ≡ decide (check_of (length report / 24) (strange (table bs) report) (λ r. refused 14 r) ∷ []) (accepted 0)
    unfolding report_checks
    strangers = behind z ∙ passed (bad_report report) 14 512 _ e

    pub count_stranger : (r : ℕ) → r < length report / 24 → first (length report / 24) (strange (table bs) report) ≡ r
        → Counted bs report (refused 14 r) empty
    count_stranger r l f =
        let low = rw (sym f) at l in
        refuses_so _ (λ w. omega (arith, w))
        (strangers
        ∙ decide_first _ [] (accepted 0) _ (low, first_passes _ _ low, first_before _ _)
        ∙ ap (refused 14) f)

    pub count_all : length report / 24 ≤ first (length report / 24) (strange (table bs) report)
        → Counted bs report (accepted 0) (summary report)
    unfolding count decide
    count_all h =
        let asks = check_of (length report / 24) (strange (table bs) report) (λ r. refused 14 r) in
        let quiet : (k : ℕ) → k < length report / 24 → strange (table bs) report k ≡ false =
        λ k l. first_before (length report / 24) (strange (table bs) report) k (omega (arith, h, l)) in
        let none = strangers ∙ decide_pass asks [] (accepted 0) quiet in
        record {
          answer_is = sym (count_answer bs report ∙ none);
          counts_are = sym (given _ (summary report) (ap number none));
        }

-- ADD

module _ (one other : List ℕ) where
  pub add_refused : (too_often one || too_often other || ltb 4294967295 (cycles_of one + cycles_of other)) ≡ true
      → Added one other (refused 15 0) empty
  unfolding add add_checks
  add_refused e =
      let d = asked (too_often one || too_often other || ltb 4294967295 (cycles_of one + cycles_of other)) 15 0 [] e in
      record {
        answer_is = sym (add_answer one other ∙ d);
        counts_are = sym (withheld _ (plus one other) (λ z. omega (arith, sym (ap number d) ∙ z)));
      }

  pub add_passed : (too_often one || too_often other || ltb 4294967295 (cycles_of one + cycles_of other)) ≡ false
      → Added one other (accepted 0) (plus one other)
  unfolding add add_checks decide
  add_passed e =
      let d = passed (too_often one || too_often other || ltb 4294967295 (cycles_of one + cycles_of other)) 15 0 [] e in
      record {
        answer_is = sym (add_answer one other ∙ d);
        counts_are = sym (given _ (plus one other) (ap number d));
      }

-- NET CHANGE

module _ (bs s : List ℕ) where
  changes_not : (a : Answer) → a.number ≢ 0 → decide (change_checks bs s) (accepted 0) ≡ a
      → NetChanged bs s a no_change
  changes_not a n d =
      let e = change_answer bs s ∙ d in
      record { answer_is = sym e; change_is = sym (withheld_change bs s (λ z. n (sym (ap number e) ∙ z))) }

  pub change_table : (check bs).number ≢ 0 → NetChanged bs s (refused (check bs).number (check bs).at) no_change
  unfolding change_checks
  change_table n = changes_not _ n (refused_first bs _ n)

  pub change_refused : (r : Refusal) → Checked bs (refusal_told r)
      → NetChanged bs s (refused (number_of r) (at_of r)) no_change
  change_refused r h = rw (refuses bs r h).1 (change_table (refuses bs r h).0)

  after : (check bs).number ≡ 0
      → decide (change_checks bs s) (accepted 0)
      ≡ decide (check_of 1 (λ k. too_often s) (λ k. refused 15 0) ∷ []) (accepted 0)
  unfolding change_checks
  after z = decide_append (table_checks bs) _ (accepted 0) (clean bs z)

  pub change_often : (check bs).number ≡ 0 → too_often s ≡ true → NetChanged bs s (refused 15 0) no_change
  change_often z e = changes_not _ (λ w. omega (arith, w)) (after z ∙ asked (too_often s) 15 0 [] e)

  pub change_all : (check bs).number ≡ 0 → too_often s ≡ false
      → NetChanged bs s (accepted 0) (listed 128 (change (table bs) s))
  unfolding decide
  change_all z e =
      let d = change_answer bs s ∙ after z ∙ passed (too_often s) 15 0 [] e in
      record { answer_is = sym d; change_is = sym (given_change bs s (ap number d)) }

-- An accepted table is no longer than 8,192 bytes, and its arcs stand between numbers in range.
pub short : (bs : List ℕ) → (check bs).number ≡ 0 → length bs ≤ 8192
short bs z =
    ltb-false 8192 (length bs)
    (refuted (lt_decides 8192 (length bs))
    (λ h. (check_accepts bs).0 (accepted_if bs z) 1 0 (TableSays.length_long h)))

pub low_arcs : (bs : List ℕ) → (check bs).number ≡ 0 → LowArcs (table bs)
low_arcs bs z r l k =
    let well = accepted_well bs (accepted_if bs z) in
    (well.place_known ((table bs).one r) (well.arc_place r l k), well.arc_transition r l k)

-- What is put less what is taken is the change.
pub change_by : (tb : tables.Table) (s put taken : List ℕ) → MovesSo tb 3 s put → MovesSo tb 0 s taken
    → listed 128 (λ p. pos (get_or put p 0) -ℤ pos (get_or taken p 0)) ≡ listed 128 (change tb s)
unfolding change
change_by tb s put taken h k =
    listed_same 128 _ _ (λ p l. ap₂ (λ (a b : ℕ). pos a -ℤ pos b) (h.moves p l) (k.moves p l))
