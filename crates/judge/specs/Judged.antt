-- What the stages of a table ask and what they come to, in the words of the meaning.
use Rattle.std.specs.Prelude.{Bool, cond, not, List, ◌≡◌, ℕ, ◌≤◌, ◌<◌, eqb, length}
use Rattle.std.specs.Prelude.{Option, MatchOption, Result, IfOk, OnOk}
use Rattle.std.specs.declared.result.Result.TheVariants.{Ok, Err}
use Rattle.meaning.specs.Below.{some, first}
use Rattle.meaning.specs.Bytes.{bit}
use Rattle.meaning.specs.Table.{Table}
use Rattle.meaning.specs.Answer.{Answer, accepted, refused}
use Rattle.meaning.specs.Defined.{check}
use Rattle.rows.specs.declared.Declared.{Declared}
use Rattle.rows.specs.Extent.{Roomy}
use Rattle.rows.specs.Rows.{has}
use Rattle.rows.specs.Filed.{NetOf}
use Rattle.named.specs.Named.{unknown_in, unknown_at}
use Rattle.scan.specs.Scan.{Blank}
use Rattle.answers.specs.declared.Refusal.{Refusal}
use Rattle.answers.specs.Numbered.{refusal_told}

-- The first record that names an unknown, if the rows show one.
unfoldable pub unknown_first : Table → List ℕ → Declared → ℕ → ℕ
unknown_first tb rows known n = cond (unknown_in rows known n) (first tb.records (unknown_at tb known)) tb.records

-- It is said as an option.
abbrev pub FirstUnknown : Table → List ℕ → Declared → ℕ → Option ℕ → Type 0
FirstUnknown tb rows known n r =
    MatchOption r (unknown_first tb rows known n ≡ tb.records)
    (λ k. (k < tb.records) × (unknown_first tb rows known n ≡ k))

-- Candidate 0 is that no place is declared, candidate 1 that no transition is.
unfoldable pub none_of : Declared → ℕ → Bool
none_of known k = cond (eqb k 0) (not (some 128 (has known))) (not (some 64 (bit known.transitions)))

-- The first of them, as answer 6.
abbrev pub FirstNone : Declared → Option Refusal → Type 0
FirstNone known r =
    MatchOption r (first 2 (none_of known) ≡ 2)
    (λ e. (first 2 (none_of known) < 2) × (refusal_told e ≡ refused 6 (first 2 (none_of known))))

-- Rows for n numbers and more, all empty, and room for the table: no byte 1 that may be a number is at n or past it.
pub record JudgeAsks (tb : Table) (n : ℕ) (rows : List ℕ) (w s : List (List ℕ)) (heads posts times : List ℕ)
    : Type 0 where
  pub few : n ≤ 128
  pub roomy : Roomy tb n
  pub enough : n ≤ length w
  pub blank : Blank tb rows w s heads posts times

-- The answer for a table: accepted, whatever it declares, or refused.
abbrev pub judge_told : Result Declared Refusal → Answer
judge_told (Ok known) = accepted 0
judge_told (Err e) = refusal_told e

-- The table's answer; and where it is accepted the rows hold its net, and there are as many as before.
pub record Judges (bs : List ℕ) (n : ℕ) (v : Result Declared Refusal) (rows : List ℕ) (w s : List (List ℕ))
    (heads posts times : List ℕ) : Type 0 where
  pub answer : judge_told v ≡ check bs
  pub net_of : IfOk v (λ known. NetOf bs n rows w s heads posts times known)
  pub lengths : OnOk v ((length heads ≡ 64) × (length times ≡ 192))
