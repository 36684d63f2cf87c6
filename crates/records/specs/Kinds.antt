-- The kinds by number, and what examining a record answers.
use Rattle.std.specs.Prelude.{◌≡◌, ◌≢◌, ℕ, Result, MatchResult}
use Rattle.meaning.specs.Answer as meaning
use Rattle.answers.specs.declared.Refusal.{Refusal}
use Rattle.answers.specs.Numbered.{refusal_told}
use Rattle.records.specs.declared.kind.Kind.{Kind}
use Rattle.records.specs.declared.kind.Kind.TheVariants.{Place, Transition, Arc, Condition, Priority, Action, Function}
use Rattle.records.specs.declared.kind.NoKind.{NoKind}
use Rattle.records.specs.declared.Rec.{Rec}
use Rattle.records.specs.Record.{fault_of}

-- The number of a kind.
abbrev pub kind_number : Kind → ℕ
kind_number Place = 1
kind_number Transition = 2
kind_number Arc = 3
kind_number Condition = 4
kind_number Priority = 5
kind_number Action = 6
kind_number Function = 7

-- A byte is read as the kind that has its number, or it is the number of none.
abbrev pub Decodes : ℕ → Result Kind NoKind → Type 0
Decodes byte r = MatchResult r (λ k. kind_number k ≡ byte) (λ e. (k : Kind) → kind_number k ≢ byte)

-- A record that meets neither 2 nor 3 has this kind; else it is refused with the first that it meets.
abbrev pub Examined : Rec → ℕ → Result Kind Refusal → Type 0
Examined x r result =
    MatchResult result (λ k. (fault_of x ≡ 0) × (kind_number k ≡ x.kind))
    (λ e. (fault_of x ≢ 0) × (refusal_told e ≡ meaning.refused (fault_of x) r))
