-- What the three calls answer, in the words of the meaning.
use Rattle.std.specs.Prelude.{List, ℕ, ℤ, Result}
use Rattle.std.specs.declared.result.Result.TheVariants.{Ok, Err}
use Rattle.meaning.specs.Answer as meaning
use Rattle.answers.specs.Numbered.{number_of, at_of}
use Rattle.summary.specs.declared.Refused.{Refused}
use Rattle.summary.specs.declared.Refused.TheVariants as refused
use Rattle.summary.specs.Day.{empty, no_change}

-- What is refused. These calls do no cycle.
abbrev pub refused_told : Refused → meaning.Answer
refused_told (refused.Table r) = meaning.refused (number_of r) (at_of r)
refused_told (refused.Report r) = meaning.refused 14 r
refused_told refused.Count = meaning.refused 15 0

-- The answer of a call.
abbrev pub day_told : {A : Type 0} → Result A Refused → meaning.Answer
day_told (Ok x) = meaning.accepted 0
day_told (Err r) = refused_told r

-- The summary that a call leaves, and the changes; a refusal's are all 0.
abbrev pub counts_of : Result (List ℕ) Refused → List ℕ
counts_of (Ok s) = s
counts_of (Err r) = empty

abbrev pub change_of : Result (List ℤ) Refused → List ℤ
change_of (Ok d) = d
change_of (Err r) = no_change
