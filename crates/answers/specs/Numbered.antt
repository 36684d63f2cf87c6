-- Document 01, "Answer numbers and their order": the number, the where and the cycles done of each refusal.
use Rattle.std.specs.Prelude.{ℕ, ◌+◌, ◌*◌, Result}
use Rattle.std.specs.declared.result.Result.TheVariants.{Ok, Err}
use Rattle.meaning.specs.Answer as meaning
use Rattle.answers.specs.declared.Refusal.{Refusal}
use Rattle.answers.specs.declared.Refusal.TheVariants as refusal

-- Its number.
abbrev pub number_of : Refusal → ℕ
number_of refusal.Length = 1
number_of (refusal.Kind r) = 2
number_of (refusal.Field r) = 3
number_of (refusal.Twice r) = 4
number_of (refusal.Unknown r) = 5
number_of refusal.NoPlace = 6
number_of refusal.NoTransition = 6
number_of (refusal.Isolated n) = 7
number_of (refusal.Circle t) = 8
number_of (refusal.Conflict p) = 9
number_of (refusal.State r) = 10
number_of refusal.Words = 11
number_of refusal.Room = 12
number_of (refusal.Full p c) = 13

-- Its where.
abbrev pub at_of : Refusal → ℕ
at_of refusal.Length = 0
at_of (refusal.Kind r) = r
at_of (refusal.Field r) = r
at_of (refusal.Twice r) = r
at_of (refusal.Unknown r) = r
at_of refusal.NoPlace = 0
at_of refusal.NoTransition = 1
at_of (refusal.Isolated n) = n
at_of (refusal.Circle t) = t
at_of (refusal.Conflict p) = 64 * p.first + p.second
at_of (refusal.State r) = r
at_of refusal.Words = 0
at_of refusal.Room = 0
at_of (refusal.Full p c) = p

-- The cycles done before it.
abbrev pub cycles_of : Refusal → ℕ
cycles_of (refusal.Full p c) = c
cycles_of r = 0

-- What is refused, as the meaning's answer.
abbrev pub refusal_told : Refusal → meaning.Answer
refusal_told r = record { number = number_of r; at = at_of r; cycles = cycles_of r }

-- The answer of a call that does no cycles.
abbrev pub check_told : Result (Unit {0}) Refusal → meaning.Answer
check_told (Ok u) = meaning.accepted 0
check_told (Err r) = refusal_told r

-- The answer of a call that does cycles, and says how many.
abbrev pub run_told : Result ℕ Refusal → meaning.Answer
run_told (Ok n) = meaning.accepted n
run_told (Err r) = refusal_told r
