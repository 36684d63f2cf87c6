-- Of the two candidates the first that holds: a set that is 0 has nobody, and any other has somebody.
use mathlib.Core.Bool.{Bool, true, false, not, cond, ◌||◌}
use mathlib.Core.Path.{◌≡◌, refl, ◌∙◌}
use Prim.Native.Nat.{ℕ, ◌+◌, ◌-◌}
use native.Mathlib.Omega.{arith}
use Rattle.std.proofs.lemmas.Grind.{common_steps}
use Rattle.meaning.specs.Below.{some, first}
use Rattle.meaning.specs.Bytes.{bit}
use Rattle.meaning.proofs.Bool.{same_test}
use Rattle.meaning.proofs.Below.{some_intro, some_elim}
use Rattle.rows.specs.declared.Declared.{Declared}
use Rattle.rows.specs.Rows.{has}
use Rattle.rows.proofs.Empty.{has_none, has_some}
use Rattle.judge.specs.Judged.{none_of}
use Rattle.judge.proofs.first_none.Goals as goal

-- A set with all of both halves has somebody exactly if some place is declared.
some_place : (known : Declared) (u : ℕ) → ((j : ℕ) → bit u j ≡ (bit known.low j || bit known.high j))
    → some 64 (bit u) ≡ some 128 (has known)
unfolding has
some_place known u both =
    same_test _ _
    (λ e.
    let k = some_elim 64 (bit u) e in
    let is = both k.0 in
    let low = some_intro 128 (has known) k.0 in
    let high = some_intro 128 (has known) (64 + k.0) in
    grind (arith, common_steps))
    (λ e.
    let k = some_elim 128 (has known) e in
    let low_is = both k.0 in
    let high_is = both (k.0 - 64) in
    let low = some_intro 64 (bit u) k.0 in
    let high = some_intro 64 (bit u) (k.0 - 64) in
    grind (arith, common_steps))

-- The first of two candidates.
of_two : (p : ℕ → Bool) → first 2 p ≡ cond (p 0) 0 (cond (p 1) 1 2)
unfolding first
of_two p = grind (arith, common_steps)

-- No place is declared if the set of both halves is empty; no transition, if theirs is.
found : (known : Declared) (u : ℕ) → ((j : ℕ) → bit u j ≡ (bit known.low j || bit known.high j)) → (a b : Bool)
    → some 64 (bit u) ≡ a → some 64 (bit known.transitions) ≡ b
    → first 2 (none_of known) ≡ cond (not a) 0 (cond (not b) 1 2)
unfolding none_of
found known u both a b e f = of_two (none_of known) ∙ rw (← some_place known u both, e, f)

pub returns-then-union-eq0 : goal.returns-then-union-eq0
returns-then-union-eq0 c =
    let none = has_none c.union.result (omega arith) c.if-union-eq0.true in
    let first_is = found c.args.known _ c.union.ensures false _ none refl in
    (omega (arith, first_is), rw first_is)

pub returns-then-known-eq0 : goal.returns-then-known-eq0
returns-then-known-eq0 c =
    let there = has_some c.union.result (omega arith) c.if-union-eq0.false in
    let none = has_none c.args.known.transitions (omega arith) c.if-known-eq0.true in
    let first_is = found c.args.known _ c.union.ensures true false there none in
    (omega (arith, first_is), rw first_is)

pub returns : goal.returns
returns c =
    found c.args.known _ c.union.ensures true true (has_some c.union.result (omega arith) c.if-union-eq0.false)
    (has_some c.args.known.transitions (omega arith) c.if-known-eq0.false)
