-- The first record that is wrong is the first place whose record is, and where there is none the first such transition.
use mathlib.Core.Bool.{Bool, true, false}
use mathlib.Core.List.{List}
use mathlib.Core.Logic.{⊎_elim}
use mathlib.Core.Path.{◌≡◌, ap, ◌∙◌}
use Prim.Native.Nat.{ℕ, ◌+◌, ◌*◌, ◌-◌, ◌≤◌, ◌<◌}
use native.Mathlib.Omega.{arith}
use lib.Dec.{ltb}
use borrow.Author.Tests.{lt-ltb, le-ltb, ltb-true, ltb-false}
use Rattle.std.specs.declared.option.Option.{Option}
use Rattle.std.specs.declared.option.Option.TheVariants.{Some, None}
use Rattle.meaning.specs.Below.{first, IsFirst}
use Rattle.meaning.proofs.Below.{first_is, first_none, first_passes, first_before}
use Rattle.meaning.proofs.Bool.{either}
use Rattle.rows.specs.declared.Declared.{Declared}
use Rattle.state.specs.Records.{Quiet, IsFirstFrom}
use Rattle.state.specs.Fit.{wrong_place_by, order_by, wrong_transition_by, wrong_by}
use Rattle.rows.specs.Rows.{limit_of}
use Rattle.state.proofs.Read.{quiet_is}

-- What fails below n, and from n on below m, fails below m.
pub none_joined : (n m : ℕ) (p : ℕ → Bool) → ((k : ℕ) → k < n → p k ≡ false)
    → ((k : ℕ) → n ≤ k → k < m → p k ≡ false) → (k : ℕ) → k < m → p k ≡ false
none_joined n m p f g k h =
    ⊎_elim (λ (t : ltb k n ≡ true). f k (ltb-true k n t)) (λ (t : ltb k n ≡ false). g k (ltb-false k n t) h)
    (either (ltb k n))

-- The first from n on, where none below n passes, is the first of all.
pub first_joined : (n m : ℕ) (p : ℕ → Bool) → ((k : ℕ) → k < n → p k ≡ false) → (r : Option ℕ) → IsFirstFrom p n m r
    → IsFirst m p r
first_joined n m p none None found = first_none m p (none_joined n m p none found.before)
first_joined n m p none (Some k) found =
    (found.0, first_is m p k found.0 (found.1.passes found.0) (none_joined n k p none found.1.before))

-- RECORDS THAT ARE 0 ARE NEVER WRONG

-- Places from n on whose bytes are 0.
pub quiet_places : (bs : List ℕ) (known : Declared) (n : ℕ) → Quiet bs (4 * n) 512 → (p : ℕ) → n ≤ p → p < 128
    → wrong_place_by bs known p ≡ false
unfolding wrong_place_by
quiet_places bs known n q p l h =
    let blank = quiet_is bs (4 * n) 512 p q (omega arith) (omega arith) (omega arith) in
    rw (blank.third, blank.fourth, blank.number)

-- All transitions, whose bytes are 0.
pub quiet_transitions : (bs times : List ℕ) → Quiet bs 512 768 → (t : ℕ) → t < 64
    → wrong_transition_by bs times t ≡ false
unfolding wrong_transition_by
quiet_transitions bs times q t h =
    let blank = quiet_is bs 512 768 (128 + t) q (omega arith) (omega arith) (omega arith) in
    let limit = limit_of times t in
    rw (
      blank.third,
      blank.fourth,
      blank.number,
      le-ltb limit 0 (omega arith),
      le-ltb (order_by limit) 0 (omega arith),
    )

-- THE FIRST WRONG RECORD

module _ (bs : List ℕ) (known : Declared) (times : List ℕ) where
  -- The tests of the places, of the transitions and of all records.
  abbrev place : ℕ → Bool
  place = wrong_place_by bs known

  abbrev transition : ℕ → Bool
  transition = wrong_transition_by bs times

  abbrev test : ℕ → Bool
  test = wrong_by bs known times

  -- A place's test is that of its record, and a transition's that of the record 128 behind.
  of_place : (p : ℕ) → p < 128 → test p ≡ place p
  unfolding wrong_by
  of_place p h = rw (lt-ltb p 128 h)

  of_transition : (t : ℕ) → test (128 + t) ≡ transition t
  unfolding wrong_by
  of_transition t =
      let less : 128 + t - 128 ≡ t = omega arith in
      rw (le-ltb (128 + t) 128 (omega arith), less)

  -- The first wrong place is the first wrong record.
  pub at_place : {p : ℕ} → (p < 128) × (first 128 place ≡ p) → (p < 192) × (first 192 test ≡ p)
  at_place {p} found =
      let low = found.0 in
      let under : p < 192 = omega arith in
      let passes : place p ≡ true = rw (← found.1) (first_passes 128 place (rw found.1 low)) in (
        under,
        first_is 192 test p under (of_place p low ∙ passes)
            (λ k l. of_place k (omega arith) ∙ first_before 128 place k (rw found.1 l)),
      )

  module _ (none : first 128 place ≡ 128) where
    -- No record before transition t is wrong.
    before : (t : ℕ) → ((k : ℕ) → k < t → transition k ≡ false) → (k : ℕ) → k < 128 + t → test k ≡ false
    before t f =
        none_joined 128 (128 + t) test (λ k l. of_place k l ∙ first_before 128 place k (rw none l))
        (λ k l h.
        let same : k ≡ 128 + (k - 128) = omega (arith, l) in
        ap test same ∙ of_transition (k - 128) ∙ f (k - 128) (omega (arith, l, h)))

    -- With no place wrong, it is the first wrong transition's, if there is one.
    pub at_transition : {t : ℕ} → (t < 64) × (first 64 transition ≡ t) → (128 + t < 192) × (first 192 test ≡ 128 + t)
    at_transition {t} found =
        let low = found.0 in
        let under : 128 + t < 192 = omega arith in
        let passes : transition t ≡ true = rw (← found.1) (first_passes 64 transition (rw found.1 low)) in (
          under,
          first_is 192 test (128 + t) under (of_transition t ∙ passes)
              (before t (λ k l. first_before 64 transition k (rw found.1 l))),
        )

    pub at_none : first 64 transition ≡ 64 → first 192 test ≡ 192
    at_none e = first_none 192 test (before 64 (λ k l. first_before 64 transition k (rw e l)))

    -- There is none where all of the transitions' bytes are 0.
    pub at_quiet : Quiet bs 512 768 → first 192 test ≡ 192
    at_quiet q = at_none (first_none 64 transition (quiet_transitions bs times q))

-- What the places, and then all records, come to.
pub ruleset of_places = (none_joined, first_joined, first_none, quiet_places)

pub ruleset of_records = (at_place, at_transition, at_none, at_quiet)
