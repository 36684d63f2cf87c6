-- A kind that does not exist is 2; else the constants are the rows of the table of kinds, so the tests in the code's
-- order are those of 2 and then 3.
use mathlib.Core.Bool.{Bool, true, false, ◌||◌}
use mathlib.Core.Path.{◌≡◌, refl, sym, ap, ◌∙◌}
use Prim.Native.Nat.{ℕ, zero, suc, ◌-◌, ◌≤◌, ◌<◌}
use native.Mathlib.Omega.{arith}
use lib.Dec.{eqb, ltb}
use borrow.Author.Tests.{lt-ltb, le-ltb, ne_eqb}
use Rattle.meaning.specs.Answer as meaning
use Rattle.meaning.specs.Table.{kind_row}
use Rattle.meaning.specs.Defined.{bad_kind, bad_field}
use Rattle.meaning.proofs.Bool.{or_false, or_true_left, or_true_right}
use Rattle.answers.specs.declared.Refusal.TheVariants as refusal
use Rattle.answers.specs.Numbered.{refusal_told}
use Rattle.records.specs.declared.Rec.{Rec}
use Rattle.records.specs.declared.kind.Kind.{Kind}
use Rattle.records.specs.declared.kind.Kind.TheVariants.{Place, Transition, Arc, Condition, Priority, Action, Function}
use Rattle.records.specs.Kinds.{kind_number}
use Rattle.records.specs.Record.{alone, fault_of}
use Rattle.records.proofs.Limits.{limit, verdict, sort_tested, fields_tested}
use Rattle.records.proofs.examine.Goals as goal

-- A kind's number is one of 1 to 7.
numbered : (k : Kind) (n : ℕ) → kind_number k ≡ n → (n ≡ 0 → ⊥) × (n ≤ 7)
numbered Place n e = (λ z. absurd (omega (arith, e, z)), omega (arith, e))
numbered Transition n e = (λ z. absurd (omega (arith, e, z)), omega (arith, e))
numbered Arc n e = (λ z. absurd (omega (arith, e, z)), omega (arith, e))
numbered Condition n e = (λ z. absurd (omega (arith, e, z)), omega (arith, e))
numbered Priority n e = (λ z. absurd (omega (arith, e, z)), omega (arith, e))
numbered Action n e = (λ z. absurd (omega (arith, e, z)), omega (arith, e))
numbered Function n e = (λ z. absurd (omega (arith, e, z)), omega (arith, e))

-- A number above 7 is refused with 2, and so is each that no kind has.
above : (n : ℕ) (b : Bool) → (n ≡ 0 → ⊥) → 7 < n → (eqb n 0 || ltb 7 n || b) ≡ true
above n b some far = rw (ne_eqb n 0 some, lt-ltb 7 n far)

no_kind : (x : Rec) → ((k : Kind) → kind_number k ≡ x.kind → ⊥) → bad_kind (alone x) 0 ≡ true
unfolding bad_kind
no_kind x none = go x.kind (ltb (kind_row (alone x) 0).sort x.sort) none
  where
    go : (n : ℕ) (b : Bool) → ((k : Kind) → kind_number k ≡ n → ⊥) → (eqb n 0 || ltb 7 n || b) ≡ true
    go zero b none = refl
    go (suc zero) b none = absurd (none Place refl)
    go (suc (suc zero)) b none = absurd (none Transition refl)
    go (suc (suc (suc zero))) b none = absurd (none Arc refl)
    go (suc (suc (suc (suc zero)))) b none = absurd (none Condition refl)
    go (suc (suc (suc (suc (suc zero))))) b none = absurd (none Priority refl)
    go (suc (suc (suc (suc (suc (suc zero)))))) b none = absurd (none Action refl)
    go (suc (suc (suc (suc (suc (suc (suc zero))))))) b none = absurd (none Function refl)
    go (suc (suc (suc (suc (suc (suc (suc (suc n)))))))) b none =
        above (suc (suc (suc (suc (suc (suc (suc (suc n)))))))) b (λ z. absurd (omega (arith, z))) (omega arith)

-- What is refused with 2, and with 3.
is_2 : (x : Rec) (r : ℕ) → bad_kind (alone x) 0 ≡ true
    → (fault_of x ≡ 0 → ⊥) × (refusal_told (refusal.Kind r) ≡ meaning.refused (fault_of x) r)
is_2 x r e =
    let two = verdict x true _ e refl in
    (λ z. absurd (omega (arith, two, z)), ap (λ (n : ℕ). meaning.refused n r) two)

is_3 : (x : Rec) (r : ℕ) → bad_kind (alone x) 0 ≡ false → bad_field (alone x) 0 ≡ true
    → (fault_of x ≡ 0 → ⊥) × (refusal_told (refusal.Field r) ≡ meaning.refused (fault_of x) r)
is_3 x r e f =
    let three = verdict x false true e f in
    (λ z. absurd (omega (arith, three, z)), ap (λ (n : ℕ). meaning.refused n r) three)

-- A record of a kind whose sort is within the row is not refused with 2.
good : (x : Rec) (k : Kind) (h : ℕ) → kind_number k ≡ x.kind → h ≡ x.sort → h ≤ limit (x.kind - 1) 2
    → bad_kind (alone x) 0 ≡ false
good x k h counts half under =
    let there = numbered k x.kind counts in
    sym (sort_tested x x.kind refl there.0 there.1) ∙ le-ltb _ _ (rw half at under)

pub returns : goal.returns
returns c =
    let x = c.args.x in
    let no_2 =
    good x c.in-Ok.kind c.from-2.result c.in-Ok.ensures c.from-2.ensures
    (rw (c.requires, c.from.ensures) at c.if-row-from.false) in (
      sym (verdict _ false false no_2
          (fields_tested x x.kind refl _ (rw c.in-Ok.ensures at c.bad_value.ensures) _
          (rw (c.requires, c.from.ensures) at c.over.ensures)
          ∙ or_false c.if-over.false c.if-bad_value.false)),
      c.in-Ok.ensures,
    )

pub returns-in_default : goal.returns-in_default
returns-in_default c = is_2 c.args.x c.args.r (no_kind c.args.x c.in_default.ensures)

pub returns-then-row-from : goal.returns-then-row-from
returns-then-row-from c =
    let x = c.args.x in
    let there = numbered c.in-Ok.kind x.kind c.in-Ok.ensures in
    is_2 x c.args.r
    (sym (sort_tested x x.kind refl there.0 there.1)
    ∙ lt-ltb _ _ (rw (c.from-2.ensures, c.requires, c.from.ensures) at c.if-row-from.true))

-- Past it there is no 2, and the two tests of the columns are that of 3.
pub returns-then-over : goal.returns-then-over
returns-then-over c =
    let x = c.args.x in
    let no_2 =
    good x c.in-Ok.kind c.from-2.result c.in-Ok.ensures c.from-2.ensures
    (rw (c.requires, c.from.ensures) at c.if-row-from.false) in
    is_3 x c.args.r no_2
    (fields_tested x x.kind refl _ refl _ (rw (c.requires, c.from.ensures) at c.over.ensures)
    ∙ or_true_left _ c.if-over.true)

pub returns-then-bad_value : goal.returns-then-bad_value
returns-then-bad_value c =
    let x = c.args.x in
    let no_2 =
    good x c.in-Ok.kind c.from-2.result c.in-Ok.ensures c.from-2.ensures
    (rw (c.requires, c.from.ensures) at c.if-row-from.false) in
    is_3 x c.args.r no_2
    (fields_tested x x.kind refl _ (rw c.in-Ok.ensures at c.bad_value.ensures) _
    (rw (c.requires, c.from.ensures) at c.over.ensures)
    ∙ or_true_right c.over.result c.if-bad_value.true)
