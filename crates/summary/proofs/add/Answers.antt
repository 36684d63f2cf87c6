-- Each way out is one of the two cases of what add leaves.
use mathlib.Core.Bool.{not, ◌||◌}
use mathlib.Core.Path.{◌≡◌, sym, ap, ◌∙◌}
use Prim.Native.Nat.{ℕ, ◌<◌}
use native.Mathlib.Omega.{arith}
use lib.Dec.{ltb}
use borrow.Author.Tests.{lt-ltb, le-ltb, ltb-false}
use Rattle.std.specs.Prelude.{Option}
use Rattle.std.specs.declared.option.Option.TheVariants.{Some, None}
use Rattle.std.specs.Option.{SomeIff, is_some}
use Rattle.meaning.proofs.Bool.{or_true_left, or_true_right, or_false}
use Rattle.summary.specs.Day.{too_often}
use Rattle.summary.proofs.Adding.{fair_if, sums_low}
use Rattle.summary.proofs.Outcomes.{add_refused, add_passed}
use Rattle.summary.proofs.add.Goals as goal
use Rattle.summary.proofs.add.Goals.{then-fires_too_often-via-then-fires_too_often}
use Rattle.summary.proofs.add.Goals.{then-fires_too_often-via-else-fires_too_often+then-fires_too_often-2}
use Rattle.summary.proofs.add.Goals.{then-fires_too_often-via-else-fires_too_often+else-fires_too_often-2+then-is_none}

-- The cycles together have a place or pass the most.
passes : (r : Option ℕ) (n : ℕ) → SomeIff r (n < 4294967296) n → ltb 4294967295 n ≡ not (is_some r)
passes (Some x) n h = le-ltb 4294967295 n (omega (arith, h.0))
passes None n h = lt-ltb 4294967295 n (omega (arith, h))

pub returns-then-fires_too_often : goal.returns-then-fires_too_often
returns-then-fires_too_often c =
    let one = c.args.one.now in
    let other = c.args.other.now in
    add_refused one other
    (elim c.then-fires_too_often.branch [
      | then-fires_too_often-via-then-fires_too_often w ↦
          or_true_left _ (or_true_left _ (sym c.fires_too_often.ensures ∙ w.if-fires_too_often.true))
      | then-fires_too_often-via-else-fires_too_often+then-fires_too_often-2 w ↦
          or_true_left _
          (or_true_right (too_often one)
          (sym w.fires_too_often-else-fires_too_often.ensures ∙ w.if-fires_too_often-2.true))
      | then-fires_too_often-via-else-fires_too_often+else-fires_too_often-2+then-is_none w ↦
          or_true_right (too_often one || too_often other)
          (passes _ _ w.checked_add.ensures ∙ ap not w.if-is_none.ensures)
    ])

pub sum-requires : goal.sum-requires
sum-requires c =
    let a = c.args in
    let few = passes _ _ c.checked_add.ensures ∙ ap not c.if-is_none.ensures in
    sums_low a.one.now a.other.now (fair_if _ (sym c.if-fires_too_often.ensures))
    (fair_if _ (sym c.if-fires_too_often-2.ensures)) (ltb-false _ _ few)

pub returns : goal.returns
returns c =
    let few = passes _ _ c.checked_add.ensures ∙ ap not c.if-is_none.ensures in
    let fair = or_false (sym c.if-fires_too_often.ensures) (sym c.if-fires_too_often-2.ensures) in
    let left = add_passed _ _ (or_false fair few) in
    record { answer_is = left.answer_is; counts_are = c.sum.ensures ∙ left.counts_are }
