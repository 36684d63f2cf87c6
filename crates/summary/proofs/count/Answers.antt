-- Each way out is one of the four cases of what count leaves.
use mathlib.Core.Path.{sym, ◌∙◌}
use Prim.Native.Nat.{◌/◌}
use native.Mathlib.Omega.{arith}
use lib.ListN.{length}
use Rattle.meaning.specs.Table.{table}
use Rattle.summary.proofs.Refusals.{right_length}
use Rattle.summary.proofs.Counting.{first_strange_same}
use Rattle.summary.proofs.Outcomes.{handed, accepts, count_refused, count_length, count_stranger, count_all}
use Rattle.summary.proofs.count.Goals as goal

pub returns-in_err-check : goal.returns-in_err-check
returns-in_err-check c = rw (handed _ _ c.from_residual.ensures) (count_refused _ _ _ c.in_err-check.ensures)

pub returns-then-is_bad : goal.returns-then-is_bad
returns-then-is_bad c = count_length _ _ (accepts _ c.in_ok-check.ensures) (sym c.is_bad.ensures ∙ c.if-is_bad.true)

pub returns-in-Some : goal.returns-in-Some
returns-in-Some c =
    let (low, found) = c.in-Some.ensures in
    count_stranger _ _ (accepts _ c.in_ok-check.ensures) (sym c.is_bad.ensures ∙ c.if-is_bad.false) _ low
    (sym (first_strange_same _ _ _ _ c.undeclared.ensures) ∙ found)

pub summarize-requires : goal.summarize-requires
summarize-requires c = (right_length _ (sym c.is_bad.ensures ∙ c.if-is_bad.false)).1

pub returns : goal.returns
returns c =
    let report = c.args.report.now in
    let same =
    first_strange_same (table c.args.t.now) c.undeclared.result report (length report / 24) c.undeclared.ensures in
    let left =
    count_all _ _ (accepts _ c.in_ok-check.ensures) (sym c.is_bad.ensures ∙ c.if-is_bad.false)
    (omega (arith, same, c.in_default.ensures)) in
    record { answer_is = left.answer_is; counts_are = c.summarize.ensures ∙ left.counts_are }
