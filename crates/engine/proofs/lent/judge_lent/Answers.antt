-- Each way out is the first check that finds something, behind those that found nothing.
use mathlib.Core.Path.{sym}
use native.Mathlib.Omega.{arith}
use Rattle.engine.proofs.Beside.{lent_long, lent_wrong, lent_odd, lent_many, lent_short, lent_fine}
use Rattle.engine.proofs.lent.judge_lent.Goals as goal

pub returns-then-image-ne768 : goal.returns-then-image-ne768
returns-then-image-ne768 c = sym (lent_long _ _ _ _ _ c.if-image-ne768.true)

pub returns-in-Some : goal.returns-in-Some
returns-in-Some c = sym (lent_wrong _ _ _ _ _ c.if-image-ne768.false c.in-Some.ensures)

pub returns-then-words-ne0 : goal.returns-then-words-ne0
returns-then-words-ne0 c = sym (lent_odd _ _ _ _ _ c.if-image-ne768.false c.in_default.ensures c.if-words-ne0.true)

pub returns-then-words-gt4096 : goal.returns-then-words-gt4096
returns-then-words-gt4096 c =
    sym (lent_many _ _ _ _ _ c.if-image-ne768.false c.in_default.ensures (omega (arith, c.if-words-gt4096.true)))

pub returns-then-report-words : goal.returns-then-report-words
returns-then-report-words c =
    sym (lent_short _ _ _ _ _ c.if-image-ne768.false c.in_default.ensures c.if-words-ne0.false
    (omega (arith, c.if-words-gt4096.false)) c.if-report-words.true)

pub returns : goal.returns
returns c =
    sym (lent_fine _ _ _ _ _ c.if-image-ne768.false c.in_default.ensures c.if-words-ne0.false
    (omega (arith, c.if-words-gt4096.false)) c.if-report-words.false)
