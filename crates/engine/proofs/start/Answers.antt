-- `engine::start` meets its contract: each way out is one of the three cases of what start leaves.
use mathlib.Core.Path.{sym, ap, ◌∙◌}
use Rattle.std.proofs.lemmas.Result.{err_from_is_err_and}
use Rattle.meaning.specs.Answer.{Answer}
use Rattle.engine.proofs.Starts.{not_0, started_refused, started_short, started}
use Rattle.engine.proofs.start.Goals as goal

pub returns-in_err-check : goal.returns-in_err-check
returns-in_err-check c =
    let gone = err_from_is_err_and c.from_residual.result c.from_residual.ensures.1 in
    let answer = c.in_err-check.ensures.answer_is in
    let left =
    started_refused _ _ (λ z. not_0 c.in_err-check.field-0.0 (ap (λ (a : Answer). a.number) answer ∙ z)) in
    rw (gone.1, gone.2) (record { answer_is = answer ∙ sym left.0; image_is = sym left.1 })

pub returns-then-image-ne768 : goal.returns-then-image-ne768
returns-then-image-ne768 c =
    let ok = ap (λ (a : Answer). a.number) (sym c.in_ok-check.ensures.answer_is) in
    let left = started_short _ _ ok c.if-image-ne768.true in
    record { answer_is = sym left.0; image_is = sym left.1 }

pub returns : goal.returns
returns c =
    let ok = ap (λ (a : Answer). a.number) (sym c.in_ok-check.ensures.answer_is) in
    let left = started _ _ ok c.if-image-ne768.false in
    record { answer_is = sym left.0; image_is = c.fresh.ensures ∙ sym left.1 }
