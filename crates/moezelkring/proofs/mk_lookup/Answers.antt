-- `mk_lookup` meets its contract: the part is empty, or that of a cycle that the report holds whole.
use Rattle.std.proofs.Common.{length, arith, sym, ap, ◌∙◌}
use Rattle.moezelkring.proofs.Parts.{part_none, in_report, part_some}
use Rattle.moezelkring.proofs.mk_lookup.Goals as goal

pub returns-then-part-eq0 : goal.returns-then-part-eq0
returns-then-part-eq0 c = part_none _ _ (ap length (sym c.lookup-part.ensures.part_is) ∙ c.if-part-eq0.true)

pub overflow_sub-result : goal.overflow_sub-result
overflow_sub-result c =
    (in_report c.args.report.now c.args.cycle
    (λ z. c.if-part-eq0.false (ap length c.lookup-part.ensures.part_is ∙ z))).0

pub overflow_mul-result : goal.overflow_mul-result
overflow_mul-result c =
    let held = in_report c.args.report.now c.args.cycle
    (λ z. c.if-part-eq0.false (ap length c.lookup-part.ensures.part_is ∙ z)) in
    omega (arith, held.1)

pub returns : goal.returns
returns c =
    let part = c.lookup-part.ensures.part_is in
    rw part (part_some _ _ (λ z. c.if-part-eq0.false (ap length part ∙ z)))
