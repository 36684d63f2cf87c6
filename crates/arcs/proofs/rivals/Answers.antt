-- The inner walk gives u to each transition below it that it meets; the outer goes over all u below n, and from n on
-- nobody is above another.
use mathlib.Core.Bool.{true, false}
use mathlib.Core.Path.{sym, ◌∙◌}
use native.Mathlib.Omega.{arith}
use Rattle.arcs.proofs.Gaining.{rival_put, none_put, one_gained, none_given, one_given, all_given}
use Rattle.arcs.proofs.rivals.Goals as goal

pub loop-u-init : goal.loop-u-init
loop-u-init c = none_given c.requires.0

pub loop-t-preserved-then-meets : goal.loop-t-preserved-then-meets
loop-t-preserved-then-meets c =
    let at = c.loop-t in
    let k = c.in-Some.ensures.steps in
    one_gained at.t-iterator.left c.in-Some.t c.next.new.self.left k.less k.member k.low at.invariant true
    (sym c.if-meets.true ∙ c.meets.ensures) _ _
    (rival_put _ _ at.arcs at.lower c.union.result c.union-lower.result at.invariant.size k.low
    (λ j. c.union.ensures j ∙ rw (c.single.ensures j))
    (λ j. c.union-lower.ensures j ∙ rw (c.single-then-meets.ensures j)))

pub loop-t-preserved : goal.loop-t-preserved
loop-t-preserved c =
    let at = c.loop-t in
    let k = c.in-Some.ensures.steps in
    one_gained at.t-iterator.left c.in-Some.t c.next.new.self.left k.less k.member k.low at.invariant false
    (sym c.if-meets.false ∙ c.meets.ensures) _ _ (none_put _ _ at.arcs at.lower at.invariant.size)

pub loop-u-preserved : goal.loop-u-preserved
loop-u-preserved c =
    one_given c.requires.0 c.loop-u.invariant (omega (arith, c.requires.1.few)) c.loop-t.invariant
    c.in-None.ensures.steps.0

pub returns : goal.returns
returns c =
    all_given c.requires.0 c.requires.1 (omega arith) (omega (arith, c.requires.1.few)) c.loop-u.invariant
