-- The loop keeps that what is put and what the rest of the chain puts is what was put and what the whole chain puts.
use native.Mathlib.Omega.{arith}
use Rattle.marking.proofs.Giving.{begins, one_arc}
use Rattle.marking.proofs.give.Goals as goal

pub loop-k-init : goal.loop-k-init
loop-k-init c = begins c.requires c.from-link.ensures

pub loop-k-preserved : goal.loop-k-preserved
loop-k-preserved c =
    one_arc c.loop-k.invariant (omega arith) c.in-Some.ensures c.from-p.ensures c.from.ensures
    c.from-link-in-Some.ensures
