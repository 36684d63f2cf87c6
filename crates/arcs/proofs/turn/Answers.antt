-- Each turn of the loop puts one place into the words of its transitions; past the first n no place is in an arc.
use native.Mathlib.Omega.{arith}
use Rattle.arcs.proofs.Turning.{none_turned, one_turned}
use Rattle.arcs.proofs.turn.Goals as goal

pub loop-p-preserved : goal.loop-p-preserved
loop-p-preserved c =
    one_turned c.loop-p.invariant (omega (arith, c.requires.arcless.few)) c.single-here.result c.single-here.ensures
    c.put.ensures c.put-in-loop-p.ensures

pub loop-p-init : goal.loop-p-init
loop-p-init c = none_turned _ _ c.requires.empty
