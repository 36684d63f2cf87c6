-- The loop keeps that the places passed are on their level with their new tokens, and that it is told whom they starve.
use Prim.Native.Nat.{◌<◌}
use native.Mathlib.Omega.{arith}
use Rattle.std.proofs.lemmas.Bool.Decides.{nat_tests}
use Rattle.marking.proofs.Tending.{one_stays, one_relevelled, unmarked}
use Rattle.marking.proofs.tend.Goals as goal
use Rattle.marking.proofs.tend.Goals.{then-kept-p-ne0+then-outside, then-kept-p-ne0+else-outside}
use Rattle.marking.proofs.tend.Goals.{else-kept-p-ne0}

-- The turn leaves the place tended, and the set has also whom the rest of a marked place starves, where it came below
-- the level.
pub loop-p-preserved : goal.loop-p-preserved
loop-p-preserved c =
    let place : c.loop-p.p < 128 = omega arith in
    let inv = c.loop-p.invariant in
    let level = (inv.others c.loop-p.p (omega arith) place).0 in
    elim c.if-kept-p-ne0.branch [
      | then-kept-p-ne0+then-outside w ↦
          rw (w.kept-is, w.starved-is)
          (one_relevelled place inv w.relevel.ensures (λ t. grind (arith, nat_tests, level)))
      | then-kept-p-ne0+else-outside w ↦
          rw (w.kept-is, w.starved-is)
          (one_stays place inv (grind (arith, nat_tests), grind (arith, nat_tests))
          (λ t. grind (arith, nat_tests, level)))
      | else-kept-p-ne0 w ↦
          rw (w.kept-is, w.starved-is)
          (unmarked place inv (c.requires.marked _ c.loop-p-test.true) w.if-kept-p-ne0.false)
    ]
