-- The loop keeps what each set has or is still to gain: all of `what`, where it is set k of a transition in the rest
-- of `to`.
use mathlib.Core.Bool.{or-false, and-false}
use mathlib.Core.Path.{sym, ◌∙◌}
use Rattle.sets.proofs.Bits.{bit_zero}
use Rattle.arcs.proofs.put.Goals as goal

pub returns : goal.returns
returns c =
    let at = c.loop-t.invariant in
    record {
      size = at.0;
      holds =
          λ t k j h. sym (rw (c.in-None.ensures.steps.0, bit_zero t, and-false) (or-false _)) ∙ at.1 t k j h;
    }
