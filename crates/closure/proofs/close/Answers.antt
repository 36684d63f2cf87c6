-- `close` gives one transition after the other all to whom a chain leads.
use native.Mathlib.Omega.{arith}
use Rattle.closure.proofs.Part.{one_more, part_low, closing}
use Rattle.closure.proofs.close.Goals as goal

pub reached-requires : goal.reached-requires
reached-requires c =
    let part = c.loop-t.invariant in
    record { m = c.args.m; inside = omega arith; low = part_low part c.requires (omega arith) }

pub loop-t-preserved : goal.loop-t-preserved
loop-t-preserved c = one_more c.loop-t.invariant c.reached.result (omega arith) c.reached.ensures

pub returns : goal.returns
returns c = closing c.loop-t.invariant c.requires (omega arith)
