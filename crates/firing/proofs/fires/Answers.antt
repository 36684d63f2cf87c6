-- Where a place of the low word stops t, it is not left enabled.
use Rattle.firing.specs.Fired.{left_enabled}
use Rattle.firing.proofs.fires.Goals as goal

pub returns-then-stopped_in : goal.returns-then-stopped_in
unfolding left_enabled
returns-then-stopped_in c = rw (← c.stopped_in.ensures, c.if-stopped_in.true)
