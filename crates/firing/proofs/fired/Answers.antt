-- `fired` meets its contract: who is decided after a round stays so, and with none left the set is the fired one.
use native.Mathlib.Omega.{arith}
use Rattle.firing.proofs.Rounds.{at_start, fewer, one_more}
use Rattle.firing.proofs.fired.Goals as goal

pub loop-round-init : goal.loop-round-init
loop-round-init c = at_start _ _ _ _ _ _ _ c.requires.1 c.less.result (omega arith) c.less.ensures

pub loop-round-preserved : goal.loop-round-preserved
loop-round-preserved c = one_more c.loop-round.invariant c.one_round-round.ensures (omega arith) (omega arith)

pub loop-round-smaller : goal.loop-round-smaller
loop-round-smaller c =
    fewer c.loop-round.invariant c.one_round-round.ensures (omega arith) (omega arith) c.loop-round-test.true
