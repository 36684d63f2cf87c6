use Rattle.firing.proofs.Rounds.{Settled}
use Rattle.firing.proofs.fired.Given as goal

abbrev pub invariant-loop-round : goal.invariant-loop-round
invariant-loop-round l =
    let net = l.net in
    Settled l.able l.tokens net.rows.now net.arcs.now net.weights.now net.sorts.now net.lower l.round.left l.round.out

abbrev pub decreases-loop-round : goal.decreases-loop-round
decreases-loop-round l = l.round.left
