use Rattle.edge.specs.Edges.{next_count}
use Rattle.edge.proofs.Falling.{timely, Walked}
use Rattle.edge.proofs.fall.Given as goal

abbrev pub invariant-loop-t : goal.invariant-loop-t
invariant-loop-t l =
    Walked (next_count l.orders l.on l.net.times.now) (timely l.on l.net.times.now) l.net.timed l.initial.counters
    l.t-iterator.left l.counters l.ready
