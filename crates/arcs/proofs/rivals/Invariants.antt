use Rattle.rows.specs.Rows.{below}
use Rattle.arcs.proofs.Gaining.{Gains, GivenTo}
use Rattle.arcs.proofs.rivals.Given as goal

abbrev pub invariant-loop-t : goal.invariant-loop-t
invariant-loop-t l = Gains l.u (below l.rows l.u) l.initial.arcs l.initial.lower l.t-iterator.left l.arcs l.lower

abbrev pub invariant-loop-u : goal.invariant-loop-u
invariant-loop-u l = GivenTo l.rows l.initial.arcs l.u l.arcs l.lower
