use lib.Bits.{bit_and}
use Rattle.edge.specs.Edges.{wanted_in}
use Rattle.edge.proofs.Asking.{Sifted}
use Rattle.edge.proofs.firable.Given as goal

abbrev pub invariant-loop-t : goal.invariant-loop-t
invariant-loop-t l =
    Sifted (wanted_in l.net.rows.now l.word) l.net.conditional l.initial.able
    (bit_and l.initial.able l.net.conditional) l.able l.t-iterator.left
