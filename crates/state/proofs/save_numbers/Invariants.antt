use Prim.Native.Nat.{◌+◌}
use Rattle.meaning.specs.Image.{image_bytes}
use Rattle.state.specs.Holds.{held}
use Rattle.state.proofs.Write.{Upto}
use Rattle.state.proofs.save_numbers.Given as goal

abbrev pub invariant-loop-p : goal.invariant-loop-p
invariant-loop-p l = Upto (image_bytes (held l.state.tokens l.state.counters 0)) l.initial.image l.p l.image

abbrev pub invariant-loop-t : goal.invariant-loop-t
invariant-loop-t l = Upto (image_bytes (held l.state.tokens l.state.counters 0)) l.initial.image (128 + l.t) l.image
