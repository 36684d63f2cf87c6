use mathlib.Core.Bool.{true}
use mathlib.Core.Path.{◌≡◌}
use Prim.Native.Nat.{ℕ}
use Rattle.meaning.specs.Bytes.{bit}
use Rattle.meaning.specs.Image.{image_bytes}
use Rattle.state.specs.Holds.{held}
use Rattle.state.proofs.Orders.{but}
use Rattle.state.proofs.save.Given as goal

abbrev pub invariant-loop-t : goal.invariant-loop-t
invariant-loop-t l =
    (l.image ≡ image_bytes (but (held l.state.tokens l.state.counters l.state.orders) l.t-iterator.left))
    × ((t : ℕ) → bit l.t-iterator.left t ≡ true → bit l.state.orders t ≡ true)
