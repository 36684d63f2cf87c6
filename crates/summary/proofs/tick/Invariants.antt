use mathlib.Core.Bool.{cond}
use mathlib.Core.Path.{◌≡◌}
use Prim.Native.Nat.{ℕ, ◌+◌}
use lib.ListN.{length}
use Rattle.meaning.specs.Bytes.{bit}
use Rattle.summary.specs.Day.{times_of}
use Rattle.summary.proofs.tick.Given as goal

abbrev pub invariant-loop-t : goal.invariant-loop-t
invariant-loop-t l =
    (length l.counts ≡ 65)
    × ((k : ℕ) → times_of l.counts k + cond (bit l.t-iterator.left k) 1 0
    ≡ times_of l.initial.counts k + cond (bit l.fired k) 1 0)
