use mathlib.Core.Path.{◌≡◌}
use Prim.Native.Nat.{ℕ, ◌<◌}
use lib.ListN.{length}
use Rattle.summary.specs.Day.{times_of, times}
use Rattle.summary.proofs.summarize.Given as goal

abbrev pub invariant-loop-r : goal.invariant-loop-r
invariant-loop-r l =
    (length l.counts ≡ 65) × ((k : ℕ) → k < 64 → times_of l.counts k ≡ times l.report l.r k)
