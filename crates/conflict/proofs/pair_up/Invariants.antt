use mathlib.Core.Path.{◌≡◌}
use Prim.Native.Nat.{ℕ}
use lib.ListN.{length}
use Rattle.conflict.proofs.Takers.{due}
use Rattle.conflict.proofs.pair_up.Given as goal

abbrev pub invariant-loop-i : goal.invariant-loop-i
invariant-loop-i l =
    (length l.pairs ≡ 64) × ((i j : ℕ) → due l.pairs l.others.left i j ≡ due l.initial.pairs l.takers i j)

abbrev pub decreases-loop-i : goal.decreases-loop-i
decreases-loop-i l = l.others.left
