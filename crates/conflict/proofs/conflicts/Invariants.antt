use mathlib.Core.Bool.{◌&&◌}
use mathlib.Core.Path.{◌≡◌}
use Prim.Native.Nat.{ℕ, ◌<◌}
use lib.Dec.{ltb}
use lib.ListN.{length, get_or}
use Rattle.meaning.specs.Below.{some}
use Rattle.meaning.specs.Bytes.{bit}
use Rattle.rows.specs.Rows.{takers}
use Rattle.conflict.proofs.conflicts.Given as goal

abbrev pub invariant-loop-p : goal.invariant-loop-p
invariant-loop-p l =
    (length l.pairs ≡ 64)
    × ((i j : ℕ) → i < 64 → j < 64
    → bit (get_or l.pairs i 0) j ≡ (ltb i j && some l.p (λ p. bit (takers l.rows p) i && bit (takers l.rows p) j)))
