use mathlib.Core.Path.{◌≡◌}
use Prim.Native.Nat.{ℕ, ◌+◌, ◌*◌, ◌≤◌}
use lib.ListN.{get_or}
use Rattle.sets.proofs.Taking.{over}
use Rattle.firing.proofs.at_place.Given as goal

-- How many a set has.
abbrev pub count : ℕ → ℕ
count s = over s (λ t. 1)

abbrev pub invariant-loop-t : goal.invariant-loop-t
invariant-loop-t l =
    (l.taken + over l.t-iterator.left (λ k. get_or l.row k 0) ≡ over l.set (λ k. get_or l.row k 0))
    × (l.taken + 65535 * count l.t-iterator.left ≤ 65535 * 64)
