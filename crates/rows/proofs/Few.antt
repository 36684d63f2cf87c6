-- Of the numbers below n at most 64 are transitions, and a transition that is not among them is at n or past it.
use mathlib.Core.Bool.{Bool, true, false, cond}
use mathlib.Core.Path.{◌≡◌, refl}
use Prim.Native.Nat.{ℕ, ◌≤◌, ◌<◌}
use native.Mathlib.Omega.{arith}
use lib.Dec.{ltb}
use borrow.Author.Tests.{ltb-true, ltb-false}
use Rattle.rows.specs.Rows.{transitions_below}

-- There are at most 64 transitions, and no more than there are numbers.
pub transitions_le : (n : ℕ) → (transitions_below n ≤ 64) × (transitions_below n ≤ n)
transitions_le n = go (ltb n 64) refl
  where
    go : (b : Bool) → ltb n 64 ≡ b → (cond b n 64 ≤ 64) × (cond b n 64 ≤ n)
    go true e = (omega (arith, ltb-true n 64 e), omega arith)
    go false e = (omega arith, omega (arith, ltb-false n 64 e))

-- A transition that is not among those below n is at n or past it.
pub past : (n t : ℕ) → transitions_below n ≤ t → t < 64 → n ≤ t
past n t l h = go (ltb n 64) l
  where
    go : (b : Bool) → cond b n 64 ≤ t → n ≤ t
    go true k = k
    go false k = absurd (omega (arith, k, h))
