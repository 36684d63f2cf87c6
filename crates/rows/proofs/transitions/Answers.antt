-- The smaller of two numbers, by its test.
use mathlib.Core.Bool.{Bool, true, false}
use mathlib.Core.Path.{◌≡◌, refl, ◌∙◌}
use Prim.Native.Nat.{ℕ, min}
use native.Mathlib.Omega.{arith}
use lib.Dec.{ltb}
use borrow.Author.Tests.{ltb-true, ltb-false}
use Rattle.rows.specs.Rows.{transitions_below}
use Rattle.rows.proofs.transitions.Goals as goal

smaller : (n : ℕ) → min n 64 ≡ transitions_below n
smaller n = go (ltb n 64) refl
  where
    go : (x : Bool) → ltb n 64 ≡ x → min n 64 ≡ transitions_below n
    go true e = rw e (omega (arith, ltb-true n 64 e))
    go false e = rw e (omega (arith, ltb-false n 64 e))

pub returns : goal.returns
returns c = c.min.ensures ∙ smaller c.args.n
