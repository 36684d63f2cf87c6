-- On a level every arc is reached or missed as it is with the tokens at hand, so the same are held back and the same
-- lack tokens.
use mathlib.Core.Bool.{Bool, true, false}
use mathlib.Core.Path.{◌≡◌, refl, sym}
use Prim.Native.Nat.{ℕ, ◌≤◌, ◌<◌}
use native.Mathlib.Omega.{arith}
use lib.Dec.{ltb}
use borrow.Author.Tests.{ltb-true, ltb-false, lt-ltb, le-ltb}
use Rattle.rows.specs.Rows.{stops}
use Rattle.rows.proofs.Arcs.{at_most}
use Rattle.levels.specs.Levels.{lacks}

-- A level from one number to the other does not pass the weight: it begins at a weight that the tokens reach, and ends
-- below one that they miss.
pub record KeepsSide (tokens weight from upto : ℕ) : Type 0 where
  pub reached : weight ≤ tokens → weight ≤ from
  pub missed : tokens < weight → upto < weight

module _ {tokens weight from upto : ℕ} (side : KeepsSide tokens weight from upto) (k : ℕ) (low : from ≤ k)
    (high : k ≤ upto) where
  same_side : ltb tokens weight ≡ ltb k weight
  same_side = go (ltb tokens weight) refl
    where
      go : (b : Bool) → ltb tokens weight ≡ b → b ≡ ltb k weight
      go true q = sym (lt-ltb k weight (omega (arith, side.missed (ltb-true tokens weight q))))
      go false q = sym (le-ltb k weight (omega (arith, side.reached (ltb-false tokens weight q))))

  pub same_stops : (sort : ℕ) → stops weight sort tokens ≡ stops weight sort k
  same_stops sort = rw (at_most weight tokens, at_most weight k, same_side)

  pub same_lacks : (sort : ℕ) → lacks weight sort tokens ≡ lacks weight sort k
  same_lacks sort = rw same_side
