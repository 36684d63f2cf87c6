-- Chains of written pairs: how they begin and where they end; a set that has the row of each of its members has all to
-- whom a chain leads from one of them.
use mathlib.Core.Bool.{true}
use mathlib.Core.List.{List}
use mathlib.Core.Path.{◌≡◌}
use Prim.Native.Nat.{ℕ, ◌<◌}
use Rattle.meaning.specs.Bytes.{bit}
use Rattle.rows.specs.Rows.{below}
use Rattle.closure.specs.Closure.{Chain, pair, chain, LowPairs}

-- A chain begins at a written pair, and it ends below m.
pub begins : {rows : List ℕ} {u t : ℕ} → Chain rows u t → (v : ℕ) × (v < 64) × (bit (below rows u) v ≡ true)
begins (pair {u} {t} h i e) = (t, i, e)
begins (chain a b) = begins a

pub ends_low : {m : ℕ} {rows : List ℕ} → LowPairs m rows → {u t : ℕ} → Chain rows u t → t < m
ends_low low (pair {u} {t} h i e) = low.lower u t h i e
ends_low low (chain a b) = ends_low low b

-- Where each written pair is a chain of other rows, so is each chain.
pub rechained : {rows rows' : List ℕ}
    → ((u t : ℕ) → u < 64 → t < 64 → bit (below rows u) t ≡ true → Chain rows' u t) → {u t : ℕ} → Chain rows u t
    → Chain rows' u t
rechained f (pair {u} {t} h i e) = f u t h i e
rechained f (chain a b) = chain (rechained f a) (rechained f b)

-- Set s has all that is below u.
abbrev pub HasRow : List ℕ → ℕ → ℕ → Type 0
HasRow rows s u = (j : ℕ) → j < 64 → bit (below rows u) j ≡ true → bit s j ≡ true

-- Set s has the row of each of its members.
module _ {rows : List ℕ} (s : ℕ) (each : (k : ℕ) → k < 64 → bit s k ≡ true → HasRow rows s k) where
  from_member : {u t : ℕ} → Chain rows u t → bit s u ≡ true → bit s t ≡ true
  from_member (pair {u} {t} h i e) m = each u h m t i e
  from_member (chain a b) m = from_member b (from_member a m)

  -- A set that has the row of u too has all to whom a chain leads from u.
  pub has_chained : {u t : ℕ} → HasRow rows s u → Chain rows u t → bit s t ≡ true
  has_chained own (pair {u} {t} h i e) = own t i e
  has_chained own (chain a b) = from_member b (has_chained own a)
