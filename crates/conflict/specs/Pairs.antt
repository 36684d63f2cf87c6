-- The pairs in conflict, read off who takes from each place.
use Rattle.std.specs.Prelude.{false, ◌&&◌, ◌||◌, List, ◌≡◌, ℕ, ◌*◌, ◌≤◌, ◌<◌, ltb, length, get_or}
use Rattle.meaning.specs.Below.{some}
use Rattle.meaning.specs.Bytes.{bit}
use Rattle.rows.specs.Rows.{takers}

-- Each two of these takers are a pair beside those that were, the later in the row of the earlier.
pub record PairedUp (pairs : List ℕ) (takers : ℕ) (pairs' : List ℕ) : Type 0 where
  pub size : length pairs' ≡ 64
  pub holds : (i j : ℕ) → i < 64 → j < 64
      → bit (get_or pairs' i 0) j ≡ (bit (get_or pairs i 0) j || (ltb i j && (bit takers i && bit takers j)))

-- There are rows for the first n places, and from n on nobody takes.
pub record TakerlessFrom (n : ℕ) (rows : List ℕ) : Type 0 where
  pub few : n ≤ 128
  pub there : 8 * n ≤ length rows
  pub no_taker : (p t : ℕ) → n ≤ p → p < 128 → t < 64 → bit (takers rows p) t ≡ false

-- Transitions i < j are a pair where both take from one place.
pub record Conflicts (rows pairs : List ℕ) : Type 0 where
  pub size : length pairs ≡ 64
  pub holds : (i j : ℕ) → i < 64 → j < 64
      → bit (get_or pairs i 0) j ≡ (ltb i j && some 128 (λ p. bit (takers rows p) i && bit (takers rows p) j))
