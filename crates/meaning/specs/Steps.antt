-- Document 01, run, as a relation: so many cycles of the definition are taken, and what they leave. Cycles done
-- is the number of these steps.
use Rattle.std.specs.Prelude.{List, [], ◌∷◌, ◌++◌, ℕ, suc, ◌≤◌, ◌<◌}
use Rattle.meaning.specs.Table.{Table, ceiling}
use Rattle.meaning.specs.Image.{image_bytes}
use Rattle.meaning.specs.Cycle.{cycle}

-- The cycle is not refused: every place ends it within its ceiling.
abbrev pub Stays : Table → List ℕ → ℕ → Type 0
Stays tb img word = (p : ℕ) → p < 128 → (cycle tb img word).after.tokens p ≤ ceiling tb p

-- The cycle is refused with 13 at place p: it would end above its ceiling, and no lower place would.
abbrev pub Bursts : Table → List ℕ → ℕ → ℕ → Type 0
Bursts tb img word p =
    (p < 128) × (ceiling tb p < (cycle tb img word).after.tokens p)
    × ((q : ℕ) → q < p → (cycle tb img word).after.tokens q ≤ ceiling tb q)

-- `Steps tb words img n left img' bytes`: n cycles are finished, with the words in front; these words are left,
-- this is the image then, and these are the bytes of the finished cycles' records.
pub data Steps (tb : Table) : List ℕ → List ℕ → ℕ → List ℕ → List ℕ → List ℕ → Type 0 where
  none : {ws img : List ℕ} → Steps tb ws img 0 ws img []
  more : {w n : ℕ} {ws img left img' bytes : List ℕ} → Stays tb img w
      → Steps tb ws (image_bytes (cycle tb img w).after) n left img' bytes
      → Steps tb (w ∷ ws) img (suc n) left img' ((cycle tb img w).written ++ bytes)

-- After n finished cycles the image is this one.
abbrev pub Reaches : Table → List ℕ → List ℕ → ℕ → List ℕ → Type 0
Reaches tb ws img n img' = (left : List ℕ) × (bytes : List ℕ) × Steps tb ws img n left img' bytes
