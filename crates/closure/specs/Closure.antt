-- The closed rows are the transitive closure of the written ones.
use Rattle.std.specs.Prelude.{true, false, List, ◌↔◌, ◌≡◌, ℕ, ◌*◌, ◌≤◌, ◌<◌, length}
use Rattle.meaning.specs.Bytes.{bit}
use Rattle.rows.specs.Rows.{row, below}

-- Transition u stands above t by a chain of written pairs, all of them transitions below 64.
pub data Chain (rows : List ℕ) : ℕ → ℕ → Type 0 where
  pair : {u t : ℕ} → u < 64 → t < 64 → bit (below rows u) t ≡ true → Chain rows u t
  chain : {u v t : ℕ} → Chain rows u v → Chain rows v t → Chain rows u t

-- There is a row for each transition below m, and from m on none stands above or below another.
pub record LowPairs (m : ℕ) (rows : List ℕ) : Type 0 where
  pub few : m ≤ 64
  pub there : 8 * m ≤ length rows
  pub none : (u t : ℕ) → m ≤ u → u < 64 → t < 64 → bit (below rows u) t ≡ false
  pub lower : (u t : ℕ) → u < 64 → t < 64 → bit (below rows u) t ≡ true → t < m

-- Transition t is below such a number m.
pub record ReachAsks (t : ℕ) (rows : List ℕ) : Type 0 where
  pub m : ℕ
  pub inside : t < m
  pub low : LowPairs m rows

-- The set r has exactly those to whom a chain of written pairs leads from t.
abbrev pub Reached : List ℕ → ℕ → ℕ → Type 0
Reached rows t r = (j : ℕ) → j < 64 → (bit r j ≡ true) ↔ Chain rows t j

-- The other rows of every number are as they were.
abbrev pub OthersSame : List ℕ → List ℕ → Type 0
OthersSame rows rows' = (c i : ℕ) → c < 7 → row rows' c i ≡ row rows c i

-- Below each transition are those to whom a chain of written pairs leads.
pub record Closes (rows rows' : List ℕ) : Type 0 where
  pub size : length rows' ≡ length rows
  pub others : OthersSame rows rows'
  pub closed : (u t : ℕ) → u < 64 → t < 64 → (bit (below rows' u) t ≡ true) ↔ Chain rows u t
