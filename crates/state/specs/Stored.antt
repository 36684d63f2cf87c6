-- What storing one record of an image does, and what storing first tokens does.
use Rattle.std.specs.Prelude.{List, [], ◌∷◌, ◌++◌, ◌≢◌, ◌≡◌, ℕ, ◌+◌, ◌*◌, ◌/◌, ◌%◌, ◌<◌, length, get_or, set}
use Rattle.meaning.specs.Bytes.{bytes}
use Rattle.meaning.specs.Table.{Table}

-- Record k begins with the number x and has 0 behind it, and the others are as they were.
pub record Stored (bs : List ℕ) (k x : ℕ) (next : List ℕ) : Type 0 where
  pub long : length next ≡ 768
  pub here : (j : ℕ) → j < 4 → get_or next (4 * k + j) 0 ≡ get_or (bytes 2 x ++ 0 ∷ 0 ∷ []) j 0
  pub others : (n j : ℕ) → n ≢ k → j < 4 → get_or next (4 * n + j) 0 ≡ get_or bs (4 * n + j) 0

-- The two bytes of the first tokens of the place that record r declares are put into an image.
abbrev pub tokens_put : Table → ℕ → List ℕ → List ℕ
tokens_put tb r bs = set (set bs (4 * tb.one r) (tb.four r % 256)) (4 * tb.one r + 1) (tb.four r / 256)
