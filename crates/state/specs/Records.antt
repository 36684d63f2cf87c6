-- A record of an image that is 0, bytes that are 0, and the first number in a range that passes a test.
use Rattle.std.specs.Prelude.{Bool, true, false, List, ◌≡◌, ℕ, ◌+◌, ◌≤◌, ◌<◌, get_or, Option, MatchOption}
use Rattle.meaning.specs.Image.{Image}

-- Record k is 0.
pub record Blank (img : Image) (k : ℕ) : Type 0 where
  pub number : img.number k ≡ 0
  pub third : img.third k ≡ 0
  pub fourth : img.fourth k ≡ 0

-- From place n on every record is 0, and of the transitions from n on.
pub record BlankPast (img : Image) (n : ℕ) : Type 0 where
  pub places : (p : ℕ) → n ≤ p → p < 128 → Blank img p
  pub transitions : (t : ℕ) → n ≤ t → t < 64 → Blank img (128 + t)

-- The bytes from one place up to another are 0.
abbrev pub Quiet : List ℕ → ℕ → ℕ → Type 0
Quiet bs from to = (i : ℕ) → from ≤ i → i < to → get_or bs i 0 ≡ 0

-- r is the first number from `from` on and below `to` that passes p, or `to` where none does.
pub record FirstFrom (p : ℕ → Bool) (from to r : ℕ) : Type 0 where
  pub within : r ≤ to
  pub before : (k : ℕ) → from ≤ k → k < r → p k ≡ false
  pub passes : r < to → p r ≡ true

-- It is said as an option: the first such number, or that there is none.
abbrev pub IsFirstFrom : (ℕ → Bool) → ℕ → ℕ → Option ℕ → Type 0
IsFirstFrom p from to r = MatchOption r (FirstFrom p from to to) (λ k. (k < to) × FirstFrom p from to k)
