-- The parts of the step: the sweep over the places, the care for those that left their level, and the clearing up.
use Rattle.std.specs.Prelude.{Bool, cond, ◌&&◌, ◌||◌, List, ◌≡◌, ℕ, ◌+◌, ◌-◌, ◌*◌, ◌≤◌, ◌<◌, ltb, length, get_or}
use Rattle.meaning.specs.Below.{some}
use Rattle.meaning.specs.Bytes.{bit}
use Rattle.rows.specs.Rows.{inputs, cell}
use Rattle.levels.specs.declared.Kept.{Kept}
use Rattle.levels.specs.Levels.{lacks, SpansAt, OnLevel}

-- What the taking leaves at place p, and its new tokens, with those that are put.
abbrev pub rest_at : List ℕ → List ℕ → ℕ → ℕ
rest_at tokens taken p = get_or tokens p 0 - get_or taken p 0

abbrev pub new_at : List ℕ → List ℕ → List ℕ → ℕ → ℕ
new_at tokens taken put p = rest_at tokens taken p + get_or put p 0

-- With this rest and these new tokens place p leaves its level.
abbrev pub leaves : Kept → ℕ → ℕ → ℕ → Bool
leaves kept p rest new = ltb rest (get_or kept.from p 0) || ltb (get_or kept.upto p 0) new

-- All four numbers are below 2^31.
pub record LowFour (rest new from upto : ℕ) : Type 0 where
  pub rest_low : rest < 2147483648
  pub new_low : new < 2147483648
  pub from_low : from < 2147483648
  pub upto_low : upto < 2147483648

-- Each of the first n places has what is taken from it; all numbers are low.
pub record SweepAsks (n : ℕ) (tokens taken put : List ℕ) (kept : Kept) : Type 0 where
  pub few : n ≤ 128
  pub tokens_low : (p : ℕ) → p < n → get_or tokens p 0 ≤ 65535
  pub pays : (p : ℕ) → p < n → get_or taken p 0 ≤ get_or tokens p 0
  pub put_low : (p : ℕ) → p < n → get_or put p 0 ≤ 67107840
  pub from_low : (p : ℕ) → p < n → get_or kept.from p 0 < 2147483648
  pub upto_low : (p : ℕ) → p < n → get_or kept.upto p 0 < 2147483648

-- The first n places have their new tokens, and each is marked where it left its level; else all is as it was.
pub record Swept (n : ℕ) (tokens taken put : List ℕ) (kept : Kept) (tokens' : List ℕ) (kept' : Kept) (all : ℕ)
    : Type 0 where
  pub tokens_are : (p : ℕ) → get_or tokens' p 0 ≡ cond (ltb p n) (new_at tokens taken put p) (get_or tokens p 0)
  pub same_held : kept'.held ≡ kept.held
  pub same_active : kept'.active ≡ kept.active
  pub same_lacks : kept'.lacks ≡ kept.lacks
  pub same_from : kept'.from ≡ kept.from
  pub same_upto : kept'.upto ≡ kept.upto
  pub marked : (p : ℕ) → p < n
      → get_or kept'.left p 0 ≡ cond (leaves kept p (rest_at tokens taken p) (new_at tokens taken put p)) 1 0
  pub at_most : (p : ℕ) → p < n → new_at tokens taken put p ≤ all

-- Each of the first n places has its rows, and is marked exactly if it left its level; what is kept of each place
-- holds on its level.
pub record TendAsks (n : ℕ) (tokens put : List ℕ) (kept : Kept) (rows : List ℕ) (w s : List (List ℕ)) : Type 0 where
  pub few : n ≤ 128
  pub rows_there : 8 * n ≤ length rows
  pub weights_there : n ≤ length w
  pub sorts_there : n ≤ length s
  pub put_in : (p : ℕ) → p < n → get_or put p 0 ≤ get_or tokens p 0
  pub tokens_low : (p : ℕ) → p < n → get_or tokens p 0 < 2147483647
  pub spans : (p : ℕ) → p < 128 → SpansAt rows w s kept p
  pub marked : (p : ℕ) → p < n
      → get_or kept.left p 0 ≡ cond (leaves kept p (rest_at tokens put p) (get_or tokens p 0)) 1 0

-- The rest of place p is below its level, and transition t lacks tokens with it.
abbrev pub fallen : List ℕ → List (List ℕ) → List (List ℕ) → Kept → ℕ → ℕ → ℕ → Bool
fallen rows w s kept rest p t =
    ltb rest (get_or kept.from p 0) && (bit (inputs rows p) t && lacks (cell w p t) (cell s p t) rest)

-- The first n places are on their level with their tokens, and of the others all is as it was; what is kept of each
-- place holds on its level. The set has whom those starve whose rest came below the level they had.
pub record Tended (n : ℕ) (rows : List ℕ) (w s : List (List ℕ)) (tokens put : List ℕ) (kept kept' : Kept)
    (starved : ℕ) : Type 0 where
  pub spans : (p : ℕ) → p < 128 → SpansAt rows w s kept' p
  pub inside : (p : ℕ) → p < n → OnLevel kept' p (get_or tokens p 0)
  pub others : (p : ℕ) → n ≤ p → p < 128
      → (get_or kept'.from p 0 ≡ get_or kept.from p 0) × (get_or kept'.upto p 0 ≡ get_or kept.upto p 0)
  pub starves : (t : ℕ) → bit starved t ≡ some n (λ p. fallen rows w s kept (rest_at tokens put p) p t)

-- Nothing is taken or put at the first n places.
pub record Cleared (n : ℕ) (taken put taken' put' : List ℕ) : Type 0 where
  pub no_taken : (p : ℕ) → get_or taken' p 0 ≡ cond (ltb p n) 0 (get_or taken p 0)
  pub no_put : (p : ℕ) → get_or put' p 0 ≡ cond (ltb p n) 0 (get_or put p 0)
