-- Document 01, "Answer numbers and their order": what an answer holds, and how an ordered list of checks gives
-- one.
use Rattle.std.specs.Prelude.{Bool, cond, List, [], ◌∷◌, ℕ, ltb}
use Rattle.meaning.specs.Below.{first}

-- An answer of check, start or run: its number (0 accepted), the page's `where`, the cycles done.
pub record Answer : Type 0 where
  pub number : ℕ
  pub at : ℕ
  pub cycles : ℕ

-- Accepted, after so many cycles.
abbrev pub accepted : ℕ → Answer
accepted c = record { number = 0; at = 0; cycles = c }

-- Refused by number, with its `where`, before any cycle.
abbrev pub refused : ℕ → ℕ → Answer
refused n w = record { number = n; at = w; cycles = 0 }

-- One check: the candidates below `below` are taken in order, and the first that is `bad` is answered.
pub record Check : Type 0 where
  pub below : ℕ
  pub bad : ℕ → Bool
  pub answer : ℕ → Answer

abbrev pub check_of : ℕ → (ℕ → Bool) → (ℕ → Answer) → Check
check_of n p f = record { below = n; bad = p; answer = f }

-- The checks are made in their order, and the first that finds something decides; else the answer is the last
-- argument.
unfoldable pub decide : List Check → Answer → Answer
decide [] ok = ok
decide (c ∷ cs) ok =
    let found = first c.below c.bad in
    let later = decide cs ok in
    let here = c.answer found in
    cond (ltb found c.below) here later
