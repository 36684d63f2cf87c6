-- The three ways to settle a pair, read off the rows, and the pairs that nothing settles.
use Rattle.std.specs.Prelude.{Bool, true, not, cond, ◌&&◌, ◌||◌, List, [], ◌≡◌, ℕ, ◌*◌, ◌/◌, ◌%◌, ◌≤◌, ◌<◌, eqb}
use Rattle.std.specs.Prelude.{◌+◌, length, get_or, Option, MatchOption}
use Rattle.meaning.specs.Below.{some, first}
use Rattle.meaning.specs.Bytes.{bit}
use Rattle.answers.specs.declared.Pair.{Pair}
use Rattle.rows.specs.Rows.{inputs, looks, wanted_true, below, transitions_below}

-- Transition t looks at condition k and wants it false.
abbrev pub wants_false : List ℕ → ℕ → ℕ → Bool
wants_false rows t k = bit (looks rows t) k && not (bit (wanted_true rows t) k)

-- Some condition is wanted true by one and false by the other.
unfoldable pub crossed_in : List ℕ → ℕ → ℕ → Bool
crossed_in rows i j =
    some 64 (λ k. bit (wanted_true rows i) k && wants_false rows j k)
    || some 64 (λ k. wants_false rows i k && bit (wanted_true rows j) k)

-- A place has input arcs of equal weight to both, and one of them alone is an inhibitor arc (sort 2).
unfoldable pub apart_by : ℕ → List ℕ → List ℕ → ℕ → ℕ → Bool
apart_by inputs w s i j =
    ((bit inputs i && bit inputs j) && eqb (get_or w i 0) (get_or w j 0))
    && cond (eqb (get_or s i 0) 2) (not (eqb (get_or s j 0) 2)) (eqb (get_or s j 0) 2)

-- So of place p, by its rows.
abbrev pub apart_in : List ℕ → List (List ℕ) → List (List ℕ) → ℕ → ℕ → ℕ → Bool
apart_in rows w s i j p = apart_by (inputs rows p) (get_or w p []) (get_or s p []) i j

-- One stands above the other, conditions keep them apart, or an inhibitor arc of equal weight from one of the first n
-- places does.
unfoldable pub settled_in : List ℕ → List (List ℕ) → List (List ℕ) → ℕ → ℕ → ℕ → Bool
settled_in rows w s n i j =
    bit (below rows i) j || bit (below rows j) i || crossed_in rows i j || some n (apart_in rows w s i j)

-- Candidate k = 64i + j: a pair in conflict that is not settled.
unfoldable pub unsettled_by : List ℕ → List ℕ → List (List ℕ) → List (List ℕ) → ℕ → ℕ → Bool
unsettled_by pairs rows w s n k =
    bit (get_or pairs (k / 64) 0) (k % 64) && not (settled_in rows w s n (k / 64) (k % 64))

-- The least candidate as a pair, or that there is none.
abbrev pub IsLeast : (ℕ → Bool) → Option Pair → Type 0
IsLeast unsettled r =
    MatchOption r (first 4096 unsettled ≡ 4096) (λ (q : Pair). first 4096 unsettled ≡ 64 * q.first + q.second)

-- Each place below n has its rows.
pub record There (n : ℕ) (rows : List ℕ) (w s : List (List ℕ)) : Type 0 where
  pub sets_in : 8 * n ≤ length rows
  pub weights_in : n ≤ length w
  pub sorts_in : n ≤ length s

-- Each place below n has its rows, and each transition of a pair is below n.
pub record LeastAsks (n : ℕ) (pairs rows : List ℕ) (w s : List (List ℕ)) : Type 0 where
  pub rows_there : 8 * n ≤ length rows
  pub weights_there : n ≤ length w
  pub sorts_there : n ≤ length s
  pub pairs_low : (i j : ℕ) → i < 64 → j < 64 → bit (get_or pairs i 0) j ≡ true
      → (i < transitions_below n) × (j < transitions_below n)
