-- The walk over the timed transitions at the falling edge: each turn writes one counter and keeps its transition if it
-- is in time, and what each counter comes to and who is kept in the end stay the same.
use mathlib.Core.Bool.{Bool, cond, ◌&&◌, ◌||◌}
use mathlib.Core.List.{List}
use mathlib.Core.Path.{◌≡◌}
use Prim.Native.Nat.{ℕ}
use lib.ListN.{length, get_or}
use Rattle.meaning.specs.Bytes.{bit}
use Rattle.rows.specs.Rows.{first_of, last_of}
use Rattle.edge.specs.Edges.{in_span}

-- Whether a timed transition is enabled and in time.
abbrev pub timely : ℕ → List ℕ → ℕ → ℕ → Bool
timely on times t c = bit on t && in_span (first_of times t) (last_of times t) c

-- What t's counter comes to in the walk: the next, where t is still left.
abbrev pub comes_to : (ℕ → ℕ → ℕ) → ℕ → List ℕ → ℕ → ℕ
comes_to f left counters t = cond (bit left t) (f t (get_or counters t 0)) (get_or counters t 0)

-- Where the walk has come to, by where it began: what each counter comes to has stayed the same, and whoever is kept,
-- or is left and will pass p, is one of all those who pass.
pub record Walked (f : ℕ → ℕ → ℕ) (p : ℕ → ℕ → Bool) (left₀ : ℕ) (counters₀ : List ℕ) (left : ℕ) (counters : List ℕ)
    (ready : ℕ) : Type 0 where
  pub size : length counters ≡ 64
  pub comes : (t : ℕ) → comes_to f left counters t ≡ comes_to f left₀ counters₀ t
  pub joined : (t : ℕ)
      → (bit ready t || (bit left t && p t (comes_to f left counters t)))
      ≡ (bit left₀ t && p t (comes_to f left₀ counters₀ t))
