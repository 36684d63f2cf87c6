-- The falling edge's counters, and which transitions are firable, read off the rows.
use Rattle.std.specs.Prelude.{Bool, true, cond, not, ◌&&◌, ◌||◌, List, ◌≡◌, ℕ, suc, ◌+◌, ◌*◌, ◌≤◌, ◌<◌, leb, ltb, eqb}
use Rattle.std.specs.Prelude.{length, get_or}
use Rattle.meaning.specs.Below.{some}
use Rattle.meaning.specs.Bytes.{bit}
use Rattle.rows.specs.Rows.{looks, wanted_true, first_of, limit_of, last_of}

-- The counter of an enabled timed transition after the falling edge: with a reset order 1; else it rises by one if
-- below its limit.
unfoldable pub raised : Bool → ℕ → ℕ → ℕ
raised order limit c = cond order 1 (cond (ltb c limit) (suc c) c)

-- A count is in time: at least the first, and at most the last.
abbrev pub in_span : ℕ → ℕ → ℕ → Bool
in_span first last c = leb first c && leb c last

-- What the falling edge makes of the counter c of a timed transition t: if enabled it rises, else it is 0.
abbrev pub next_count : ℕ → ℕ → List ℕ → ℕ → ℕ → ℕ
next_count orders on times t c = cond (bit on t) (raised (bit orders t) (limit_of times t) c) 0

-- Each timed transition's counter has risen if it is enabled and else is 0, and each other is as it was.
pub record Raises (timed orders on : ℕ) (times before after : List ℕ) : Type 0 where
  pub size : length after ≡ 64
  pub holds : (t : ℕ) → t < 64
      → get_or after t 0 ≡ cond (bit timed t) (next_count orders on times t (get_or before t 0)) (get_or before t 0)

-- The set of those that are timed, enabled and in time.
abbrev pub Ready : ℕ → ℕ → List ℕ → List ℕ → ℕ → Type 0
Ready timed on times counters r =
    (t : ℕ) → bit r t ≡ ((bit timed t && bit on t)
    && in_span (first_of times t) (last_of times t) (get_or counters t 0))

-- No condition that is looked at is other than wanted: true where it is wanted true, else false.
unfoldable pub as_asked : ℕ → ℕ → ℕ → Bool
as_asked looks wanted word = not (some 64 (λ k. bit looks k && cond (bit wanted k) (not (bit word k)) (bit word k)))

-- The conditional transitions are those that look at conditions; each has its rows, and looks at what it wants true.
pub record FirableAsks (conditional : ℕ) (rows : List ℕ) : Type 0 where
  pub conditional_is : (t : ℕ) → t < 64 → bit conditional t ≡ not (eqb (looks rows t) 0)
  pub looked_at : (t k : ℕ) → t < 64 → k < 64 → bit (wanted_true rows t) k ≡ true → bit (looks rows t) k ≡ true
  pub rows_there : (t : ℕ) → t < 64 → bit conditional t ≡ true → 8 * t + 8 ≤ length rows

-- The conditions of transition t are as wanted in the word.
abbrev pub wanted_in : List ℕ → ℕ → ℕ → Bool
wanted_in rows word t = as_asked (looks rows t) (wanted_true rows t) word

-- The set of those that are enabled and untimed, or ready, and their conditions as wanted.
abbrev pub Able : ℕ → ℕ → ℕ → List ℕ → ℕ → ℕ → Type 0
Able on timed ready rows word r =
    (t : ℕ) → bit r t ≡ (ltb t 64 && (((bit on t && not (bit timed t)) || bit ready t) && wanted_in rows word t))
