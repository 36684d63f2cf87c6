-- The source's own counter, which counts on for ever (source document 001, definition 7, rules 3 to 6), beside
-- the page's, which stops at a for sort 2. The law of proofs/Source.antt says that over any run the two make no
-- difference.
use Rattle.std.specs.Prelude.{cond, ◌||◌, List, [], ◌∷◌, ◌≡◌, ℕ, zero, suc, min, ◌<◌, leb, eqb}
use Rattle.meaning.specs.Below.{within}
use Rattle.meaning.specs.Table.{Table, timing, a_of, b_of}
use Rattle.meaning.specs.Image.{State}
use Rattle.meaning.specs.Cycle.{enabled, fired, rising}

-- The source's counter after the falling edge: it rises while it is at most b, and for ever where there is no b.
unfoldable pub source_counted : Table → State → ℕ → ℕ
source_counted tb z t =
    cond (eqb (timing tb t) 0) (z.counter t)
    (cond (enabled tb z.tokens t)
    (cond (z.order t) 1
    (cond (eqb (timing tb t) 2 || leb (z.counter t) (b_of tb t)) (suc (z.counter t)) (z.counter t))) 0)

unfoldable pub source_falling : Table → State → State
source_falling tb z = record { tokens = z.tokens; counter = source_counted tb z; order = z.order }

-- A cycle with the source's counter, and a run over the first n words of a list.
unfoldable pub source_cycle : Table → State → ℕ → State
source_cycle tb z word = rising tb (source_falling tb z) (within (fired tb (source_falling tb z) word))

unfoldable pub source_run : Table → ℕ → List ℕ → State → State
source_run tb zero ws z = z
source_run tb (suc n) [] z = z
source_run tb (suc n) (w ∷ ws) z = source_run tb n ws (source_cycle tb z w)

-- A counter of the source, stopped at a for sort 2.
unfoldable pub stopped_at_a : Table → ℕ → ℕ → ℕ
stopped_at_a tb t c = cond (eqb (timing tb t) 2) (min c (a_of tb t)) c

-- The state s is the source's state z but for stopped counters.
pub record Follows (tb : Table) (z s : State) : Type 0 where
  pub tokens : (p : ℕ) → p < 128 → s.tokens p ≡ z.tokens p
  pub counter : (t : ℕ) → t < 64 → s.counter t ≡ stopped_at_a tb t (z.counter t)
  pub order : (t : ℕ) → t < 64 → s.order t ≡ z.order t
