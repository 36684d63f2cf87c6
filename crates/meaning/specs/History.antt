-- The history of a marking: what a run's end marking holds, by its start marking and by what the fired sets of the
-- finished cycles put and took.
use Rattle.std.specs.Prelude.{Bool, List, ◌≡◌, ℕ, suc, ◌+◌, ◌*◌, ◌<◌, get_or}
use Rattle.meaning.specs.Below.{sum}
use Rattle.meaning.specs.Bytes.{bit}
use Rattle.meaning.specs.Table.{Table}
use Rattle.meaning.specs.Cycle.{withdrawn, added}
use Rattle.meaning.specs.Calls.{lookup}
use Rattle.meaning.specs.Finished.{fired_in}

-- The tokens of place p in the bytes of an image.
abbrev pub tokens_in : List ℕ → ℕ → ℕ
tokens_in img p = get_or img (4 * p) 0 + 256 * get_or img (4 * p + 1) 0

-- The set that fired in cycle j of a report, counted from 0.
abbrev pub fired_set : List ℕ → ℕ → ℕ → Bool
fired_set report j = bit (fired_in (lookup report (suc j)))

-- Over n cycles of a report: at every place the end marking with all that the fired sets took is the start marking
-- with all that they put.
pub record History (tb : Table) (report : List ℕ) (n : ℕ) (start end : ℕ → ℕ) : Type 0 where
  pub balances : (p : ℕ) → p < 128
      → end p + sum n (λ j. withdrawn tb (fired_set report j) p)
      ≡ start p + sum n (λ j. added tb (fired_set report j) p)
