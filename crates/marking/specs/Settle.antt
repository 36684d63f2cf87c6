-- The marking after a step, place by place, and whom the places starve.
use Rattle.std.specs.Prelude.{◌&&◌, List, ◌≡◌, ℕ, ◌*◌, ◌≤◌, ◌<◌, ltb, length, get_or}
use Rattle.meaning.specs.Below.{some, IsFirst}
use Rattle.meaning.specs.Bytes.{bit}
use Rattle.rows.specs.Rows.{inputs, cell}
use Rattle.levels.specs.declared.Kept.{Kept}
use Rattle.levels.specs.Levels.{lacks, Levels}
use Rattle.marking.specs.declared.Settled.{Settled}
use Rattle.marking.specs.Moves.{lacking_at}
use Rattle.marking.specs.Sweep.{rest_at, new_at}

-- Each place below n has its rows, and none from n on is moved at; each has what is taken from it; what is kept of each
-- place holds for its tokens; `lack` has who lacks tokens at a place from which something is taken.
pub record SettleAsks (n lack : ℕ) (rows : List ℕ) (w s : List (List ℕ)) (tokens : List ℕ) (kept : Kept)
    (taken put : List ℕ) : Type 0 where
  pub few : n ≤ 128
  pub rows_there : 8 * n ≤ length rows
  pub weights_there : n ≤ length w
  pub sorts_there : n ≤ length s
  pub tokens_low : (p : ℕ) → p < 128 → get_or tokens p 0 ≤ 65535
  pub pays : (p : ℕ) → p < 128 → get_or taken p 0 ≤ get_or tokens p 0
  pub put_low : (p : ℕ) → p < 128 → get_or put p 0 ≤ 67107840
  pub none_taken : (p : ℕ) → n ≤ p → p < 128 → get_or taken p 0 ≡ 0
  pub none_put : (p : ℕ) → n ≤ p → p < 128 → get_or put p 0 ≡ 0
  pub levels_hold : Levels rows w s tokens kept
  pub lack_is : (j : ℕ) → bit lack j ≡ some 128 (λ p. ltb 0 (get_or taken p 0) && bit (lacking_at kept p) j)

-- Each place has its new tokens, and nothing is taken or put any more; what is kept of each place holds for its new
-- tokens. Full is the lowest place with more than 65,535 tokens, and starved is who has a basic or test arc from a
-- place from which something was taken and which then holds less than the arc's weight.
pub record Settles (rows : List ℕ) (w s : List (List ℕ)) (tokens taken put tokens' : List ℕ) (kept' : Kept)
    (taken' put' : List ℕ) (x : Settled) : Type 0 where
  pub tokens_are : (p : ℕ) → p < 128 → get_or tokens' p 0 ≡ new_at tokens taken put p
  pub no_taken : (p : ℕ) → p < 128 → get_or taken' p 0 ≡ 0
  pub no_put : (p : ℕ) → p < 128 → get_or put' p 0 ≡ 0
  pub full_is : IsFirst 128 (λ p. ltb 65535 (get_or tokens' p 0)) x.full
  pub levels_hold : Levels rows w s tokens' kept'
  pub starved_are : (t : ℕ)
      → bit x.starved t
      ≡ some 128 (λ p. ltb 0 (get_or taken p 0)
      && (bit (inputs rows p) t && lacks (cell w p t) (cell s p t) (rest_at tokens taken p)))
