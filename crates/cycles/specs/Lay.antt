-- What the cycles ask of a net beside its rows.
use Rattle.std.specs.Prelude.{true, false, not, List, ◌≡◌, ℕ, ◌+◌, ◌*◌, ◌^◌, ◌≤◌, ◌<◌, eqb, length, get_or}
use Rattle.std.specs.Prelude.{replicate}
use Rattle.meaning.specs.Bytes.{bit}
use Rattle.rows.specs.Rows.{inputs, looks, limit_of, transitions_below}
use Rattle.rows.specs.declared.Net.{Net}
use Rattle.arcs.specs.Arcs.{ArclessFrom, LowPairs, Rivals}
use Rattle.levels.specs.declared.Kept.{Kept}

-- No number of the rows is at n or past it.
pub record LayAsks (n : ℕ) (rows times : List ℕ) : Type 0 where
  pub arcless : ArclessFrom n rows
  pub pairs : LowPairs (transitions_below n) rows
  pub unlimited : (t : ℕ) → transitions_below n ≤ t → t < 64 → limit_of times t ≡ 0
  pub unlooked : (t k : ℕ) → transitions_below n ≤ t → t < 64 → k < 64 → bit (looks rows t) k ≡ false

-- The net has the arrays of a table; its eights are as few as hold every number below n; its sets and its arcs are
-- those of the rows.
pub record Lays (n known : ℕ) (rows : List ℕ) (w s : List (List ℕ)) (heads posts times : List ℕ) (net : Net)
    : Type 0 where
  pub rows_are : net.rows.now ≡ rows
  pub weights_are : net.weights.now ≡ w
  pub sorts_are : net.sorts.now ≡ s
  pub heads_are : net.heads.now ≡ heads
  pub posts_are : net.posts.now ≡ posts
  pub times_are : net.times.now ≡ times
  pub enough : n ≤ 8 * net.eights
  pub tight : 8 * net.eights ≤ n + 7
  pub known_is : net.known ≡ known
  pub rivals : Rivals net.rows.now net.arcs.now net.lower
  pub timed_is : (t : ℕ) → t < 64 → bit net.timed t ≡ not (eqb (limit_of net.times.now t) 0)
  pub conditional_is : (t : ℕ) → t < 64 → bit net.conditional t ≡ not (eqb (looks net.rows.now t) 0)
  pub conditional_low : (t : ℕ) → bit net.conditional t ≡ true → t < n
  pub words : (i : ℕ) → get_or net.rows.now i 0 < 2 ^ 64

-- Each place of the net's eights has its rows, which are sets of at most 64, and past them there is neither a token nor
-- an input arc; nothing is kept yet.
pub record LevelAsks (net : Net) (tokens : List ℕ) (kept : Kept) : Type 0 where
  pub few : 8 * net.eights ≤ 128
  pub rows_there : 8 * (8 * net.eights) ≤ length net.rows.now
  pub weights_there : 8 * net.eights ≤ length net.weights.now
  pub sorts_there : 8 * net.eights ≤ length net.sorts.now
  pub tokens_low : (p : ℕ) → p < 128 → get_or tokens p 0 ≤ 65535
  pub no_token : (p : ℕ) → 8 * net.eights ≤ p → p < 128 → get_or tokens p 0 ≡ 0
  pub no_arc : (p t : ℕ) → 8 * net.eights ≤ p → p < 128 → t < 64 → bit (inputs net.rows.now p) t ≡ false
  pub words : (i : ℕ) → get_or net.rows.now i 0 < 2 ^ 64
  pub none_held : kept.held ≡ replicate 128 0
  pub none_active : kept.active ≡ replicate 128 0
  pub none_lacking : kept.lacks ≡ replicate 128 0
  pub none_from : kept.from ≡ replicate 128 0
  pub none_upto : kept.upto ≡ replicate 128 0
