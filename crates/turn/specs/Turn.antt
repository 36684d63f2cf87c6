-- The rows of an accepted table, and one cycle over them.
use Rattle.std.specs.Prelude.{Bool, true, not, List, ◌≡◌, ℕ, ◌*◌, ◌≤◌, ◌<◌, eqb, get_or, None}
use Rattle.meaning.specs.Below.{IsFirst, within}
use Rattle.meaning.specs.Bytes.{bit, bits}
use Rattle.meaning.specs.Table.{Table, table, transition}
use Rattle.meaning.specs.Image.{State}
use Rattle.meaning.specs.Cycle.{falling, fired, rising, active, executed, overfull}
use Rattle.rows.specs.declared.Declared.{Declared}
use Rattle.rows.specs.declared.Net.{Net}
use Rattle.rows.specs.Rows.{looks, limit_of}
use Rattle.rows.specs.Filed.{Sizes, NetOf}
use Rattle.state.specs.declared.State.{State as Arrays}
use Rattle.state.specs.Holds.{held}
use Rattle.arcs.specs.Arcs.{Rivals}
use Rattle.levels.specs.declared.Kept.{Kept}
use Rattle.levels.specs.Levels.{Levels}
use Rattle.marking.specs.declared.Moves.{Moves}
use Rattle.turn.specs.declared.Outcome.{Outcome}

-- The rows are those of the accepted table that the bytes spell, with a row for every number of the net's eights.
pub record Laid (bs : List ℕ) (net : Net) : Type 0 where
  pub declared : Declared
  pub net_of : NetOf bs (8 * net.eights) net.rows.now net.weights.now net.sorts.now net.heads.now net.posts.now
      net.times.now declared
  pub sizes : Sizes (8 * net.eights) (table bs).records net.rows.now net.weights.now net.sorts.now net.heads.now
      net.posts.now net.times.now
  pub rivals : Rivals net.rows.now net.arcs.now net.lower
  pub known_is : (t : ℕ) → t < 64 → bit net.known t ≡ transition (table bs) t
  pub timed_is : (t : ℕ) → t < 64 → bit net.timed t ≡ not (eqb (limit_of net.times.now t) 0)
  pub conditional_is : (t : ℕ) → t < 64 → bit net.conditional t ≡ not (eqb (looks net.rows.now t) 0)
  pub conditional_low : (t : ℕ) → t < 64 → bit net.conditional t ≡ true → t < 8 * net.eights

-- What is kept of each place holds for its tokens; tokens and counters fit two bytes, and nothing is taken or put yet.
pub record Poised (net : Net) (state : Arrays) (kept : Kept) (moves : Moves) : Type 0 where
  pub tokens_low : (p : ℕ) → p < 128 → get_or state.tokens p 0 ≤ 65535
  pub counters_low : (t : ℕ) → t < 64 → get_or state.counters t 0 ≤ 65535
  pub levels_hold : Levels net.rows.now net.weights.now net.sorts.now state.tokens kept
  pub none_taken : (p : ℕ) → p < 128 → get_or moves.taken p 0 ≡ 0
  pub none_put : (p : ℕ) → p < 128 → get_or moves.put p 0 ≡ 0

-- A cycle asks for the rows of some accepted table, and that all is poised.
pub record StepAsks (net : Net) (state : Arrays) (kept : Kept) (moves : Moves) : Type 0 where
  pub bs : List ℕ
  pub laid : Laid bs net
  pub poised : Poised net state kept moves

-- What fires in a cycle from a state with a word.
abbrev pub fires : Table → State → ℕ → ℕ → Bool
fires tb h word = within (fired tb (falling tb h) word)

-- One cycle of the table from the state h: its three sets and the lowest full place, and the state after it.
pub record Stepped (tb : Table) (h : State) (word : ℕ) (r : Outcome) (after : Arrays) : Type 0 where
  pub fired_is : r.fired ≡ bits (fires tb h word)
  pub actions_are : r.actions ≡ bits (active tb h.tokens)
  pub functions_are : r.functions ≡ bits (executed tb (fires tb h word))
  pub full_is : IsFirst 128 (overfull tb (rising tb (falling tb h) (fires tb h word))) r.full
  pub tokens_are : (p : ℕ) → p < 128 → get_or after.tokens p 0 ≡ (rising tb (falling tb h) (fires tb h word)).tokens p
  pub counters_are : (t : ℕ) → t < 64
      → get_or after.counters t 0 ≡ (rising tb (falling tb h) (fires tb h word)).counter t
  pub orders_are : (t : ℕ) → t < 64 → bit after.orders t ≡ (rising tb (falling tb h) (fires tb h word)).order t

-- Whatever table the rows are of, this is its cycle; and where no place is full, all is poised for the next.
pub record Steps (net : Net) (state : Arrays) (word : ℕ) (r : Outcome) (state' : Arrays) (kept' : Kept)
    (moves' : Moves) : Type 0 where
  pub stepped : (bs : List ℕ) → Laid bs net
      → Stepped (table bs) (held state.tokens state.counters state.orders) word r state'
  pub poised : r.full ≡ None → Poised net state' kept' moves'
