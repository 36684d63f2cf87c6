-- What the laws of a cycle use of an accepted table, as facts about its records. `accepted_well` (Accepted.antt)
-- shows that every accepted table has them. The rules said twice are checked first: every law of a cycle stands on
-- definitions that agree with them.
use Rattle.meaning.proofs.Rising
use mathlib.Core.Bool.{true, false}
use mathlib.Core.Logic.{◌≢◌}
use mathlib.Core.Path.{◌≡◌}
use Prim.Native.Nat.{ℕ, ◌≤◌, ◌<◌}
use Rattle.meaning.specs.Table.{Table, basic, place, transition, timing, a_of, b_of}
use Rattle.meaning.specs.Priority.{above}
use Rattle.meaning.specs.Defined.{conflict, settled}

pub record Well (tb : Table) : Type 0 where
  -- an arc names a declared place and a transition below 64, and weighs something
  pub arc_place : (r : ℕ) → r < tb.records → tb.kind r ≡ 3 → place tb (tb.one r) ≡ true
  pub arc_transition : (r : ℕ) → r < tb.records → tb.kind r ≡ 3 → tb.two r < 64
  pub arc_weight : (r : ℕ) → r < tb.records → tb.kind r ≡ 3 → 1 ≤ tb.four r
  -- a condition has sort 0 or 1
  pub condition_sort : (r : ℕ) → r < tb.records → tb.kind r ≡ 4 → tb.sort r ≤ 1
  -- an action is carried by a place below 128
  pub action_place : (r : ℕ) → r < tb.records → tb.kind r ≡ 6 → tb.one r < 128
  -- places are below 128, transitions below 64
  pub place_known : (p : ℕ) → place tb p ≡ true → p < 128
  pub transition_known : (t : ℕ) → transition tb t ≡ true → t < 64
  -- no two basic arcs join one place and one transition
  pub single : (r s : ℕ) → r < tb.records → s < tb.records → basic tb r ≡ true → basic tb s ≡ true
      → tb.one r ≡ tb.one s
      → tb.two r ≡ tb.two s → r ≡ s
  -- no transition stands above itself, and each pair in conflict is settled
  pub no_circle : (t : ℕ) → t < 64 → above tb t t ≡ false
  pub settles : (i j : ℕ) → i < 64 → j < 64 → i < j → conflict tb i j ≡ true → settled tb i j ≡ true
  -- a timing has its sort, and its a and b are in range
  pub timing_sort : (t : ℕ) → timing tb t ≤ 2
  pub a_low : (t : ℕ) → timing tb t ≢ 0 → 1 ≤ a_of tb t
  pub a_high : (t : ℕ) → a_of tb t ≤ 65535
  pub b_high : (t : ℕ) → b_of tb t ≤ 65534
