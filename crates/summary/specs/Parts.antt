-- What the parts of the three calls say.
use Rattle.std.specs.Prelude.{Bool, cond, ◌&&◌, List, ◌≡◌, ℕ, ◌+◌, ◌*◌, ◌≤◌, ◌<◌, eqb, length, get_or}
use Rattle.meaning.specs.Below.{some}
use Rattle.meaning.specs.Bytes.{bit}
use Rattle.meaning.specs.Table.{Table}
use Rattle.records.specs.declared.Rec.{Rec}
use Rattle.summary.specs.Day.{fired_word, times_of, moved}

-- A member of a set fired in record r.
unfoldable pub strange_by : ℕ → List ℕ → ℕ → Bool
strange_by unknown report r = some 64 (λ k. bit (fired_word report r) k && bit unknown k)

-- There is room for one more of each.
pub record Ticks (counts : List ℕ) : Type 0 where
  pub size : length counts ≡ 65
  pub room : (k : ℕ) → k < 64 → times_of counts k < 4294967295

-- Each member of the set is counted once more, and nothing else is.
pub record Ticked (fired : ℕ) (counts counts' : List ℕ) : Type 0 where
  pub size : length counts' ≡ 65
  pub counted : (k : ℕ) → k < 64 → times_of counts' k ≡ times_of counts k + cond (bit fired k) 1 0

-- Arcs stand between places below 128 and transitions below 64.
abbrev pub LowArcs : Table → Type 0
LowArcs tb = (r : ℕ) → r < tb.records → tb.kind r ≡ 3 → (tb.one r < 128) × (tb.two r < 64)

-- A record's numbers are in range if it is an arc, and there is room for what it moves.
pub record Shifts (x : Rec) (moved : List ℕ) : Type 0 where
  pub size : length moved ≡ 128
  pub low : x.kind ≡ 3 → (x.one < 128) × (x.two < 64)
  pub room : (p : ℕ) → p < 128 → get_or moved p 0 ≤ 18446462603027873790

-- The record's weight, as often as its transition fired, is added at its place if it is an arc of the sort; a weight
-- times a count is at most 281,470,681,677,825.
pub record Shifted (x : Rec) (sort : ℕ) (s before after : List ℕ) : Type 0 where
  pub size : length after ≡ 128
  pub most : (p : ℕ) → p < 128 → get_or after p 0 ≤ get_or before p 0 + 281470681677825
  pub adds : (p : ℕ) → p < 128
      → get_or after p 0
      ≡ get_or before p 0
      + cond (eqb x.kind 3 && eqb x.sort sort && eqb x.one p) (x.four * times_of s x.two) 0

-- At each place what the arcs of the sort move; 1,024 records move at most that much.
pub record MovesSo (tb : Table) (sort : ℕ) (s r : List ℕ) : Type 0 where
  pub size : length r ≡ 128
  pub moves : (p : ℕ) → p < 128 → get_or r p 0 ≡ moved tb sort s p
  pub most : (p : ℕ) → p < 128 → get_or r p 0 ≤ 288225978038092800
