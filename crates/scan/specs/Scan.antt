-- What becomes of one record in the rows, and what the pass over all of them leaves.
use Rattle.std.specs.Prelude.{Bool, true, false, cond, ◌&&◌, ◌||◌, List, [], ◌∷◌, ◌≡◌, ℕ, suc, ◌+◌, ◌*◌, ◌≤◌, ◌<◌, eqb}
use Rattle.std.specs.Prelude.{length, get_or, set, replicate, Option, MatchOption, Result, MatchResult}
use Rattle.meaning.specs.Below.{first}
use Rattle.meaning.specs.Bytes.{bit}
use Rattle.meaning.specs.Table.{Table}
use Rattle.meaning.specs.Answer.{refused}
use Rattle.meaning.specs.Defined.{fault, faulty}
use Rattle.answers.specs.declared.Refusal.{Refusal}
use Rattle.answers.specs.Numbered.{refusal_told}
use Rattle.records.specs.declared.Rec.{Rec}
use Rattle.records.specs.Record.{Reads, alone, fault_of}
use Rattle.rows.specs.declared.Declared.{Declared}
use Rattle.rows.specs.Extent.{Roomy}
use Rattle.rows.specs.Rows.{row, has}
use Rattle.rows.specs.Filed.{kept_in, joins, limit_in, last_in, Paired, Filed}

-- Row q has y beside what it had, and the others are as they were.
pub record Entered (rows : List ℕ) (q y : ℕ) (after : List ℕ) : Type 0 where
  pub size : length after ≡ length rows
  pub holds : (k j : ℕ) → bit (get_or after k 0) j ≡ (bit (get_or rows k 0) j || (eqb q k && eqb y j))

-- The record stands in the rows that keep it beside what they had.
pub record Kept (x : Rec) (rows after : List ℕ) : Type 0 where
  pub holds : (c i y : ℕ) → c < 8
      → bit (row after c i) y ≡ (bit (row rows c i) y || (kept_in (alone x) c 0 && joins (alone x) i y 0))

-- There are rows for its byte 1, and a bit for its byte 2.
pub record Room (x : Rec) (rows : List ℕ) : Type 0 where
  pub rows_there : 8 * x.one + 8 ≤ length rows
  pub bit_there : x.two < 64

-- An input arc is kept with its weight and its sort, unless there was one already.
pub record InputKept (x : Rec) (again : Bool) (rows : List ℕ) (w s : List (List ℕ)) (rows' : List ℕ)
    (w' s' : List (List ℕ)) : Type 0 where
  pub size : length rows' ≡ length rows
  pub weights_size : length w' ≡ length w
  pub sorts_size : length s' ≡ length s
  pub kept : again ≡ false → Kept x rows rows'
  pub weight : again ≡ false → w' ≡ set w x.one (set (get_or w x.one []) x.two x.four)
  pub sort : again ≡ false → s' ≡ set s x.one (set (get_or s x.one []) x.two x.sort)

-- A post arc, record r, is kept at the head of its transition's chain, unless there was one already.
pub record PostKept (x : Rec) (r : ℕ) (again : Bool) (rows heads posts rows' heads' posts' : List ℕ) : Type 0 where
  pub size : length rows' ≡ length rows
  pub heads_size : length heads' ≡ length heads
  pub posts_size : length posts' ≡ length posts
  pub kept : again ≡ false → Kept x rows rows'
  pub head : again ≡ false → heads' ≡ set heads x.two (suc r)
  pub entry : again ≡ false
      → posts' ≡ set (set (set posts (3 * r + 0) x.one) (3 * r + 1) x.four) (3 * r + 2) (get_or heads x.two 0)

-- The times of a transition are those of its record.
pub record TimesKept (x : Rec) (times after : List ℕ) : Type 0 where
  pub size : length after ≡ 192
  pub holds : (t k : ℕ) → t < 64 → k < 3
      → get_or after (3 * t + k) 0
      ≡ cond (eqb x.one t) (get_or (x.four ∷ limit_in (alone x) 0 ∷ last_in (alone x) 0 ∷ []) k 0)
      (get_or times (3 * t + k) 0)

-- An earlier record said the same: the place or the transition is declared, or the record's bit is set in the row that
-- alone keeps its like.
unfoldable pub own_row : ℕ → ℕ → ℕ
own_row kind sort = get_or (0 ∷ 0 ∷ 0 ∷ cond (eqb sort 3) 2 0 ∷ 4 ∷ 7 ∷ 3 ∷ 6 ∷ []) kind 0

unfoldable pub again_by : Rec → Declared → List ℕ → Bool
again_by x known rows =
    cond (eqb x.kind 1) (has known x.one)
    (cond (eqb x.kind 2) (bit known.transitions x.one)
    (bit (row rows (own_row x.kind x.sort) x.one) x.two))

-- The columns of record r are in order, and there is room for it everywhere.
pub record KeepAsks (x : Rec) (r : ℕ) (rows : List ℕ) (w s : List (List ℕ)) (heads posts times : List ℕ) : Type 0 where
  pub sound : fault_of x ≡ 0
  pub rows_there : 8 * x.one + 8 ≤ length rows
  pub weights_there : x.one < length w
  pub sorts_there : x.one < length s
  pub heads_size : length heads ≡ 64
  pub few : r < 1024
  pub posts_there : 3 * r + 3 ≤ length posts
  pub times_size : length times ≡ 192

-- There is as much room as before.
pub record SameRoom (rows : List ℕ) (w s : List (List ℕ)) (heads posts times rows' : List ℕ)
    (w' s' : List (List ℕ)) (heads' posts' times' : List ℕ) : Type 0 where
  pub rows_same : length rows' ≡ length rows
  pub weights_same : length w' ≡ length w
  pub sorts_same : length s' ≡ length s
  pub heads_same : length heads' ≡ length heads
  pub posts_same : length posts' ≡ length posts
  pub times_same : length times' ≡ length times

-- What was filed of the records before it is filed of it too.
pub record Adds (x : Rec) (r : ℕ) (known after : Declared) (rows : List ℕ) (w s : List (List ℕ))
    (heads posts times rows' : List ℕ) (w' s' : List (List ℕ)) (heads' posts' times' : List ℕ) : Type 0 where
  pub filed : (tb : Table) → Reads tb r x → Filed tb r rows w s heads posts times known
      → Filed tb (suc r) rows' w' s' heads' posts' times' after
  pub paired : (tb : Table) → Reads tb r x → Paired tb r rows → Paired tb (suc r) rows'

-- None where the record is one too many; if it is not, it is added, and what is declared after it is told.
pub record Keeps (x : Rec) (r : ℕ) (known : Declared) (k : Option Declared) (rows : List ℕ) (w s : List (List ℕ))
    (heads posts times rows' : List ℕ) (w' s' : List (List ℕ)) (heads' posts' times' : List ℕ) : Type 0 where
  pub told : MatchOption k (again_by x known rows ≡ true)
      (λ after. (again_by x known rows ≡ false)
      × Adds x r known after rows w s heads posts times rows' w' s' heads' posts' times')
  pub room : SameRoom rows w s heads posts times rows' w' s' heads' posts' times'

-- Nothing is filed yet, and there is room for the numbers and the records of the table.
pub record Blank (tb : Table) (rows : List ℕ) (w s : List (List ℕ)) (heads posts times : List ℕ) : Type 0 where
  pub roomy : Roomy tb (length w)
  pub no_rows : rows ≡ replicate (8 * length w) 0
  pub no_weights : w ≡ replicate (length w) (replicate 64 0)
  pub no_sorts : s ≡ replicate (length w) (replicate 64 0)
  pub no_heads : heads ≡ replicate 64 0
  pub no_posts : posts ≡ replicate (length posts) 0
  pub posts_there : 3 * tb.records ≤ length posts
  pub no_times : times ≡ replicate 192 0

-- The refusal is of the first record that meets 2, 3 or 4, with its number.
pub record FirstFault (tb : Table) (e : Refusal) : Type 0 where
  pub some : first tb.records (faulty tb) < tb.records
  pub told : refusal_told e ≡ refused (fault tb (first tb.records (faulty tb))) (first tb.records (faulty tb))

-- No record meets one, and all are filed.
pub record AllFiled (tb : Table) (known : Declared) (rows : List ℕ) (w s : List (List ℕ))
    (heads posts times : List ℕ) : Type 0 where
  pub none : first tb.records (faulty tb) ≡ tb.records
  pub filed : Filed tb tb.records rows w s heads posts times known
  pub paired : Paired tb tb.records rows
  pub lengths : (length heads ≡ 64) × (length times ≡ 192)

-- The pass ends at the first record that meets 2, 3 or 4, with its number; where there is none, all records are filed.
abbrev pub Scanned : Table → Result Declared Refusal → List ℕ → List (List ℕ) → List (List ℕ)
    → List ℕ → List ℕ → List ℕ → Type 0
Scanned tb result rows w s heads posts times =
    MatchResult result (λ known. AllFiled tb known rows w s heads posts times) (FirstFault tb)
