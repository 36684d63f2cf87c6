-- What the first r records of a table have put into the rows, record by record in the page's words.
use Rattle.std.specs.Prelude.{Bool, true, false, cond, ◌&&◌, List, [], ◌∷◌, ◌≡◌, ℕ, zero, suc, ◌+◌, ◌*◌, ◌≤◌, ◌<◌}
use Rattle.std.specs.Prelude.{ltb, eqb, length, get_or}
use Rattle.meaning.specs.Below.{some}
use Rattle.meaning.specs.Bytes.{bit}
use Rattle.meaning.specs.Table.{Table, table, is, basic, post}
use Rattle.meaning.specs.Answer.{accepted}
use Rattle.meaning.specs.Priority.{above}
use Rattle.meaning.specs.Defined.{check}
use Rattle.rows.specs.declared.Declared.{Declared}
use Rattle.rows.specs.Rows.{row, below, cell, first_of, limit_of, last_of, has}

-- Record k is an input arc.
abbrev pub input : Table → ℕ → Bool
input tb k = is tb 3 k && ltb (tb.sort k) 3

-- Record k is kept in row c: an input arc, a basic arc, a post arc, an action, a condition, one that is wanted true, a
-- function, a priority.
unfoldable pub kept_in : Table → ℕ → ℕ → Bool
kept_in tb c k =
    get_or
    (input tb k
    ∷ basic tb k
    ∷ post tb k
    ∷ is tb 6 k
    ∷ is tb 4 k
    ∷ (is tb 4 k && eqb (tb.sort k) 0)
    ∷ is tb 7 k
    ∷ is tb 5 k
    ∷ [])
    c
    false

-- Record k has byte 1 at i and byte 2 at y.
abbrev pub joins : Table → ℕ → ℕ → ℕ → Bool
joins tb i y k = eqb (tb.one k) i && eqb (tb.two k) y

-- Row c of each number has the records that are kept there, of the first r. The written pairs, row 7, are said apart:
-- they are closed later.
pub record Rowed (tb : Table) (r : ℕ) (rows : List ℕ) : Type 0 where
  pub holds : (c i y : ℕ) → c < 7 → i < 128 → y < 64
      → bit (row rows c i) y ≡ some r (λ k. kept_in tb c k && joins tb i y k)

pub record Paired (tb : Table) (r : ℕ) (rows : List ℕ) : Type 0 where
  pub holds : (u t : ℕ) → u < 128 → t < 64 → bit (below rows u) t ≡ some r (λ k. is tb 5 k && joins tb u t k)

-- The pairs closed.
pub record Closed (tb : Table) (rows : List ℕ) : Type 0 where
  pub holds : (u t : ℕ) → u < 64 → t < 64 → bit (below rows u) t ≡ above tb u t

-- What column f says in the last of the first n records that passes p; 0 where none does.
unfoldable pub latest : ℕ → (ℕ → Bool) → (ℕ → ℕ) → ℕ
latest zero p f = 0
latest (suc n) p f = cond (p n) (f n) (latest n p f)

-- Each place and transition has column f of the input arc between them.
pub record Cells (tb : Table) (r : ℕ) (f : ℕ → ℕ) (m : List (List ℕ)) : Type 0 where
  pub wide : (p : ℕ) → p < length m → length (get_or m p []) ≡ 64
  pub holds : (p t : ℕ) → p < 128 → t < 64 → cell m p t ≡ latest r (λ k. input tb k && joins tb p t k) f

-- Record k declares number x as a thing of this kind.
abbrev pub declares : Table → ℕ → ℕ → ℕ → Bool
declares tb kind x k = is tb kind k && eqb (tb.one k) x

-- How far the counter of the transition of record k rises: of sort 1 to b + 1, of sort 2 to a, of sort 0 it stays at 0.
-- The last count in time: b, and of sort 2 a number that stands for no end.
abbrev pub limit_in : Table → ℕ → ℕ
limit_in tb k = cond (eqb (tb.sort k) 1) (suc (tb.six k)) (tb.four k)

abbrev pub last_in : Table → ℕ → ℕ
last_in tb k = cond (eqb (tb.sort k) 2) 4294967295 (tb.six k)

-- The three numbers of each transition are those of the record that declares it.
pub record Timed (tb : Table) (r : ℕ) (times : List ℕ) : Type 0 where
  pub first_is : (t : ℕ) → t < 64 → first_of times t ≡ latest r (declares tb 2 t) tb.four
  pub limit_is : (t : ℕ) → t < 64 → limit_of times t ≡ latest r (declares tb 2 t) (limit_in tb)
  pub last_is : (t : ℕ) → t < 64 → last_of times t ≡ latest r (declares tb 2 t) (last_in tb)

-- The declared places and transitions.
pub record Known (tb : Table) (r : ℕ) (known : Declared) : Type 0 where
  pub places : (p : ℕ) → p < 128 → has known p ≡ some r (declares tb 1 p)
  pub transitions : (t : ℕ) → t < 64 → bit known.transitions t ≡ some r (declares tb 2 t)

-- The link to the last number below n that passes p: one more than the number, and 0 where none passes.
unfoldable pub link : ℕ → (ℕ → Bool) → ℕ
link zero p = 0
link (suc n) p = cond (p n) (suc n) (link n p)

-- Record k is a post arc of transition t.
abbrev pub post_of : Table → ℕ → ℕ → Bool
post_of tb t k = post tb k && eqb (tb.two k) t

-- The post arcs of each transition in a chain: the last such record, and from each the one before it. Each has its
-- place and its weight.
pub record Posted (tb : Table) (r : ℕ) (heads posts : List ℕ) : Type 0 where
  pub begins : (t : ℕ) → t < 64 → get_or heads t 0 ≡ link r (post_of tb t)
  pub place : (k : ℕ) → k < r → post tb k ≡ true → get_or posts (3 * k + 0) 0 ≡ tb.one k
  pub weight : (k : ℕ) → k < r → post tb k ≡ true → get_or posts (3 * k + 1) 0 ≡ tb.four k
  pub goes_on : (k : ℕ) → k < r → post tb k ≡ true → get_or posts (3 * k + 2) 0 ≡ link k (post_of tb (tb.two k))

-- A chain goes down from record to record, and every entry is of a place below 128.
pub record Descends (posts : List ℕ) : Type 0 where
  pub down : (k : ℕ) → get_or posts (3 * k + 2) 0 ≤ k
  pub places : (k : ℕ) → get_or posts (3 * k + 0) 0 < 128

-- There is a row for each number below n, and room for the post arcs of so many records.
pub record Sizes (n records : ℕ) (rows : List ℕ) (w s : List (List ℕ)) (heads posts times : List ℕ) : Type 0 where
  pub rows_are : 8 * n ≤ length rows
  pub weights_are : n ≤ length w
  pub sorts_are : n ≤ length s
  pub heads_are : length heads ≡ 64
  pub posts_are : 3 * records ≤ length posts
  pub times_are : length times ≡ 192

-- All that the first r records have put, the pairs apart.
pub record Filed (tb : Table) (r : ℕ) (rows : List ℕ) (w s : List (List ℕ)) (heads posts times : List ℕ)
    (known : Declared) : Type 0 where
  pub rowed : Rowed tb r rows
  pub weights : Cells tb r tb.four w
  pub sorts : Cells tb r tb.sort s
  pub posted : Posted tb r heads posts
  pub descends : Descends posts
  pub timed : Timed tb r times
  pub known_are : Known tb r known

-- The rows are those of the accepted table that the bytes spell, the pairs closed; all its numbers are below n.
pub record NetOf (bs : List ℕ) (n : ℕ) (rows : List ℕ) (w s : List (List ℕ)) (heads posts times : List ℕ)
    (known : Declared) : Type 0 where
  pub sound : check bs ≡ accepted 0
  pub filed : Filed (table bs) (table bs).records rows w s heads posts times known
  pub closed : Closed (table bs) rows
  pub few : n ≤ 128
  pub below : (r : ℕ) → r < (table bs).records → (table bs).one r < n
