-- Document 01, "Tables": records of eight bytes, and the table of kinds. A table is a list of bytes; records
-- are counted from 0.
use Rattle.std.specs.Prelude.{Bool, cond, ◌&&◌, List, [], ◌∷◌, ℕ, ◌+◌, ◌*◌, ◌-◌, ◌/◌, eqb, length, get_or}
use Rattle.meaning.specs.Below.{some, sum}
use Rattle.meaning.specs.Bytes.{cut}

-- What a table says: how many whole records it has, and what stands in each record's columns.
pub record Table : Type 0 where
  pub records : ℕ
  pub kind : ℕ → ℕ  -- byte 0
  pub one : ℕ → ℕ  -- byte 1
  pub two : ℕ → ℕ  -- byte 2
  pub sort : ℕ → ℕ  -- byte 3
  pub four : ℕ → ℕ  -- bytes 4-5: a place's first tokens, a transition's a, an arc's weight
  pub six : ℕ → ℕ  -- bytes 6-7: a transition's b

-- The table that bytes spell: record r is the eight bytes from 8r on, and its two-byte numbers are little-endian.
unfoldable pub table : List ℕ → Table
table bs =
    let n = length bs / 8 in
    let pieces = cut 8 n bs in
    let at : ℕ → ℕ → ℕ = λ r k. get_or (get_or pieces r []) k 0 in
    record {
      records = n;
      kind = λ r. at r 0;
      one = λ r. at r 1;
      two = λ r. at r 2;
      sort = λ r. at r 3;
      four = λ r. at r 4 + 256 * at r 5;
      six = λ r. at r 6 + 256 * at r 7;
    }

-- A row of the table of kinds: the highest value that each column may hold, 0 where the page shows 0.
pub record Row : Type 0 where
  pub one : ℕ
  pub two : ℕ
  pub sort : ℕ
  pub four : ℕ
  pub six : ℕ

abbrev pub row : ℕ → ℕ → ℕ → ℕ → ℕ → Row
row o t s f x = record { one = o; two = t; sort = s; four = f; six = x }

-- The table of kinds, kinds 1 to 7.
--  byte 1, byte 2, sort, bytes 4-5, bytes 6-7
unfoldable pub kinds : List Row
kinds =
    row 127 0 0 65535 0  -- 1 place: place; first tokens
    ∷ row 63 0 2 65535 65535  -- 2 transition: transition; untimed, interval [a,b], interval a or more; a; b
    ∷ row 127 63 3 65535 0  -- 3 arc: place; transition; basic, test, inhibitor, post; weight
    ∷ row 63 63 1 0 0  -- 4 condition: transition; condition; wanted true, wanted false
    ∷ row 63 63 0 0 0  -- 5 priority: higher transition; lower transition
    ∷ row 127 63 0 0 0  -- 6 action: place; action
    ∷ row 63 63 0 0 0  -- 7 function: transition; function
    ∷ []

-- The row of record r's kind.
abbrev pub kind_row : Table → ℕ → Row
kind_row tb r = get_or kinds (tb.kind r - 1) (row 0 0 0 0 0)

-- Record r is of kind k.
abbrev pub is : Table → ℕ → ℕ → Bool
is tb k r = eqb (tb.kind r) k

-- Record r is an arc of sort s: 0 basic, 1 test, 2 inhibitor, 3 post.
abbrev pub arc : Table → ℕ → ℕ → Bool
arc tb s r = is tb 3 r && eqb (tb.sort r) s

abbrev pub basic : Table → ℕ → Bool
basic tb r = arc tb 0 r

abbrev pub test : Table → ℕ → Bool
test tb r = arc tb 1 r

abbrev pub inhibitor : Table → ℕ → Bool
inhibitor tb r = arc tb 2 r

abbrev pub post : Table → ℕ → Bool
post tb r = arc tb 3 r

-- Some record declares place p; some record declares transition t.
unfoldable pub place : Table → ℕ → Bool
place tb p = some tb.records (λ r. is tb 1 r && eqb (tb.one r) p)

unfoldable pub transition : Table → ℕ → Bool
transition tb t = some tb.records (λ r. is tb 2 r && eqb (tb.one r) t)

-- The sum of column f over the records that pass p.
unfoldable pub total : Table → (ℕ → Bool) → (ℕ → ℕ) → ℕ
total tb p f =
    sum tb.records
    (λ r.
    let value = f r in
    cond (p r) value 0)

-- What column f says in the record of kind k that declares x. A sound table has at most one; 0 where there is
-- none.
abbrev pub declared : Table → ℕ → ℕ → (ℕ → ℕ) → ℕ
declared tb k x f = total tb (λ r. is tb k r && eqb (tb.one r) x) f

-- The first tokens of place p.
abbrev pub first_tokens : Table → ℕ → ℕ
first_tokens tb p = declared tb 1 p tb.four

-- The sort of transition t (0 untimed, 1 interval [a,b], 2 interval a or more), and its a and b.
abbrev pub timing : Table → ℕ → ℕ
timing tb t = declared tb 2 t tb.sort

abbrev pub a_of : Table → ℕ → ℕ
a_of tb t = declared tb 2 t tb.four

abbrev pub b_of : Table → ℕ → ℕ
b_of tb t = declared tb 2 t tb.six

-- The most tokens that place p may hold at the end of a cycle.
unfoldable pub ceiling : Table → ℕ → ℕ
ceiling tb p = 65535
