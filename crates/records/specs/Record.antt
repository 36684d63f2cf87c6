-- A record's columns, and the answers 2 and 3 for it.
use Rattle.std.specs.Prelude.{Bool, cond, List, [], ◌∷◌, map, ◌≡◌, ℕ}
use Rattle.meaning.specs.Table.{Table, kinds}
use Rattle.meaning.specs.Defined.{bad_kind, bad_field, interval}
use Rattle.records.specs.declared.Rec.{Rec}

-- The columns of x are those of record r.
pub record Reads (tb : Table) (r : ℕ) (x : Rec) : Type 0 where
  pub kind : x.kind ≡ tb.kind r
  pub one : x.one ≡ tb.one r
  pub two : x.two ≡ tb.two r
  pub sort : x.sort ≡ tb.sort r
  pub four : x.four ≡ tb.four r
  pub six : x.six ≡ tb.six r

-- The table with x as its one record.
abbrev pub alone : Rec → Table
alone x =
    record {
      records = 1;
      kind = λ r. x.kind;
      one = λ r. x.one;
      two = λ r. x.two;
      sort = λ r. x.sort;
      four = λ r. x.four;
      six = λ r. x.six;
    }

-- The table of kinds as rows of numbers: byte 1, byte 2, sort, bytes 4-5, bytes 6-7.
unfoldable pub kind_rows : List (List ℕ)
kind_rows = map (λ r. r.one ∷ r.two ∷ r.sort ∷ r.four ∷ r.six ∷ []) kinds

-- A transition of this sort may have this a and b.
unfoldable pub interval_of : ℕ → ℕ → ℕ → Bool
interval_of s a b =
    interval (alone (record { kind = 2; one = 0; two = 0; sort = s; four = a; six = b })) 0

-- 2 or 3, the first that the record meets, or 0.
unfoldable pub fault_of : Rec → ℕ
fault_of x = cond (bad_kind (alone x) 0) 2 (cond (bad_field (alone x) 0) 3 0)
