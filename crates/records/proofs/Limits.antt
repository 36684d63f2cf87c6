-- The constant rows are the columns of the table of kinds, so the tests on them are those of the meaning.
use mathlib.Core.Bool.{Bool, false, cond, ◌&&◌, ◌||◌, not, or_assoc}
use mathlib.Core.List.{[]}
use mathlib.Core.Path.{◌≡◌, refl}
use Prim.Native.Nat.{ℕ, zero, suc, ◌-◌, ◌≤◌}
use lib.Dec.{ltb, eqb}
use lib.ListN.{get_or}
use borrow.Author.Tests.{le-ltb, ne_eqb}
use Rattle.meaning.specs.Table.{Row, row, kinds, kind_row}
use Rattle.meaning.specs.Defined.{bad_kind, bad_field, interval}
use Rattle.records.specs.declared.Rec.{Rec}
use Rattle.records.specs.Record.{alone, kind_rows, interval_of, fault_of}

-- What stands in the row of kind k + 1.
abbrev pub limit : ℕ → ℕ → ℕ
limit k j = get_or (get_or kind_rows k []) j 0

-- It is what the table of kinds has there.
pub columns : (k : ℕ)
    → let r = get_or kinds k (row 0 0 0 0 0) in
    (limit k 0 ≡ r.one) × (limit k 1 ≡ r.two) × (limit k 2 ≡ r.sort) × (limit k 3 ≡ r.four) × (limit k 4 ≡ r.six)
unfolding kind_rows kinds
columns zero = (refl, refl, refl, refl, refl)
columns (suc zero) = (refl, refl, refl, refl, refl)
columns (suc (suc zero)) = (refl, refl, refl, refl, refl)
columns (suc (suc (suc zero))) = (refl, refl, refl, refl, refl)
columns (suc (suc (suc (suc zero)))) = (refl, refl, refl, refl, refl)
columns (suc (suc (suc (suc (suc zero))))) = (refl, refl, refl, refl, refl)
columns (suc (suc (suc (suc (suc (suc zero)))))) = (refl, refl, refl, refl, refl)
columns (suc (suc (suc (suc (suc (suc (suc k))))))) = (refl, refl, refl, refl, refl)

-- An interval that starts at 0 is of sort 0 alone, and there is no sort above 2.
pub no_start : (s b : ℕ) → (s ≡ 0 → ⊥) → interval_of s 0 b ≡ false
unfolding interval_of interval
no_start zero b h = absurd (h refl)
no_start (suc zero) b h = refl
no_start (suc (suc zero)) b h = refl
no_start (suc (suc (suc s))) b h = refl

pub no_sort : (s a b : ℕ) → (s ≡ 0 → ⊥) → (s ≡ 1 → ⊥) → (s ≡ 2 → ⊥) → interval_of s a b ≡ false
unfolding interval_of interval
no_sort zero a b h i j = absurd (h refl)
no_sort (suc zero) a b h i j = absurd (i refl)
no_sort (suc (suc zero)) a b h i j = absurd (j refl)
no_sort (suc (suc (suc s))) a b h i j = refl

-- What the two tests of a record say gives its number.
pub verdict : (x : Rec) (k f : Bool) → bad_kind (alone x) 0 ≡ k → bad_field (alone x) 0 ≡ f
    → cond k 2 (cond f 3 0) ≡ fault_of x
unfolding fault_of
verdict x k f p q = rw (p, q)

-- A column is above the row.
abbrev exceeds : Row → Rec → Bool
exceeds r x = ltb r.one x.one || ltb r.two x.two || ltb r.four x.four || ltb r.six x.six

-- A record whose kind is from 1 to 7, with its kind counted as w.
module _ (x : Rec) (w : ℕ) (e : w ≡ x.kind) where
  -- Its sort is tested against the row of its kind.
  pub sort_tested : (x.kind ≡ 0 → ⊥) → x.kind ≤ 7 → ltb (limit (w - 1) 2) x.sort ≡ bad_kind (alone x) 0
  unfolding bad_kind
  sort_tested p h = rw (e, ne_eqb x.kind 0 p, le-ltb 7 x.kind h, (columns (x.kind - 1)).2)

  -- And so are its other columns, which with the test of its values is the test of its fields.
  pub fields_tested : (v : Bool)
      → v ≡ ((eqb x.kind 3 && eqb x.four 0)
      || (eqb x.kind 2 && not (interval_of x.sort x.four x.six)))
      → (o : Bool)
      → o ≡ exceeds (row (limit (w - 1) 0) (limit (w - 1) 1) (limit (w - 1) 2) (limit (w - 1) 3) (limit (w - 1) 4)) x
      → bad_field (alone x) 0 ≡ (o || v)
  unfolding bad_field interval_of interval
  fields_tested v p o q =
      let c = columns (x.kind - 1) in
      rw (or_assoc (exceeds (kind_row (alone x) 0) x), p, q, e, c.0, c.1, c.3, c.4)
