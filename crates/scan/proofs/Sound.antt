-- A record whose own columns are in order is one that the page shows, so its numbers are in range; what is left of its
-- fault is whether an earlier one says the same.
use mathlib.Core.Bool.{Bool, true, false, cond}
use mathlib.Core.Path.{◌≡◌, refl}
use Prim.Native.Nat.{ℕ, ◌≤◌, ◌<◌}
use native.Mathlib.Omega.{arith}
use Rattle.std.proofs.lemmas.Grind.{common_steps}
use Rattle.meaning.specs.Table.{Table}
use Rattle.meaning.specs.Defined.{bad_kind, bad_field, interval, twice, fault}
use Rattle.meaning.proofs.Shows.{Shows, shows}
use Rattle.meaning.proofs.Same.{of_kind, shown_transition, shown_arc}
pub use Rattle.rows.proofs.Shown.{one_low, two_low}
use Rattle.records.specs.declared.Rec.{Rec}
use Rattle.records.specs.Record.{Reads, alone, interval_of, fault_of}

-- The test of an interval looks at its three columns.
interval_columns : (tb : Table) (r : ℕ) → interval tb r ≡ interval_of (tb.sort r) (tb.four r) (tb.six r)
unfolding interval interval_of
interval_columns tb r = refl

module _ (tb : Table) (r : ℕ) (x : Rec) (reads : Reads tb r x) where
  -- The tests of its own columns are those of the table's record.
  kind_read : bad_kind (alone x) 0 ≡ bad_kind tb r
  unfolding bad_kind
  kind_read = rw (reads.kind, reads.sort)

  field_read : bad_field (alone x) 0 ≡ bad_field tb r
  unfolding bad_field
  field_read =
      rw (
        interval_columns (alone x) 0,
        interval_columns tb r,
        reads.kind,
        reads.one,
        reads.two,
        reads.sort,
        reads.four,
        reads.six,
      )

  -- Its fault where its columns have one; else it is shown, and what is left is whether it stands there twice.
  pub own_fault : (fault_of x ≡ 0 → ⊥) → fault tb r ≡ fault_of x
  unfolding fault fault_of
  own_fault n =
      let kind = kind_read in
      let field = field_read in
      grind (arith, common_steps)

  pub in_order : fault_of x ≡ 0 → Shows tb r × (fault tb r ≡ cond (twice tb r) 4 0)
  unfolding fault fault_of
  in_order = rw (kind_read, field_read) (go (bad_kind tb r) (bad_field tb r) refl refl)
    where
      go : (k f : Bool) → bad_kind tb r ≡ k → bad_field tb r ≡ f → ◌≡◌ {A = ℕ} (cond k 2 (cond f 3 0)) 0
          → Shows tb r × ◌≡◌ {A = ℕ} (cond k 2 (cond f 3 (cond (twice tb r) 4 0))) (cond (twice tb r) 4 0)
      go true f p q h = absurd (omega arith)
      go false true p q h = absurd (omega arith)
      go false false p q h = (shows tb r p q, refl)

-- So of a record by itself whose own columns are in order.
module _ (x : Rec) (sound : fault_of x ≡ 0) where
  pub shown_alone : Shows (alone x) 0
  shown_alone =
      (in_order (alone x) 0 x (record { kind = refl; one = refl; two = refl; sort = refl; four = refl; six = refl })
      sound).0

  pub one_there : x.one < 128
  one_there = one_low shown_alone

  pub two_there : x.two < 64
  two_there = two_low shown_alone

  pub sort_there : x.kind ≡ 3 → x.sort ≤ 3
  sort_there k = (shown_arc (of_kind (alone x) 0 3 shown_alone k)).2

  pub transition_there : x.kind ≡ 2 → x.one < 64
  transition_there k = omega (arith, (shown_transition (of_kind (alone x) 0 2 shown_alone k)).0)

-- What its numbers are below.
pub ruleset in_range = (one_there, two_there, sort_there, transition_there)
