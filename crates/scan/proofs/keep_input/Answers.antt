-- The arc is among the input arcs of its place, and among the takers if it is basic; its weight and its sort are
-- stored in its cell.
use mathlib.Core.Bool.{◌||◌}
use mathlib.Core.Path.{◌≡◌, ◌∙◌}
use Prim.Native.Nat.{ℕ, ◌<◌}
use native.Mathlib.Omega.{arith}
use lib.Dec.{eqb}
use lib.ListN.{length, length-set}
use borrow.Author.Tests.{ne_eqb, lt-ltb}
use Rattle.records.specs.declared.Rec.{Rec}
use Rattle.records.specs.Record.{alone}
use Rattle.rows.specs.Filed.{kept_in}
use Rattle.scan.specs.Scan.{Kept}
use Rattle.scan.proofs.Slots.{by_row, kept_one, kept_two}
use Rattle.scan.proofs.keep_input.Goals as goal
use Rattle.scan.proofs.keep_input.Goals.{then-x-eq0, else-x-eq0}

-- Row 0 keeps an input arc, and row 1 too if it is basic.
basic_rows : (x : Rec) → x.kind ≡ 3 → x.sort ≡ 0 → (c : ℕ) → c < 8 → kept_in (alone x) c 0 ≡ (eqb 0 c || eqb 1 c)
unfolding kept_in
basic_rows x k s =
    by_row (λ c. kept_in (alone x) c 0 ≡ (eqb 0 c || eqb 1 c)) (rw (k, s)) (rw (k, s)) (rw (k, s)) (rw k) (rw k) (rw k)
    (rw k) (rw k)

other_rows : (x : Rec) → x.kind ≡ 3 → x.sort < 3 → ¬ (x.sort ≡ 0) → (c : ℕ) → c < 8 → kept_in (alone x) c 0 ≡ eqb 0 c
unfolding kept_in
other_rows x k low n =
    let no : ¬ (x.sort ≡ 3) = λ z. omega (arith, z, low) in
    by_row (λ c. kept_in (alone x) c 0 ≡ eqb 0 c) (rw (k, lt-ltb x.sort 3 low)) (rw (k, ne_eqb x.sort 0 n))
    (rw (k, ne_eqb x.sort 3 no))
    (rw k) (rw k) (rw k) (rw k) (rw k)

-- The rows after both ways.
pub returns-clause-input_kept : goal.returns-clause-input_kept
returns-clause-input_kept c =
    let x = c.args.x in
    let rows = c.args.rows.now in
    let p : c.from-p.result ≡ x.one = c.from-p.ensures in
    let t : c.from-t.result ≡ x.two = c.from-t.ensures in
    let first = c.enter.ensures.entered in
    let rows_kept : Kept x rows c.if-x-eq0.rows × (length c.if-x-eq0.rows ≡ length rows) =
    elim c.if-x-eq0.branch [
      | then-x-eq0 w ↦
          rw w.rows-is (
            kept_two x rows first (omega (arith, p)) t (omega arith) w.enter-then-x-eq0.ensures.entered
                (omega (arith, p)) t (omega arith) (basic_rows x c.requires.kind_value.0 w.if-x-eq0.true),
            w.enter-then-x-eq0.ensures.entered.size ∙ first.size,
          )
      | else-x-eq0 w ↦
          rw w.rows-is (
            kept_one x rows first (omega (arith, p)) t (omega arith)
                (other_rows x c.requires.kind_value.0 c.requires.kind_value.1 w.if-x-eq0.false),
            first.size,
          )
    ] in
    record {
      size = rows_kept.1;
      weights_size = length-set c.args.w.now _ _;
      sorts_size = length-set c.args.s.now _ _;
      kept = λ e. rows_kept.0;
      weight = λ e. rw (p, t);
      sort = λ e. rw (p, t);
    }
