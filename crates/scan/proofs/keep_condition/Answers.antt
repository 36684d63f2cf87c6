-- The condition is among those looked at, and among those wanted true where its sort says so.
use mathlib.Core.Bool.{◌||◌}
use mathlib.Core.Path.{◌≡◌, ◌∙◌}
use Prim.Native.Nat.{ℕ, ◌<◌}
use native.Mathlib.Omega.{arith}
use lib.Dec.{eqb}
use borrow.Author.Tests.{ne_eqb}
use Rattle.records.specs.declared.Rec.{Rec}
use Rattle.records.specs.Record.{alone}
use Rattle.rows.specs.Filed.{kept_in}
use Rattle.scan.proofs.Slots.{by_row, kept_one, kept_two}
use Rattle.scan.proofs.keep_condition.Goals as goal

-- Row 4 keeps a condition, and row 5 too if it is wanted true.
wanted : (x : Rec) → x.kind ≡ 4 → x.sort ≡ 0 → (c : ℕ) → c < 8 → kept_in (alone x) c 0 ≡ (eqb 4 c || eqb 5 c)
unfolding kept_in
wanted x k s =
    by_row (λ c. kept_in (alone x) c 0 ≡ (eqb 4 c || eqb 5 c)) (rw k) (rw k) (rw k) (rw k) (rw k) (rw (k, s)) (rw k)
    (rw k)

unwanted : (x : Rec) → x.kind ≡ 4 → ¬ (x.sort ≡ 0) → (c : ℕ) → c < 8 → kept_in (alone x) c 0 ≡ eqb 4 c
unfolding kept_in
unwanted x k s =
    by_row (λ c. kept_in (alone x) c 0 ≡ eqb 4 c) (rw k) (rw k) (rw k) (rw k) (rw k) (rw (k, ne_eqb x.sort 0 s))
    (rw k) (rw k)

pub returns-then-x-eq0-clause-kept : goal.returns-then-x-eq0-clause-kept
returns-then-x-eq0-clause-kept c =
    let x = c.args.x in
    let t : c.from-t.result ≡ x.one = c.from-t.ensures in
    let k : c.from-c.result ≡ x.two = c.from-c.ensures in (
      λ e. kept_two x _ c.enter.ensures.entered (omega (arith, t)) k (omega arith)
          c.enter-then-x-eq0.ensures.entered (omega (arith, t)) k (omega arith)
          (wanted x c.requires.1 c.if-x-eq0.true),
      c.enter-then-x-eq0.ensures.entered.size ∙ c.enter.ensures.entered.size,
    )

pub returns-else-x-eq0-clause-kept : goal.returns-else-x-eq0-clause-kept
returns-else-x-eq0-clause-kept c = (
  λ e. kept_one c.args.x _ c.enter.ensures.entered (omega (arith, c.from-t.ensures)) c.from-c.ensures (omega arith)
      (unwanted c.args.x c.requires.1 c.if-x-eq0.false),
  c.enter.ensures.entered.size,
)
