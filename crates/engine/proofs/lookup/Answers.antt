-- `engine::lookup` meets its contract: each return is one of the two cases of the definition, and stands where the
-- code cut it.
use mathlib.Core.Logic.{inl, inr}
use mathlib.Core.Path.{◌≡◌, refl, sym, ap, ◌∙◌}
use Prim.Native.Nat.{ℕ, ◌+◌, ◌-◌, ◌*◌, ◌≤◌}
use native.Mathlib.Omega.{arith}
use lib.ListN.{length, take, drop}
use Rattle.meaning.proofs.Outcomes.{lookup_whole, lookup_none}
use Rattle.meaning.proofs.Shows.{nonzero}
use Rattle.engine.proofs.lookup.Goals as goal

pub returns-then-cycle-eq0 : goal.returns-then-cycle-eq0
returns-then-cycle-eq0 c =
    let none = lookup_none c.args.report.now c.args.cycle (inl (omega (arith, c.if-cycle-eq0.true))) in
    record { part_is = sym none.0; block_is = refl; byte_is = omega (arith, none.1) }

pub returns-then-cycle-report : goal.returns-then-cycle-report
returns-then-cycle-report c =
    let cycle = c.args.cycle in
    let report = c.args.report.now in
    let width : 24 * (cycle - 1) + 24 - 24 * (cycle - 1) ≡ 24 = omega arith in
    let some_cycle : 1 ≤ cycle = nonzero cycle c.if-cycle-eq0.false in
    let room : 24 * cycle ≤ length report = omega (arith, c.if-cycle-report.true) in
    let found = lookup_whole report cycle some_cycle room in
    record {
      part_is = ap (λ (n : ℕ). take n (drop (24 * (cycle - 1)) report)) width
          ∙ sym found.0;
      block_is = refl;
      byte_is = omega (arith, found.2);
    }

pub returns : goal.returns
returns c =
    let none = lookup_none c.args.report.now c.args.cycle (inr (omega (arith, c.if-cycle-report.false))) in
    record { part_is = sym none.0; block_is = refl; byte_is = omega (arith, none.1) }
