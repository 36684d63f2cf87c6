-- The loop keeps the highest byte 1 of the records passed.
use mathlib.Core.Bool.{Bool, true, false}
use mathlib.Core.Path.{◌≡◌, refl, sym, ap, ap₂, ◌∙◌}
use Prim.Native.Nat.{ℕ, suc, max}
use native.Mathlib.Numerals.{add-one}
use native.Mathlib.Omega.{arith}
use lib.Dec.{ltb}
use borrow.Author.Tests.{ltb-true, ltb-false}
use Rattle.meaning.specs.Table.{table}
use Rattle.records.proofs.Columns.{inside}
use Rattle.rows.specs.Extent.{larger_of, top, extent_of}
use Rattle.rows.proofs.extent.Goals as goal

-- The larger of two numbers, by its test.
larger : (a b : ℕ) → max b a ≡ larger_of a b
larger a b = go (ltb a b) refl
  where
    go : (x : Bool) → ltb a b ≡ x → max b a ≡ larger_of a b
    go true e = rw e (omega (arith, ltb-true a b e))
    go false e = rw e (omega (arith, ltb-false a b e))

pub loop-r-init : goal.loop-r-init
unfolding top
loop-r-init c = (refl, omega arith)

pub loop-r-preserved : goal.loop-r-preserved
unfolding top
loop-r-preserved c =
    let at = c.loop-r in (
      c.max-high.ensures ∙ larger at.high _
          ∙ ap₂ larger_of at.invariant.0 (inside c.args.t.now at.r (omega arith)).one
          ∙ ap (top (table c.args.t.now)) (sym (add-one at.r)),
      omega arith,
    )

pub returns : goal.returns
unfolding table extent_of
returns c =
    let at = c.loop-r in
    let bs = c.args.t.now in
    let all : at.r ≡ (table bs).records = omega (arith, c.loop-r-test.false, at.auto) in
    add-one c.from.result ∙ ap suc (c.from.ensures ∙ at.invariant.0 ∙ ap (top (table bs)) all)
