-- The loop keeps that no place before p is lost, and that the set has the transitions of their arcs.
use mathlib.Core.Bool.{Bool, not, ◌&&◌, ◌||◌}
use mathlib.Core.List.{List}
use mathlib.Core.Path.{◌≡◌, refl, sym, ap, ◌∙◌}
use Prim.Native.Nat.{ℕ}
use native.Mathlib.Numerals.{add-one}
use Rattle.meaning.specs.Below.{some}
use Rattle.meaning.specs.Bytes.{bit}
use Rattle.meaning.proofs.Below.{some_intro}
use Rattle.sets.proofs.Bits.{bit_zero}
use Rattle.rows.specs.declared.Declared.{Declared}
use Rattle.rows.specs.Rows.{inputs, givers, actions, has}
use Rattle.named.specs.Named.{lost_place}
use Rattle.named.proofs.Walks.{named_some, more_arcs}
use Rattle.named.proofs.walk.Goals as goal

pub loop-p-init : goal.loop-p-init
unfolding some
loop-p-init c = (refl, bit_zero)

-- Whether place p is lost.
lost_is : (rows : List ℕ) (k : Declared) (p arcs by : ℕ) {r : Bool} → r ≡ (some 64 (bit by) && not (has k p))
    → ((t : ℕ) → bit arcs t ≡ (bit (inputs rows p) t || bit (givers rows p) t))
    → ((t : ℕ) → bit by t ≡ (bit arcs t || bit (actions rows p) t)) → r ≡ lost_place rows k p
lost_is rows k p arcs by is arcs_is by_is =
    is ∙ ap (λ (b : Bool). b && not (has k p)) (named_some rows p arcs arcs_is by by_is)

pub returns-then-lost : goal.returns-then-lost
returns-then-lost c =
    let at = c.loop-p in
    let lost = lost_is _ _ at.p _ _ c.lost.ensures c.union-arcs.ensures c.union.ensures in
    some_intro _ _ at.p c.loop-p-test.true (sym lost ∙ c.if-lost.true)

pub loop-p-preserved : goal.loop-p-preserved
unfolding some
loop-p-preserved c =
    let at = c.loop-p in
    let rows = c.args.rows.now in
    let lost = lost_is rows c.args.k at.p _ _ c.lost.ensures c.union-arcs.ensures c.union.ensures in (
      rw (add-one at.p, at.invariant.0) (sym lost ∙ c.if-lost.false),
      more_arcs rows at.p c.union-arcs.result c.union-arcs.ensures at.arced c.union-arced.result at.invariant.1
          c.union-arced.ensures,
    )
