-- The loop keeps that no place before p is isolated, and that the set has the transitions of their arcs; of the
-- transitions then the lowest without an arc.
use mathlib.Core.Bool.{Bool, not, ◌&&◌, ◌||◌}
use mathlib.Core.List.{List}
use mathlib.Core.Path.{◌≡◌, sym, ◌∙◌}
use Prim.Native.Nat.{ℕ, ◌<◌}
use native.Mathlib.Nat.{not-suc-le-zero}
use native.Mathlib.Omega.{arith}
use borrow.Author.Count.{below_more}
use Rattle.meaning.specs.Below.{some}
use Rattle.meaning.specs.Bytes.{bit}
use Rattle.meaning.proofs.Below.{first_is}
use Rattle.sets.proofs.Bits.{bit_zero}
use Rattle.rows.specs.declared.Declared.{Declared}
use Rattle.rows.specs.Rows.{inputs, givers, has}
use Rattle.named.specs.Named.{isolated_in}
use Rattle.named.proofs.Walks.{arcs_some, more_arcs, isolated_place, none_isolated, isolated_transition}
use Rattle.named.proofs.first_isolated.Goals as goal

pub loop-p-init : goal.loop-p-init
unfolding some
loop-p-init c = (λ j h. absurd (not-suc-le-zero h), bit_zero)

-- Whether place p is isolated.
bare_is : (rows : List ℕ) (k : Declared) (p arcs : ℕ) {r : Bool} → p < 128 → r ≡ (has k p && not (some 64 (bit arcs)))
    → ((t : ℕ) → bit arcs t ≡ (bit (inputs rows p) t || bit (givers rows p) t)) → r ≡ isolated_in rows k p
bare_is rows k p arcs low is arcs_is = is ∙ rw (arcs_some rows p arcs arcs_is) (isolated_place rows k p low)

pub returns-then-bare : goal.returns-then-bare
returns-then-bare c =
    let at = c.loop-p in
    let low : at.p < 128 = omega (arith, c.requires.0.few) in
    let under : at.p < 192 = omega arith in
    let bare = bare_is _ _ at.p _ low c.bare.ensures c.union-arcs.ensures in
    (under, first_is 192 _ at.p under (sym bare ∙ c.if-bare.true) at.invariant.0)

pub loop-p-preserved : goal.loop-p-preserved
loop-p-preserved c =
    let at = c.loop-p in
    let rows = c.args.rows.now in
    let low : at.p < 128 = omega (arith, c.requires.0.few) in
    let bare = bare_is rows c.args.k at.p _ low c.bare.ensures c.union-arcs.ensures in (
      below_more _ _ at.invariant.0 (sym bare ∙ c.if-bare.false),
      more_arcs rows at.p c.union-arcs.result c.union-arcs.ensures at.arced c.union-arced.result at.invariant.1
          c.union-arced.ensures,
    )

pub returns-in_err-alone : goal.returns-in_err-alone
returns-in_err-alone c =
    let at = c.loop-p in
    rw c.from_residual.ensures
    (none_isolated _ _ at.p at.arced c.requires.0 c.loop-p-test.false at.invariant.0 at.invariant.1
    c.less.result c.less.ensures (omega (arith, c.requires.0.few)) c.in_err-alone.ensures)

pub returns : goal.returns
returns c =
    let at = c.loop-p in
    isolated_transition _ _ at.p at.arced c.requires.0 c.loop-p-test.false at.invariant.0 at.invariant.1
    c.less.result c.less.ensures (omega (arith, c.requires.0.few)) c.in_ok-alone.ensures
