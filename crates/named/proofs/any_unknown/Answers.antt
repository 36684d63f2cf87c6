-- A lost place is unknown; else the loop keeps that the set has the transitions of all arcs and those that the ones
-- before t name.
use mathlib.Core.Bool.{not, or-false, not-not}
use mathlib.Core.Path.{◌≡◌, refl, sym, ap, ◌∙◌}
use native.Mathlib.Omega.{arith}
use Rattle.meaning.specs.Below.{some}
use Rattle.meaning.specs.Bytes.{bit}
use Rattle.meaning.proofs.Below.{some_same}
use Rattle.rows.specs.Rows.{below, transitions_below}
use Rattle.sets.proofs.Bits.{zero_set}
use Rattle.named.specs.Named.{arc_bit, own_named, unknown_in}
use Rattle.named.proofs.Walks.{more_named}
use Rattle.named.proofs.any_unknown.Goals as goal

pub loop-t-init : goal.loop-t-init
unfolding some
loop-t-init c = λ j. c.in-Some.ensures.1 j ∙ sym (or-false _)

pub loop-t-preserved : goal.loop-t-preserved
loop-t-preserved c =
    let at = c.loop-t in
    let rows = c.args.rows.now in
    let first = c.union.ensures in
    let own : some 64 (bit c.union-own.result) ≡ own_named rows at.t =
    some_same 64 _ _ (λ y _. c.union-own.ensures y ∙ rw (first y)) in
    λ j.
    more_named rows at.t j (some c.args.n (λ p. arc_bit rows p j)) (bit (below rows at.t) j)
    (some 64 (bit c.union-own.result)) (at.invariant j) own refl
    (c.with_namer.ensures j) (c.union-named.ensures j)

pub returns : goal.returns
unfolding unknown_in
returns c =
    let at = c.loop-t in
    let all : at.t ≡ transitions_below c.args.n = omega (arith, c.transitions-t-end.ensures) in
    ap not (zero_set c.less.result (omega arith))
    ∙ not-not (some 64 (bit c.less.result))
    ∙ rw c.in-Some.ensures.0 (some_same 64 _ _ (λ j _. c.less.ensures j ∙ rw (at.invariant j, all)))
