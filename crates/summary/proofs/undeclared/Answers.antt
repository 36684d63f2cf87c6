-- The loop keeps the transitions that no record passed declares.
use mathlib.Core.Bool.{Bool, not, ◌&&◌, and-true}
use mathlib.Core.Path.{◌≡◌, sym, ap, ap₂, ◌∙◌}
use Prim.Native.Nat.{ℕ}
use native.Mathlib.Numerals.{add-one}
use native.Mathlib.Omega.{arith}
use lib.Dec.{eqb}
use Rattle.meaning.specs.Below.{some}
use Rattle.meaning.specs.Bytes.{bit}
use Rattle.meaning.specs.Table.{table, is, transition}
use Rattle.records.proofs.Columns.{inside}
use Rattle.summary.proofs.Counting.{ones, struck_more}
use Rattle.summary.proofs.undeclared.Goals as goal

pub loop-r-init : goal.loop-r-init
unfolding some
loop-r-init c k = sym (and-true _)

pub loop-r-preserved : goal.loop-r-preserved
unfolding some
loop-r-preserved c k =
    let at = c.loop-r in
    let t = c.args.t.now in
    let read = inside t at.r (omega arith) in
    c.struck-left.ensures k
    ∙ ap₂ (λ (a b : Bool). a && not b) (at.invariant k)
    (ap₂ (λ (kind one : ℕ). eqb kind 2 && eqb one k) read.kind read.one)
    ∙ struck_more (bit 18446744073709551615 k) (some at.r (λ q. is (table t) 2 q && eqb ((table t).one q) k))
    (is (table t) 2 at.r && eqb ((table t).one at.r) k)
    ∙ ap (λ (n : ℕ). bit 18446744073709551615 k && not (some n (λ q. is (table t) 2 q && eqb ((table t).one q) k)))
    (sym (add-one at.r))

pub returns : goal.returns
unfolding table transition
returns c k l =
    let at = c.loop-r in
    let t = c.args.t.now in
    let all : at.r ≡ (table t).records = omega arith in
    at.invariant k
    ∙ ap₂ (λ (b : Bool) (n : ℕ). b && not (some n (λ q. is (table t) 2 q && eqb ((table t).one q) k))) (ones k l) all
