-- The loop keeps how often each transition fired in the records passed; the cycles are written last.
use mathlib.Core.Bool.{cond}
use mathlib.Core.Path.{◌≡◌, sym, ap, ap₂, ◌∙◌}
use Prim.Native.Nat.{ℕ, suc, ◌+◌, ◌/◌}
use native.Mathlib.Numerals.{add-one}
use native.Mathlib.Omega.{arith}
use lib.ListN.{length, length-set, length-replicate, get_or-replicate}
use lib.Seq.{get_or-set_same, get_or-set_other}
use Rattle.meaning.specs.Below.{sum}
use Rattle.meaning.specs.Bytes.{bit}
use Rattle.summary.specs.Day.{fired_word, times}
use Rattle.summary.proofs.Sums.{sum_most}
use Rattle.summary.proofs.Counting.{word_read, times_more}
use Rattle.summary.proofs.Reports.{summary_is}
use Rattle.summary.proofs.summarize.Goals as goal

pub loop-r-init : goal.loop-r-init
unfolding times sum
loop-r-init c = (length-replicate {A = ℕ} 65 0, λ k l. get_or-replicate {A = ℕ} 65 (suc k) 0 0 (omega (arith, l)))

pub tick-requires : goal.tick-requires
unfolding times
tick-requires c =
    let at = c.loop-r in
    record {
      size = at.invariant.0;
      room =
          λ k l.
          omega (
            arith,
            at.invariant.1 k l,
            sum_most at.r (λ r. bit (fired_word c.args.report.now r) k),
            c.requires,
          );
    }

pub loop-r-preserved : goal.loop-r-preserved
loop-r-preserved c =
    let at = c.loop-r in
    let report = c.args.report.now in (
      c.tick.ensures.size,
      λ k l.
          c.tick.ensures.counted k l
          ∙ ap₂ (λ (n x : ℕ). n + cond (bit x k) 1 0) (at.invariant.1 k l) (word_read report at.r _ c.eight.ensures)
          ∙ sym (times_more report at.r k)
          ∙ ap (λ (n : ℕ). times report n k) (sym (add-one at.r)),
    )

pub returns : goal.returns
returns c =
    let at = c.loop-r in
    let report = c.args.report.now in
    let all : at.r ≡ length report / 24 = omega arith in
    let long = at.invariant.0 in
    summary_is report _ (length-set at.counts 0 _ ∙ long)
    (get_or-set_same at.counts 0 _ 0 (omega (arith, long)))
    (λ k l.
    get_or-set_other at.counts 0 (suc k) _ 0 (λ z. omega (arith, z))
    ∙ at.invariant.1 k l
    ∙ ap (λ (n : ℕ). times report n k) all)
