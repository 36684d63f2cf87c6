-- `pair_up`: with whom each is, or is to be among the others left, stays the same from turn to turn.
use mathlib.Core.Path.{◌∙◌}
use native.Mathlib.Omega.{arith}
use lib.ListN.{length-set}
use Rattle.meaning.specs.Bytes.{bit}
use Rattle.meaning.proofs.Below.{first_before}
use Rattle.conflict.proofs.Takers.{paired, all_paired}
use Rattle.conflict.proofs.pair_up.Goals as goal

pub loop-i-preserved : goal.loop-i-preserved
loop-i-preserved c =
    let at = c.loop-i in
    let k = c.in-Some.ensures.steps in (
      length-set at.pairs c.in-Some.i c.union.result ∙ at.invariant.0,
      λ i j.
          paired at.others.left c.in-Some.i c.next.new.self.left k.member
          (λ j h. first_before 64 (bit at.others.left) j (rw k.lowest at h)) k.less at.pairs c.union.result
          (omega (arith, k.low, at.invariant.0)) c.union.ensures i j
          ∙ at.invariant.1 i j,
    )

pub returns : goal.returns
returns c =
    let at = c.loop-i in
    let none = c.in_default.ensures.steps.0 in
    record {
      size = at.invariant.0;
      holds = λ i j h l. all_paired at.pairs at.others.left i j none ∙ at.invariant.1 i j;
    }
