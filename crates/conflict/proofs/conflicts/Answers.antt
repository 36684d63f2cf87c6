-- `conflicts`: after p places the rows have each two who take from one of these; from place n on nobody takes.
use mathlib.Core.Bool.{◌&&◌, and-false}
use mathlib.Core.Path.{◌≡◌, sym, ap, ◌∙◌}
use Prim.Native.Nat.{ℕ}
use native.Mathlib.Numerals.{add-one}
use native.Mathlib.Omega.{arith}
use lib.Dec.{ltb}
use lib.ListN.{length, replicate, length-replicate}
use Rattle.meaning.specs.Below.{some}
use Rattle.meaning.specs.Bytes.{bit}
use Rattle.sets.proofs.Bits.{bit_zero}
use Rattle.sets.proofs.Rows.{all_zero}
use Rattle.rows.specs.Rows.{takers}
use Rattle.sets.proofs.Some.{some_short}
use Rattle.std.proofs.lemmas.Bool.Decides.{nat_tests}
use Rattle.conflict.proofs.conflicts.Goals as goal

pub loop-p-init : goal.loop-p-init
unfolding some
loop-p-init c =
    let pre = c.requires in
    let pairs = c.args.pairs.now in
    let size : length pairs ≡ 64 = ap length pre.1 ∙ length-replicate {A = ℕ} 64 0 in (
      size,
      λ i j h l.
          ap (λ (x : ℕ). bit x j) (all_zero pairs (pre.1 ∙ ap (λ (x : ℕ). replicate x 0) (sym size)) i) ∙ bit_zero j
          ∙ sym (and-false (ltb i j)),
    )

pub loop-p-preserved : goal.loop-p-preserved
unfolding some
loop-p-preserved c =
    let paired = c.pair_up.ensures in
    (paired.size, λ i j h l. rw add-one (grind (arith, nat_tests, paired.holds i j h l, c.loop-p.invariant.1 i j h l)))

pub returns : goal.returns
returns c =
    let at = c.loop-p in
    let rows = c.args.rows.now in
    record {
      size = at.invariant.0;
      holds = λ i j h l.
          at.invariant.1 i j h l
          ∙ ap (λ b. ltb i j && b)
          (some_short at.p 128 (λ p. bit (takers rows p) i && bit (takers rows p) j) (omega arith)
          (λ p past m. rw (c.requires.0.no_taker p i (omega arith) m h)));
    }
