-- The loop keeps that no record passed is strange.
use mathlib.Core.Bool.{Bool, ◌&&◌}
use mathlib.Core.Logic.{⊎_elim}
use mathlib.Core.List.{List}
use mathlib.Core.Path.{◌≡◌, sym, ap, ◌∙◌}
use Prim.Native.Nat.{ℕ, ◌+◌, ◌*◌}
use native.Mathlib.Numerals.{add-one}
use native.Mathlib.Omega.{arith}
use lib.ListN.{take, drop}
use Rattle.meaning.specs.Below.{some}
use Rattle.meaning.specs.Bytes.{number, bit}
use Rattle.meaning.proofs.Below.{last, first_is, first_none}
use Rattle.summary.specs.Parts.{strange_by}
use Rattle.summary.proofs.Counting.{word_read}
use Rattle.summary.proofs.first_strange.Goals as goal

-- What is asked of the record of a turn.
asked : (unknown : ℕ) (report : List ℕ) (r word : ℕ) (met : Bool)
    → word ≡ number (take 8 (drop (24 * r + 0) report)) → met ≡ some 64 (λ k. bit word k && bit unknown k)
    → met ≡ strange_by unknown report r
unfolding strange_by
asked unknown report r word met reads meets =
    meets ∙ ap (λ (x : ℕ). some 64 (λ k. bit x k && bit unknown k)) (word_read report r word reads)

pub returns-then-meet : goal.returns-then-meet
returns-then-meet c =
    let at = c.loop-r in
    let a = c.args in
    let strange = sym (asked a.unknown a.report.now at.r _ _ c.eight.ensures c.meet.ensures) ∙ c.if-meet.true in
    (omega arith, first_is _ _ at.r (omega arith) strange at.invariant)

pub loop-r-preserved : goal.loop-r-preserved
loop-r-preserved c =
    let at = c.loop-r in
    let a = c.args in
    λ j h.
    ⊎_elim
    (λ (z : j ≡ at.r).
    ap (strange_by a.unknown a.report.now) z
    ∙ sym (asked a.unknown a.report.now at.r _ _ c.eight.ensures c.meet.ensures) ∙ c.if-meet.false)
    (at.invariant j) (last (rw add-one at h))

pub returns : goal.returns
returns c =
    let at = c.loop-r in
    first_none _ _ (λ j h. at.invariant j (omega (arith, h)))
