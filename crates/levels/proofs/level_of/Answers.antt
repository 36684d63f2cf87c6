-- The loop keeps the level of the tokens at the arcs that are asked: those whom they stop are held back, and none of
-- their weights is passed.
use mathlib.Core.Bool.{Bool, true, ◌&&◌, ◌||◌}
use mathlib.Core.Path.{◌≡◌, refl, ◌∙◌}
use Prim.Native.Nat.{ℕ}
use native.Mathlib.Omega.{arith}
use lib.ListN.{get_or}
use Rattle.std.proofs.lemmas.Bool.Decides.{nat_tests}
use Rattle.meaning.specs.Bytes.{bit}
use Rattle.meaning.proofs.Fired.{and_same}
use Rattle.sets.proofs.Bits.{bit_zero}
use Rattle.sets.proofs.Taking.{out_more, kept}
use Rattle.levels.specs.Levels.{stops_of, lacks_of}
use Rattle.levels.proofs.Sides.{KeepsSide, same_stops, same_lacks}
use Rattle.levels.proofs.level_of.Goals as goal

-- With nothing left all that pass are kept.
all_in : (f : ℕ → Bool) (arcs left r t : ℕ) → left ≡ 0 → (bit r t || (bit left t && f t)) ≡ (bit arcs t && f t)
    → bit r t ≡ (bit arcs t && f t)
all_in f arcs left r t e q = grind (arith, bit_zero t)

pub loop-t-preserved : goal.loop-t-preserved
loop-t-preserved c =
    let at = c.loop-t in
    let a = c.args in
    let turn = c.in-Some.ensures.steps in
    let y = c.narrowed-x.ensures in
    record {
      roof = omega arith;
      low = y.still_from at.invariant.low;
      high = y.still_upto at.invariant.high;
      some_token = grind arith;
      no_token = grind arith;
      held_is = λ t.
          kept _ _ _ turn.less (stops_of a.w.now a.s.now a.tokens) at.x.held
          c.narrowed-x.result.held _ turn.member refl y.held_is t
          ∙ at.invariant.held_is t;
      lacks_is = λ t.
          kept _ _ _ turn.less (lacks_of a.w.now a.s.now a.tokens) at.x.lacks
          c.narrowed-x.result.lacks _ turn.member refl y.lacks_is t
          ∙ at.invariant.lacks_is t;
      sides =
          out_more _ _ _ turn.less _
          (λ t out e.
          let side = at.invariant.sides t out e in
          record { reached = grind arith; missed = grind arith })
          (λ e. record { reached = y.reached; missed = y.missed });
    }

pub returns : goal.returns
returns c =
    let at = c.loop-t in
    let a = c.args in
    let inv = at.invariant in
    let side : (t : ℕ) → bit a.arcs t ≡ true
    → KeepsSide a.tokens (get_or a.w.now t 0) at.x.from at.x.upto
    = λ t e. inv.sides t (rw c.in-None.ensures.steps.0 (bit_zero t)) e in
    record {
      roof = inv.roof;
      inside = (inv.low, inv.high);
      empty = λ k l h. grind (arith, nat_tests);
      held_is = λ k l h t.
          all_in (stops_of a.w.now a.s.now a.tokens) a.arcs _ at.x.held t
          c.in-None.ensures.steps.0 (inv.held_is t)
          ∙ and_same (bit a.arcs t) _ _ (λ e. same_stops (side t e) k l h (get_or a.s.now t 0));
      lacks_is = λ k l h t.
          all_in (lacks_of a.w.now a.s.now a.tokens) a.arcs _ at.x.lacks t
          c.in-None.ensures.steps.0 (inv.lacks_is t)
          ∙ and_same (bit a.arcs t) _ _ (λ e. same_lacks (side t e) k l h (get_or a.s.now t 0));
    }
