-- Each turn reads the number of one more record, and of a transition's whether it has a reset order; past n there is
-- nothing to read.
use mathlib.Core.Bool.{Bool, ◌||◌}
use mathlib.Core.Path.{◌≡◌, refl, ap, ◌∙◌}
use Prim.Native.Nat.{ℕ, ◌+◌, ◌<◌}
use native.Mathlib.Omega.{arith}
use lib.Dec.{eqb}
use borrow.Author.Tests.{eq-eqb, ne_eqb}
use lib.ListN.{length, set, length-set}
use Rattle.meaning.specs.Bytes.{bit}
use Rattle.meaning.specs.Image.{image, state}
use Rattle.rows.proofs.Few.{transitions_le}
use Rattle.state.proofs.Read.{Lists, empty_row, lists_none, lists_more, lists_rest, still_none, transition_third}
use Rattle.state.proofs.Read.{marked_none, marked_same, marked_more}
use Rattle.state.proofs.load.Goals as goal
use Rattle.state.proofs.load.Goals.{then-image-t-eq1, else-image-t-eq1}

pub loop-p-init : goal.loop-p-init
loop-p-init c =
    let empty = empty_row 128 _ refl in
    record { size = empty.0; listed = lists_none _ _; rest = λ i l. empty.1 i; counters = refl; orders = refl }

pub loop-t-init : goal.loop-t-init
unfolding state
loop-t-init c =
    let at = c.loop-p.invariant in
    let empty = empty_row 64 _ at.counters in
    record {
      places = at.size;
      tokens =
          lists_rest _ _ _ _ at.listed at.rest
          (λ p l h. (c.requires.blank.places p (omega (arith, l)) h).number);
      size = empty.0;
      listed = lists_none _ _;
      rest = λ i l. empty.1 i;
      marked = rw at.orders (marked_none _);
    }

-- Each turn keeps the set with the transition where its third byte is 1.
pub loop-t-preserved : goal.loop-t-preserved
unfolding state
loop-t-preserved c =
    let t = c.loop-t.t in
    let before = c.loop-t.state in
    let at = c.loop-t.invariant in
    let n = c.number-in-loop-t in
    let low : t < 64 = omega (arith, c.transitions-t-end.ensures, (transitions_le c.args.n).0) in
    let third = transition_third c.args.image.now t low in
    let size : length (set before.counters t n.result) ≡ 64 = simp length-set at.size in
    let listed : Lists (t + 1) (state (image c.args.image.now)).counter (set before.counters t n.result) =
    lists_more _ _ _ _ at.listed (omega arith) n.ensures.value n.ensures.upper_bound in
    let rest = still_none _ before.counters n.result at.rest in
    elim c.if-image-t-eq1.branch [
      | then-image-t-eq1 w ↦
          rw w.state-is
          record {
            places = at.places;
            tokens = at.tokens;
            size = size;
            listed = listed;
            rest = rest;
            marked =
                marked_more t _ before.orders w.union-state.result at.marked
                (ap (λ (x : ℕ). eqb x 1) third ∙ eq-eqb _ 1 w.if-image-t-eq1.true)
                (λ j. w.union-state.ensures j ∙ ap (λ (b : Bool). bit before.orders j || b) (w.single.ensures j));
          }
      | else-image-t-eq1 w ↦
          rw w.state-is
          record {
            places = at.places;
            tokens = at.tokens;
            size = size;
            listed = listed;
            rest = rest;
            marked =
                marked_same t _ before.orders at.marked
                (ap (λ (x : ℕ). eqb x 1) third ∙ ne_eqb _ 1 w.if-image-t-eq1.false);
          }
    ]
