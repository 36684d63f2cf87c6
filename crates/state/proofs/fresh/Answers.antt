-- After r records the image is that of the places declared so far.
use mathlib.Core.Path.{◌≡◌, sym, ap, ◌∙◌}
use Prim.Native.Nat.{ℕ, suc, ◌*◌, ◌/◌, ◌<◌}
use native.Mathlib.Numerals.{add-one}
use native.Mathlib.Omega.{arith}
use lib.ListN.{length, get_or, replicate}
use Rattle.meaning.specs.Table.{table}
use Rattle.meaning.specs.Image.{image_bytes}
use Rattle.meaning.proofs.Image.{image_length}
use Rattle.meaning.proofs.Same.{of_kind, shown_place}
use Rattle.records.proofs.Columns.{inside}
use Rattle.rows.proofs.Arcs.{accepted_sound}
use Rattle.state.specs.Stored.{tokens_put}
use Rattle.state.proofs.Begun.{begun, begun_none, begun_all, begun_other, begun_place}
use Rattle.state.proofs.fresh.Goals as goal
use Rattle.state.proofs.fresh.Goals.{then-t-r, else-t-r}

pub loop-r-init : goal.loop-r-init
loop-r-init c =
    c.fill.ensures.after (λ y e. e) ∙ ap (λ (k : ℕ). replicate k 0) c.requires.0 ∙ begun_none (table c.args.t.now)

-- The record of a turn is one of the table, and its first byte is its kind.
pub put_tokens-requires : goal.put_tokens-requires
unfolding table
put_tokens-requires c =
    let at = c.loop-r in
    let t = c.args.t.now in
    let within : at.r < length t / 8 = c.loop-r-test.true in
    let sound = accepted_sound t c.requires.1 in
    let kind : (table t).kind at.r ≡ 1 = sym (inside t at.r within).kind ∙ c.if-t-r.true in (
      omega (arith, within),
      omega (
        arith,
        (inside t at.r within).one,
        (shown_place (of_kind (table t) at.r 1 (sound.shown at.r within) kind)).0,
      ),
      ap length at.invariant ∙ image_length _,
    )

pub loop-r-preserved : goal.loop-r-preserved
unfolding table
loop-r-preserved c =
    let at = c.loop-r in
    let t = c.args.t.now in
    let within : at.r < length t / 8 = c.loop-r-test.true in
    let sound = accepted_sound t c.requires.1 in
    let kind_is : get_or t (8 * at.r) 0 ≡ (table t).kind at.r = (inside t at.r within).kind in
    let step : c.if-t-r.image ≡ image_bytes (begun (table t) (suc at.r)) =
    elim c.if-t-r.branch [
      | then-t-r w ↦
          w.image-is ∙ w.put_tokens.ensures ∙ ap (tokens_put (table t) at.r) at.invariant
          ∙ begun_place (table t) sound at.r within (sym kind_is ∙ w.if-t-r.true)
      | else-t-r w ↦
          w.image-is ∙ at.invariant ∙ begun_other (table t) at.r (λ k. w.if-t-r.false (kind_is ∙ k))
    ] in
    step ∙ ap (λ (k : ℕ). image_bytes (begun (table t) k)) (sym (add-one at.r))

pub returns : goal.returns
unfolding table
returns c =
    let at = c.loop-r in
    let t = c.args.t.now in
    let end : at.r ≡ (table t).records = omega arith in
    at.invariant ∙ rw end (begun_all _)
