-- Each turn makes one more record that of the state, first the places', then the transitions'; past n there is nothing
-- to make.
use mathlib.Core.Path.{◌≡◌, ◌∙◌}
use mathlib.Core.List.{List}
use Prim.Native.Nat.{ℕ, ◌+◌, ◌≤◌, ◌<◌}
use native.Mathlib.Omega.{arith}
use Rattle.meaning.specs.Image.{image_bytes}
use Rattle.sets.proofs.Bits.{bit_zero}
use Rattle.state.specs.declared.State.{State}
use Rattle.state.specs.Holds.{SaveAsks, held}
use Rattle.rows.proofs.Few.{transitions_le, past}
use Rattle.state.proofs.Read.{blank_bytes}
use Rattle.state.proofs.Write.{Upto, upto_place, upto_transition, upto_here, idle_places}
use Rattle.state.proofs.Write.{idle_transitions, upto_all}
use Rattle.state.proofs.save_numbers.Goals as goal

pub loop-p-preserved : goal.loop-p-preserved
loop-p-preserved c =
    let at = c.loop-p in
    let low : at.p < 128 = omega (arith, c.loop-p-test.true, c.requires.few) in
    upto_place _ _ _ _ at.p low at.invariant c.store.ensures

-- All places are made.
placed : (bs : List ℕ) (s : State) (next : List ℕ) (n p : ℕ) → SaveAsks bs s n → p ≡ n
    → Upto (image_bytes (held s.tokens s.counters 0)) bs p next
    → Upto (image_bytes (held s.tokens s.counters 0)) bs 128 next
placed bs s next n p asks all upto =
    idle_places _ _ _ _ asks.few asks.blank.places asks.idle.no_tokens (rw all at upto)

pub loop-t-init : goal.loop-t-init
loop-t-init c = upto_here _ _ _ _ (placed _ _ _ _ c.loop-p.p c.requires (omega arith) c.loop-p.invariant)

-- There are no more than 64 transitions, so the transition of a turn is below 64.
pub loop-t-preserved : goal.loop-t-preserved
loop-t-preserved c =
    let at = c.loop-t in
    let here : at.t < 64 = omega (arith, c.transitions-t-end.ensures, (transitions_le c.args.n).0) in
    upto_transition _ _ _ _ at.t here bit_zero at.invariant c.store-in-loop-t.ensures

pub returns : goal.returns
returns c =
    let at = c.loop-t in
    let most = c.transitions-t-end in
    let n : ℕ = c.args.n in
    let all : at.t ≡ most.result = omega arith in
    let few : most.result ≤ 64 = omega (arith, most.ensures, (transitions_le n).0) in
    let places = placed _ _ _ n c.loop-p.p c.requires (omega arith) c.loop-p.invariant in
    let past : (t : ℕ) → most.result ≤ t → t < 64 → n ≤ t = λ t l h. past n t (omega (arith, most.ensures, l)) h in
    upto_all _ _ _
    (idle_transitions _ _ _ _ few
    (λ t l h j d.
    places.rest (128 + t) (omega arith) j d
    ∙ blank_bytes _ (128 + t) j (omega (arith, h)) (c.requires.blank.transitions t (past t l h) h) d)
    (λ t l h. c.requires.idle.no_counters t (past t l h) h) bit_zero (rw all at at.invariant))
