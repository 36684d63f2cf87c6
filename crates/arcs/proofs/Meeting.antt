-- Two transitions meet by their words exactly if they do by the rows: the places of two words are the 128 places,
-- those of the low word first.
use mathlib.Core.Bool.{Bool, ◌&&◌, ◌||◌}
use mathlib.Core.List.{List}
use mathlib.Core.Path.{◌≡◌, sym, ap₂, ◌∙◌}
use Prim.Native.Nat.{ℕ, ◌+◌, ◌*◌, ◌<◌}
use native.Mathlib.Omega.{arith}
use lib.ListN.{get_or}
use Rattle.meaning.specs.Below.{some}
use Rattle.meaning.specs.Bytes.{bit}
use Rattle.meaning.proofs.Below.{some_same}
use Rattle.sets.proofs.Some.{some_split}
use Rattle.rows.specs.Rows.{inputs, takers}
use Rattle.arcs.specs.Arcs.{Turned, meeting}

-- The words of the turned rows say who takes from a place of an input arc.
pub met : {rows arcs : List ℕ} → Turned rows arcs → (t u : ℕ) → t < 64 → u < 64
    → meeting arcs t u ≡ some 128 (λ p. bit (inputs rows p) t && bit (takers rows p) u)
unfolding meeting
met {rows} g t u h l =
    ap₂ (λ (a b : Bool). a || b) (some_same 64 _ _ (λ p k. rw (g.low_is t p h k, g.takes_low_is u p l k)))
    (some_same 64 _ _ (λ p k. rw (g.high_is t p h k, g.takes_high_is u p l k)))
    ∙ sym (some_split 64 64 (λ p. bit (inputs rows p) t && bit (takers rows p) u))

-- Where the places of two transitions have stayed, they meet as before.
pub meeting_stays : (arcs before : List ℕ)
    → ((t c : ℕ) → c < 4 → get_or arcs (5 * t + c) 0 ≡ get_or before (5 * t + c) 0)
    → (t u : ℕ)
    → meeting arcs t u ≡ meeting before t u
unfolding meeting
meeting_stays arcs before same t u =
    rw (same t 0 (omega arith), same t 1 (omega arith), same u 2 (omega arith), same u 3 (omega arith))
