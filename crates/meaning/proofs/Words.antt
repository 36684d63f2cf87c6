-- Bits that no condition record names change nothing: of a word, a cycle reads only the bits that `as_wanted` tests,
-- each named by such a record.
use mathlib.Core.Bool.{Bool, true, false, not, ◌&&◌, ◌||◌, beq}
use mathlib.Core.List.{List, [], ◌∷◌}
use mathlib.Core.Path.{◌≡◌, refl, ap}
use Prim.Native.Nat.{ℕ, ◌<◌}
use lib.Dec.{eqb}
use lib.ListN.{length}
use borrow.Author.Tests.{eqb-true}
use Rattle.meaning.specs.Bytes.{bit}
use Rattle.meaning.specs.Table.{Table, table, is}
use Rattle.meaning.specs.Image.{State, image_bytes}
use Rattle.meaning.specs.Cycle.{as_wanted, firable, fired, cycle}
use Rattle.meaning.specs.Calls.{word_checks, run_checks, trace, run}
use Rattle.meaning.proofs.Bool.{and_left}
use Rattle.meaning.proofs.Below.{every_same, members_same}
use Rattle.meaning.proofs.Run.{words}

-- Two words agree on every condition that a record names.
abbrev pub Agree : Table → ℕ → ℕ → Type 0
Agree tb v w = (r : ℕ) → r < tb.records → tb.kind r ≡ 4 → bit v (tb.two r) ≡ bit w (tb.two r)

-- A test behind another counts only where that one passes.
behind : (a b c : Bool) → (a ≡ true → b ≡ c) → (not a || b) ≡ (not a || c)
behind true b c f = f refl
behind false b c f = refl

module _ (tb : Table) (v w : ℕ) (agree : Agree tb v w) where
  -- Conditions are as wanted in both or in neither.
  wanted_same : (t : ℕ) → as_wanted tb v t ≡ as_wanted tb w t
  unfolding as_wanted
  wanted_same t =
      every_same tb.records _ _
      (λ r h.
      behind (is tb 4 r && eqb (tb.one r) t) _ _
      (λ e. ap (λ (b : Bool). beq b (eqb (tb.sort r) 0)) (agree r h (eqb-true (tb.kind r) 4 (and_left _ _ e)))))

  -- So the same transitions are firable and fire.
  fired_same : (s : State) → fired tb s v ≡ fired tb s w
  unfolding fired firable
  fired_same s = rw (members_same 64 (firable tb s v) (firable tb s w) (λ t h. rw (wanted_same t)))

-- So the cycle is the same.
pub unnamed_bits : (tb : Table) (img : List ℕ) (v w : ℕ) → Agree tb v w → cycle tb img v ≡ cycle tb img w
unfolding cycle
unnamed_bits tb img v w agree = rw (fired_same tb v w agree)

-- Two lists of words agree one by one.
pub data AllAgree (tb : Table) : List ℕ → List ℕ → Type 0 where
  none : AllAgree tb [] []
  more : {v w : ℕ} {vs ws : List ℕ} → Agree tb v w → AllAgree tb vs ws → AllAgree tb (v ∷ vs) (w ∷ ws)

-- Such lists have the same trace.
pub unnamed_bits_trace : (tb : Table) {vs ws : List ℕ} (img : List ℕ) → AllAgree tb vs ws
    → trace tb vs img ≡ trace tb ws img
unfolding trace
unnamed_bits_trace tb img AllAgree.none = refl
unnamed_bits_trace tb img (AllAgree.more {v} {w} {vs} {ws} a r) =
    rw (unnamed_bits tb img v w a, unnamed_bits_trace tb (image_bytes (cycle tb img w).after) r)

-- The run's checks see only how long the words are.
checks_same : (bs img ws vs report : List ℕ) → length ws ≡ length vs
    → run_checks bs img ws report ≡ run_checks bs img vs report
unfolding run_checks word_checks
checks_same bs img ws vs report l = simp l

-- So runs over words that agree one by one leave the same answer, image and report.
pub unnamed_bits_run : (bs img ws vs report : List ℕ) → length ws ≡ length vs
    → AllAgree (table bs) (words ws) (words vs)
    → run bs img ws report ≡ run bs img vs report
unfolding run
unnamed_bits_run bs img ws vs report l a = rw (checks_same bs img ws vs report l, unnamed_bits_trace (table bs) img a)
