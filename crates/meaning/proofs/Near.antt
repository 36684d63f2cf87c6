-- A cycle over an accepted table asks the marking only at places and the counters and orders only of transitions:
-- states that agree there fire the same set and agree there again afterwards.
use mathlib.Core.Bool.{Bool, true, not, ◌&&◌, ◌||◌}
use mathlib.Core.List.{List}
use mathlib.Core.Logic.{⊎_elim}
use mathlib.Core.Path.{◌≡◌, refl, ap, ◌∙◌}
use Prim.Native.Nat.{ℕ, zero, suc, ◌-◌, ◌<◌}
use lib.Dec.{ltb, eqb}
use Rattle.meaning.specs.Below.{members, within}
use Rattle.meaning.specs.Table.{Table, basic, test, transition, timing}
use Rattle.meaning.specs.Priority.{above}
use Rattle.meaning.specs.Image.{State}
use Rattle.meaning.specs.Cycle.{enabled, risen, counted, falling, firable, withdrawn, residual, rule, rounds}
use Rattle.meaning.specs.Cycle.{fired, marked, starved, reset, rising}
use Rattle.meaning.proofs.Bool.{and_left, or_cases}
use Rattle.meaning.proofs.Below.{some_same, members_same}
use Rattle.meaning.proofs.Well.{Well}
use Rattle.meaning.proofs.Enabled.{arc_is}
use Rattle.meaning.proofs.Fired.{and_same, enabled_same}

module _ (tb : Table) (well : Well tb) where
  -- Places that arcs name are below 128.
  near : (r : ℕ) → r < tb.records → tb.kind r ≡ 3 → tb.one r < 128
  near r h k = well.place_known (tb.one r) (well.arc_place r h k)

  -- Markings that agree on the places enable the same, lead to the same rounds of definition 6, and give the same
  -- reset orders.
  module _ (m n : ℕ → ℕ) (agree : (p : ℕ) → p < 128 → m p ≡ n p) where
    pub enabled_near : (t : ℕ) → enabled tb m t ≡ enabled tb n t
    enabled_near t = enabled_same tb m n t (λ r h k e. agree (tb.one r) (near r h k))

    pub resets_near : (F : ℕ → Bool) (t : ℕ) → reset tb m F t ≡ reset tb n F t
    unfolding reset starved
    resets_near F t =
        ap (λ (b : Bool). not (eqb (timing tb t) 0) && (F t || b))
        (some_same tb.records _ _
        (λ r h. and_same ((basic tb r || test tb r) && eqb (tb.two r) t) _ _
        (λ e.
        ap (λ (x : ℕ). ltb 0 (withdrawn tb F (tb.one r)) && ltb (x - withdrawn tb F (tb.one r)) (tb.four r))
        (agree (tb.one r) (near r h (input r (and_left (basic tb r || test tb r) _ e)))))))
      where
        input : (r : ℕ) → (basic tb r || test tb r) ≡ true → tb.kind r ≡ 3
        input r e = ⊎_elim (λ b. (arc_is tb 0 r b).0) (λ b. (arc_is tb 1 r b).0) (or_cases (basic tb r) (test tb r) e)

  pub rounds_near : (m n : ℕ → ℕ) → ((p : ℕ) → p < 128 → m p ≡ n p) → (able : ℕ → Bool) (k : ℕ)
      → rounds tb m able k ≡ rounds tb n able k
  unfolding rounds rule residual
  rounds_near m n agree able zero = refl
  rounds_near m n agree able (suc k) =
      members_same 64 (rule tb m able (within (rounds tb m able k))) (rule tb n able (within (rounds tb m able k)))
      (λ t h.
      ap (λ (b : Bool). able t && b)
      (enabled_near _ _
      (λ p near_p. ap (λ (x : ℕ). x - withdrawn tb (λ u. within (rounds tb m able k) u && above tb u t) p) (agree p near_p))
      t))
      ∙ ap (λ (F : List ℕ). members 64 (rule tb n able (within F))) (rounds_near m n agree able k)

  -- Markings that agree on the places and the same firable transitions fire the same set.
  pub fired_near : (z s : State) (word : ℕ) → ((p : ℕ) → p < 128 → s.tokens p ≡ z.tokens p)
      → ((t : ℕ) → firable tb s word t ≡ firable tb z word t) → fired tb s word ≡ fired tb z word
  unfolding fired
  fired_near z s word agree able =
      rounds_near s.tokens z.tokens agree (within (members 64 (firable tb s word))) 64
      ∙ ap (λ (l : List ℕ). rounds tb z.tokens (within l) 64)
      (members_same 64 (firable tb s word) (firable tb z word) (λ t h. able t))

-- Two states agree on places and transitions.
pub record Alike (z s : State) : Type 0 where
  pub tokens : (p : ℕ) → p < 128 → s.tokens p ≡ z.tokens p
  pub counter : (t : ℕ) → t < 64 → s.counter t ≡ z.counter t
  pub order : (t : ℕ) → t < 64 → s.order t ≡ z.order t

module _ (tb : Table) (well : Well tb) (z s : State) (alike : Alike z s) where
  -- They agree after the falling edge, the same fire, and they agree after the rising edge.
  pub falling_alike : Alike (falling tb z) (falling tb s)
  unfolding falling counted risen
  falling_alike =
      record {
        tokens = alike.tokens;
        counter = λ t h. rw (enabled_near tb well s.tokens z.tokens alike.tokens t, alike.counter t h, alike.order t h);
        order = alike.order;
      }

  pub firable_alike : (word t : ℕ) → firable tb s word t ≡ firable tb z word t
  unfolding firable
  firable_alike word t =
      and_same (transition tb t) _ _
      (λ d. rw (enabled_near tb well s.tokens z.tokens alike.tokens t, alike.counter t (well.transition_known t d)))

  pub fired_alike : (word : ℕ) → fired tb s word ≡ fired tb z word
  fired_alike word = fired_near tb well z s word alike.tokens (firable_alike word)

  pub rising_alike : (F : ℕ → Bool) → Alike (rising tb z F) (rising tb s F)
  unfolding rising marked
  rising_alike F =
      record {
        tokens = λ p h. rw (alike.tokens p h);
        counter = alike.counter;
        order = λ t h. resets_near tb well s.tokens z.tokens alike.tokens F t;
      }
