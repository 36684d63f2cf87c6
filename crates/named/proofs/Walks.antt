-- A walk over the places and the transitions: nobody before the one at hand is lost, and the set has those that are
-- named so far.
use mathlib.Core.Bool.{Bool, true, false, ◌&&◌, ◌||◌, not, or_assoc}
use mathlib.Core.List.{List}
use mathlib.Core.Path.{◌≡◌, ◌∙◌}
use Prim.Native.Nat.{ℕ, ◌+◌, ◌-◌, ◌≤◌, ◌<◌}
use native.Mathlib.Omega.{arith}
use native.Mathlib.Numerals.{add-one}
use lib.Dec.{eqb}
use Rattle.std.proofs.lemmas.Grind.{common_steps}
use Rattle.meaning.specs.Below.{some, first}
use Rattle.meaning.specs.Bytes.{bit}
use Rattle.meaning.proofs.Below.{some_same, first_is, first_none, first_passes, first_before}
use Rattle.sets.proofs.Some.{some_short}
use Rattle.rows.specs.declared.Declared.{Declared}
use Rattle.rows.specs.Rows.{inputs, givers, actions, below, has}
use Rattle.named.specs.Named.{arc_bit, place_named, own_named, named_by, QuietFrom, isolated_in}

module _ (rows : List ℕ) (p : ℕ) (arcs : ℕ) (arcs_is : (t : ℕ)
    → bit arcs t ≡ (bit (inputs rows p) t || bit (givers rows p) t)) where
  -- The arcs of a place, and what names it.
  pub arcs_some : some 64 (bit arcs) ≡ some 64 (arc_bit rows p)
  arcs_some = some_same 64 (bit arcs) (arc_bit rows p) (λ t _. arcs_is t)

  pub named_some : (by : ℕ) → ((t : ℕ) → bit by t ≡ (bit arcs t || bit (actions rows p) t))
      → some 64 (bit by) ≡ place_named rows p
  named_some by by_is = some_same 64 (bit by) _ (λ t _. by_is t ∙ rw (arcs_is t))

  -- The transitions of the arcs of one more place.
  pub more_arcs : (old new : ℕ) → ((t : ℕ) → bit old t ≡ some p (λ q. arc_bit rows q t))
      → ((t : ℕ) → bit new t ≡ (bit old t || bit arcs t)) → (t : ℕ)
      → bit new t ≡ some (p + 1) (λ q. arc_bit rows q t)
  unfolding some
  more_arcs old new before gains t = gains t ∙ rw (before t, arcs_is t, add-one p)

-- One more transition that is named, by itself or from above.
pub more_named : (rows : List ℕ) (u t : ℕ) (a : Bool) {old with_own new : Bool} (under own : Bool)
    → old ≡ (a || some u (named_by rows t)) → own ≡ own_named rows u
    → under ≡ bit (below rows u) t → with_own ≡ (old || (eqb u t && own)) → new ≡ (with_own || under)
    → new ≡ (a || some (u + 1) (named_by rows t))
unfolding some
more_named rows u t a under own before own_is under_is joins gains =
    gains
    ∙ rw (joins, before, own_is, under_is, add-one u)
    (or_assoc (a || some u (named_by rows t)) (eqb u t && own_named rows u) (bit (below rows u) t)
    ∙ or_assoc a (some u (named_by rows t)) ((eqb u t && own_named rows u) || bit (below rows u) t))

-- Candidate p below 128 is a place.
pub isolated_place : (rows : List ℕ) (k : Declared) (p : ℕ) → p < 128
    → (has k p && not (some 64 (arc_bit rows p))) ≡ isolated_in rows k p
unfolding isolated_in
isolated_place rows k p h = grind (arith, common_steps)

-- No place before p is isolated, and from p on there is none; the set `alone` has the declared transitions without an
-- arc.
module _ (rows : List ℕ) (k : Declared) {n : ℕ} (p arced : ℕ) (quiet : QuietFrom n rows k) (past : n ≤ p)
    (before : (j : ℕ) → j < p → isolated_in rows k j ≡ false)
    (arced_is : (t : ℕ) → bit arced t ≡ some p (λ q. arc_bit rows q t))
    (alone : ℕ) (alone_is : (t : ℕ)
    → bit alone t ≡ (bit k.transitions t && not (bit arced t))) where
  no_place : (j : ℕ) → j < 128 → isolated_in rows k j ≡ false
  no_place j h = grind (arith, common_steps, before j, isolated_place rows k j, quiet.no_place j)

  -- The arcs of the first p places are those of all.
  all_arcs : p ≤ 128 → (t : ℕ) → t < 64 → bit arced t ≡ some 128 (λ q. arc_bit rows q t)
  all_arcs h t l =
      arced_is t ∙ some_short p 128 (λ q. arc_bit rows q t) h (λ q a g. quiet.no_arc q t (omega (arith, past, a)) g l)

  -- Candidate 128 + t is a transition.
  isolated_is : p ≤ 128 → (t : ℕ) → t < 64 → isolated_in rows k (128 + t) ≡ bit alone t
  unfolding isolated_in
  isolated_is h t l = grind (arith, common_steps, all_arcs, alone_is)

  pub none_isolated : p ≤ 128 → first 64 (bit alone) ≡ 64 → first 192 (isolated_in rows k) ≡ 192
  none_isolated h e =
      first_none 192 (isolated_in rows k)
      (λ j l. grind (arith, no_place, isolated_is h (j - 128), first_before 64 (bit alone) (j - 128)))

  pub isolated_transition : {t : ℕ} → p ≤ 128 → (t < 64) × (first 64 (bit alone) ≡ t)
      → (128 + t < 192) × (first 192 (isolated_in rows k) ≡ 128 + t)
  isolated_transition {t} h found =
      let under : 128 + t < 192 = omega (arith, found.0) in
      let here : bit alone t ≡ true = rw (← found.1) (first_passes 64 (bit alone) (rw found.1 found.0)) in (
        under,
        first_is 192 (isolated_in rows k) (128 + t) under (isolated_is h t found.0 ∙ here)
            (λ j l. grind (arith, no_place, isolated_is h (j - 128), first_before 64 (bit alone) (j - 128))),
      )
