-- Every accepted table has what the laws of a cycle use: each fact is read off a check that found nothing.
use mathlib.Core.Bool.{not}
use mathlib.Core.List.{List}
use mathlib.Core.Logic.{◌≢◌, ⊎_elim}
use mathlib.Core.Path.{◌≡◌, refl, sym, ap}
use Prim.Native.Nat.{ℕ, ◌≤◌, ◌<◌}
use native.Mathlib.Omega.{arith}
use borrow.Author.Tests.{lt-ltb, not-false}
use Rattle.meaning.specs.Table.{Table, table, declared, timing, a_of, b_of}
use Rattle.meaning.specs.Answer.{Answer, accepted}
use Rattle.meaning.specs.Defined.{check, settled, unsettled}
use Rattle.meaning.specs.Says.{Shown, Same, NamesUnknown, Place, Transition}
use Rattle.meaning.proofs.Bool.{not_both, and_true}
use Rattle.meaning.proofs.Reflect.{decided, refutes, not_true_false}
use Rattle.meaning.proofs.Same.{of_kind, shown_place, shown_transition, shown_arc, shown_condition}
use Rattle.meaning.proofs.Rows.{place_decides, transition_decides, unknown_decides}
use Rattle.meaning.proofs.Sound.{SoundTable, check_sound, same_record, transition_column, declared_none}
use Rattle.meaning.proofs.Enabled.{arc_is}
use Rattle.meaning.proofs.Well.{Well}

-- Ranges that a shown record keeps.
shown_weight : {o t s f x : ℕ} → Shown 3 o t s f x → 1 ≤ f
shown_weight (Shown.arc a b c d e) = d

shown_action : {o t s f x : ℕ} → Shown 6 o t s f x → o ≤ 127
shown_action (Shown.action a b) = a

shown_interval : {o t s f x : ℕ} → Shown 2 o t s f x → (s ≤ 2) × (s ≢ 0 → 1 ≤ f) × (f ≤ 65535) × (x ≤ 65534)
shown_interval (Shown.untimed a) = (omega arith, λ n. absurd (n refl), omega arith, omega arith)
shown_interval (Shown.between a b c d) = (omega arith, λ n. b, omega arith, d)
shown_interval (Shown.from a b c) = (omega arith, λ n. b, c, omega arith)

module _ (tb : Table) (sound : SoundTable tb) where
  -- Each transition's timing is a shown record's, or that of no record at all.
  interval : (t : ℕ) → (timing tb t ≤ 2) × (timing tb t ≢ 0 → 1 ≤ a_of tb t) × (a_of tb t ≤ 65535) × (b_of tb t ≤ 65534)
  interval t = ⊎_elim known unknown_here (decided (transition_decides tb t))
    where
      Range : Type 0
      Range = (timing tb t ≤ 2) × (timing tb t ≢ 0 → 1 ≤ a_of tb t) × (a_of tb t ≤ 65535) × (b_of tb t ≤ 65534)

      known : Transition tb t → Range
      known w =
          let column : (f : ℕ → ℕ) → declared tb 2 t f ≡ f w.0 =
          λ f. transition_column tb sound t f w.0 w.1 w.2 w.3 in
          rw (column tb.sort, column tb.four, column tb.six) (shown_interval (of_kind tb w.0 2 (sound.shown w.0 w.1) w.2))

      unknown_here : ¬ Transition tb t → Range
      unknown_here none =
          let column : (f : ℕ → ℕ) → declared tb 2 t f ≡ 0 = λ f. declared_none tb 2 t f (λ s m k o. none (s, m, k, o)) in
          rw (column tb.sort, column tb.four, column tb.six) (omega arith, λ n. absurd (n refl), omega arith, omega arith)

  arc_shown : (r : ℕ) → r < tb.records → tb.kind r ≡ 3
      → Shown 3 (tb.one r) (tb.two r) (tb.sort r) (tb.four r) (tb.six r)
  arc_shown r l k = of_kind tb r 3 (sound.shown r l) k

  pub sound_well : Well tb
  unfolding unsettled
  sound_well =
      record {
        arc_place = λ r l k. (place_decides tb (tb.one r)).1 (place_of r l k);
        arc_transition = λ r l k. omega (arith, (shown_arc (arc_shown r l k)).1);
        arc_weight = λ r l k. shown_weight (arc_shown r l k);
        condition_sort = λ r l k. shown_condition (of_kind tb r 4 (sound.shown r l) k);
        action_place = λ r l k. omega (arith, shown_action (of_kind tb r 6 (sound.shown r l) k));
        place_known = λ p e. place_low p ((place_decides tb p).0 e);
        transition_known = λ t e. transition_low t ((transition_decides tb t).0 e);
        single = λ r s l m b c o t. one_arc r s l m (arc_is tb 0 r b) (arc_is tb 0 s c) o t;
        no_circle = sound.ordered;
        settles = λ i j li lj l c.
            not-false (settled tb i j)
            (not_true_false (not (settled tb i j)) (λ n. not_both (and_true (lt-ltb i j l) (and_true c n)) (sound.settles i j li lj)));
        timing_sort = λ t. (interval t).0;
        a_low = λ t. (interval t).1;
        a_high = λ t. (interval t).2;
        b_high = λ t. (interval t).3;
      }
    where
      place_of : (r : ℕ) → r < tb.records → tb.kind r ≡ 3 → Place tb (tb.one r)
      place_of r l k =
          ⊎_elim (λ w. w) (λ none. absurd (refutes (unknown_decides tb r) (sound.known r l) (NamesUnknown.arc_place k none)))
          (decided (place_decides tb (tb.one r)))

      place_low : (p : ℕ) → Place tb p → p < 128
      place_low p w = omega (arith, (shown_place (of_kind tb w.0 1 (sound.shown w.0 w.1) w.2)).0, w.3)

      transition_low : (t : ℕ) → Transition tb t → t < 64
      transition_low t w = omega (arith, (shown_transition (of_kind tb w.0 2 (sound.shown w.0 w.1) w.2)).0, w.3)

      one_arc : (r s : ℕ) → r < tb.records → s < tb.records → (tb.kind r ≡ 3) × (tb.sort r ≡ 0)
          → (tb.kind s ≡ 3) × (tb.sort s ≡ 0)
          → tb.one r ≡ tb.one s → tb.two r ≡ tb.two s → r ≡ s
      one_arc r s l m a b o t =
          same_record tb sound r s l m (Same.input_arc a.0 b.0 (omega arith) (omega arith) o t)
          (Same.input_arc b.0 a.0 (omega arith) (omega arith) (sym o) (sym t))

-- An accepted table has all of them.
pub accepted_well : (bs : List ℕ) → check bs ≡ accepted 0 → Well (table bs)
accepted_well bs e = sound_well (table bs) (check_sound bs (ap (λ (a : Answer). a.number) e))
