-- The falling edge is what its rules say, in both directions: enabled (definition 4), active actions (rule 2),
-- counters (rules 3 to 6). Each definition is asked record by record, and so is its rule.
use mathlib.Core.Bool.{true, false, cond, not, ◌&&◌}
use mathlib.Core.Logic.{◌↔◌, ◌≢◌, ◌⊎◌, inl, inr, ⊎_elim}
use mathlib.Core.Path.{◌≡◌, refl, sym, ap, ◌∙◌, subst}
use Prim.Native.Nat.{ℕ, suc, ◌<◌}
use native.Mathlib.Omega.{arith}
use lib.Dec.{ltb, leb, eqb}
use borrow.Author.Tests.{ltb-true, ltb-false, lt-ltb, le-ltb, leb-true, leb-false, le-leb, lt-leb, eqb-true, eq-eqb}
use borrow.Author.Tests.{ne_eqb, not-true, not-false}
use Rattle.meaning.specs.Below.{some}
use Rattle.meaning.specs.Table.{Table, is, post, timing, a_of, b_of}
use Rattle.meaning.specs.Image.{State}
use Rattle.meaning.specs.Cycle.{stops, enabled, active, risen, counted}
use Rattle.meaning.specs.Rules.{Enabled, Active, Between, From, IsTimed, Counter}
use Rattle.meaning.proofs.Bool.{either, not_both, and_left, and_right}
use Rattle.meaning.proofs.Below.{none_elim, none_intro}
use Rattle.meaning.proofs.Reflect.{Decides, recast, refuted, not_true_false, eq_decides, lt_decides}
use Rattle.meaning.proofs.Reflect.{and_decides, some_decides}
use Rattle.meaning.proofs.Shows.{up_to_3}
use Rattle.meaning.proofs.Same.{of_kind, shown_arc}
use Rattle.meaning.proofs.Sound.{SoundTable, timed_is, SortOf, sort_of}
use Rattle.meaning.proofs.Enabled.{stops_basic, stops_test, stops_inhibitor}

-- A post arc stops nobody.
stops_post : (tb : Table) (m : ℕ → ℕ) (t r : ℕ) → tb.kind r ≡ 3 → tb.sort r ≡ 3 → stops tb m t r ≡ false
unfolding stops
stops_post tb m t r k s = rw (k, s)

-- What stops t is an arc to t.
stops_arc : (tb : Table) (m : ℕ → ℕ) (t r : ℕ) → stops tb m t r ≡ true → (tb.kind r ≡ 3) × (tb.two r ≡ t)
unfolding stops
stops_arc tb m t r e =
    let arc_to = and_left (is tb 3 r && not (post tb r) && eqb (tb.two r) t) _ e in (
      eqb-true (tb.kind r) 3 (and_left (is tb 3 r) _ (and_left (is tb 3 r && not (post tb r)) _ arc_to)),
      eqb-true (tb.two r) t (and_right (is tb 3 r && not (post tb r)) _ arc_to),
    )

module _ (tb : Table) (sound : SoundTable tb) where
  -- DEFINITION 4: enabled by a marking.
  pub enabled_is : (m : ℕ → ℕ) (t : ℕ) → Decides (enabled tb m t) (Enabled tb m t)
  unfolding enabled
  enabled_is m t = (to, from)
    where
      clean : not (some tb.records (stops tb m t)) ≡ true → (r : ℕ) → r < tb.records → stops tb m t r ≡ false
      clean on = none_elim tb.records (stops tb m t) (not-true (some tb.records (stops tb m t)) on)

      to : not (some tb.records (stops tb m t)) ≡ true → Enabled tb m t
      to on =
          record {
            basic = λ p w (r, l, k, s, o, e, f).
                rw (o, f) at (ltb-false (m (tb.one r)) (tb.four r) (sym (stops_basic tb m t r k s e) ∙ clean on r l));
            test = λ p w (r, l, k, s, o, e, f).
                rw (o, f) at (ltb-false (m (tb.one r)) (tb.four r) (sym (stops_test tb m t r k s e) ∙ clean on r l));
            inhibitor = λ p w (r, l, k, s, o, e, f).
                rw (o, f) at (ltb-true (m (tb.one r)) (tb.four r) (not-false _ (sym (stops_inhibitor tb m t r k s e) ∙ clean on r l)));
          }

      from : Enabled tb m t → not (some tb.records (stops tb m t)) ≡ true
      from h = ap not (none_intro tb.records (stops tb m t) (λ r l. not_true_false (stops tb m t r) (λ e. stopped r l e (stops_arc tb m t r e))))
        where
          stopped : (r : ℕ) → r < tb.records → stops tb m t r ≡ true → (tb.kind r ≡ 3) × (tb.two r ≡ t) → ⊥
          stopped r l e (k, o) =
              up_to_3 (λ s. tb.sort r ≡ s → ⊥)
              (λ s.
              omega (arith, ltb-true (m (tb.one r)) (tb.four r) (sym (stops_basic tb m t r k s o) ∙ e), h.basic (tb.one r) (tb.four r) (r, l, k, s, refl, o, refl)))
              (λ s.
              omega (arith, ltb-true (m (tb.one r)) (tb.four r) (sym (stops_test tb m t r k s o) ∙ e), h.test (tb.one r) (tb.four r) (r, l, k, s, refl, o, refl)))
              (λ s.
              not_both (sym (stops_inhibitor tb m t r k s o) ∙ e)
              (ap not (lt-ltb (m (tb.one r)) (tb.four r) (h.inhibitor (tb.one r) (tb.four r) (r, l, k, s, refl, o, refl)))))
              (λ s. not_both e (stops_post tb m t r k s))
              (tb.sort r)
              (shown_arc (of_kind tb r 3 (sound.shown r l) k)).2
              refl

  -- What a record says of an interval is what the definitions read.
  pub between_is : (t a b : ℕ) → Between tb t a b → (timing tb t ≡ 1) × (a_of tb t ≡ a) × (b_of tb t ≡ b)
  between_is t a b (r, h, x, y) =
      let z = timed_is tb sound t 1 r h in
      (z.0, z.1 ∙ x, z.2 ∙ y)

  pub from_is : (t a : ℕ) → From tb t a → (timing tb t ≡ 2) × (a_of tb t ≡ a)
  from_is t a (r, h, x) =
      let z = timed_is tb sound t 2 r h in
      (z.0, z.1 ∙ x)

  timed_not_0 : (t : ℕ) → IsTimed tb t → timing tb t ≢ 0
  timed_not_0 t (r, inl h) = λ z. omega (arith, (timed_is tb sound t 1 r h).0)
  timed_not_0 t (r, inr h) = λ z. omega (arith, (timed_is tb sound t 2 r h).0)

  pub untimed_is : (t : ℕ) → timing tb t ≡ 0 → ¬ IsTimed tb t
  untimed_is t z i = timed_not_0 t i z

  pub timed_decides : (t : ℕ) → Decides (not (eqb (timing tb t) 0)) (IsTimed tb t)
  timed_decides t = (λ e. to e (sort_of tb sound t), λ i. ap not (ne_eqb (timing tb t) 0 (timed_not_0 t i)))
    where
      to : not (eqb (timing tb t) 0) ≡ true → SortOf tb t → IsTimed tb t
      to e (SortOf.none z) = not_both e (ap not (eq-eqb (timing tb t) 0 z))
      to e (SortOf.between r h) = (r, inl h)
      to e (SortOf.from r h) = (r, inr h)

  -- RULE 2: active actions.
  pub active_is : (m : ℕ → ℕ) (k : ℕ) → Decides (active tb m k) (Active tb m k)
  unfolding active
  active_is m k =
      recast
      (some_decides tb.records
      (λ r. and_decides (and_decides (eq_decides (tb.kind r) 6) (eq_decides (tb.two r) k)) (lt_decides 0 (m (tb.one r)))))
      (λ w. (w.0, w.1, w.2.0.0, w.2.0.1, w.2.1))
      (λ w. (w.0, w.1, ((w.2, w.3), w.4)))

  -- RULES 3 TO 6: the counter after the falling edge.
  module _ (s : State) (t : ℕ) where
    counted_untimed : timing tb t ≡ 0 → counted tb s t ≡ s.counter t
    unfolding counted
    counted_untimed e = rw e

    counted_off : timing tb t ≢ 0 → enabled tb s.tokens t ≡ false → counted tb s t ≡ 0
    unfolding counted
    counted_off n off = rw (ne_eqb (timing tb t) 0 n, off)

    counted_reset : timing tb t ≢ 0 → enabled tb s.tokens t ≡ true → s.order t ≡ true → counted tb s t ≡ 1
    unfolding counted
    counted_reset n on o = rw (ne_eqb (timing tb t) 0 n, on, o)

    -- Enabled without a reset order: it rises where it may.
    counted_between : timing tb t ≡ 1 → enabled tb s.tokens t ≡ true → s.order t ≡ false
        → counted tb s t ≡ cond (leb (s.counter t) (b_of tb t)) (suc (s.counter t)) (s.counter t)
    unfolding counted risen
    counted_between e on o = rw (e, on, o)

    counted_from : timing tb t ≡ 2 → enabled tb s.tokens t ≡ true → s.order t ≡ false
        → counted tb s t ≡ cond (ltb (s.counter t) (a_of tb t)) (suc (s.counter t)) (s.counter t)
    unfolding counted risen
    counted_from e on o = rw (e, on, o)

    -- What is counted follows a rule.
    counted_follows : Counter tb s t (counted tb s t)
    counted_follows = go (sort_of tb sound t)
      where
        timed : IsTimed tb t → (enabled tb s.tokens t ≡ true → s.order t ≡ false → Counter tb s t (counted tb s t))
            → Counter tb s t (counted tb s t)
        timed i rises =
            ⊎_elim
            (λ (on : enabled tb s.tokens t ≡ true).
            ⊎_elim (λ (o : s.order t ≡ true). rw (counted_reset (timed_not_0 t i) on o) (Counter.rule_3 i ((enabled_is s.tokens t).0 on) o))
            (λ (o : s.order t ≡ false). rises on o)
            (either (s.order t)))
            (λ (off : enabled tb s.tokens t ≡ false).
            rw (counted_off (timed_not_0 t i) off) (Counter.rule_6 i (λ e. not_both ((enabled_is s.tokens t).1 e) off)))
            (either (enabled tb s.tokens t))

        between : timing tb t ≡ 1 → Between tb t (a_of tb t) (b_of tb t) → enabled tb s.tokens t ≡ true
            → s.order t ≡ false
            → Counter tb s t (counted tb s t)
        between z i on o =
            rw (counted_between z on o)
            (⊎_elim
            (λ (l : leb (s.counter t) (b_of tb t) ≡ true).
            rw l (Counter.rule_4 i ((enabled_is s.tokens t).0 on, o) (leb-true (s.counter t) (b_of tb t) l)))
            (λ (l : leb (s.counter t) (b_of tb t) ≡ false).
            rw l (Counter.rule_5 i ((enabled_is s.tokens t).0 on, o) (leb-false (s.counter t) (b_of tb t) l)))
            (either (leb (s.counter t) (b_of tb t))))

        from : timing tb t ≡ 2 → From tb t (a_of tb t) → enabled tb s.tokens t ≡ true → s.order t ≡ false
            → Counter tb s t (counted tb s t)
        from z i on o =
            rw (counted_from z on o)
            (⊎_elim
            (λ (l : ltb (s.counter t) (a_of tb t) ≡ true).
            rw l (Counter.rule_4_from i ((enabled_is s.tokens t).0 on, o) (ltb-true (s.counter t) (a_of tb t) l)))
            (λ (l : ltb (s.counter t) (a_of tb t) ≡ false).
            rw l (Counter.ours_at_a i ((enabled_is s.tokens t).0 on, o) (ltb-false (s.counter t) (a_of tb t) l)))
            (either (ltb (s.counter t) (a_of tb t))))

        go : SortOf tb t → Counter tb s t (counted tb s t)
        go (SortOf.none z) = rw (counted_untimed z) (Counter.untimed (untimed_is t z))
        go (SortOf.between r h) =
            let x = timed_is tb sound t 1 r h in
            timed (r, inl h) (between x.0 (r, h, sym x.1, sym x.2))
        go (SortOf.from r h) =
            let x = timed_is tb sound t 2 r h in
            timed (r, inr h) (from x.0 (r, h, sym x.1))

    -- And a rule leaves nothing but what is counted.
    follows_counted : {x : ℕ} → Counter tb s t x → counted tb s t ≡ x
    follows_counted (Counter.rule_3 i on o) = counted_reset (timed_not_0 t i) ((enabled_is s.tokens t).1 on) o
    follows_counted (Counter.rule_4 {a} {b} i (on, o) l) =
        let x = between_is t a b i in
        counted_between x.0 ((enabled_is s.tokens t).1 on) o ∙ rw (x.2, le-leb (s.counter t) b l)
    follows_counted (Counter.rule_5 {a} {b} i (on, o) l) =
        let x = between_is t a b i in
        counted_between x.0 ((enabled_is s.tokens t).1 on) o ∙ rw (x.2, lt-leb (s.counter t) b l)
    follows_counted (Counter.rule_4_from {a} i (on, o) l) =
        let x = from_is t a i in
        counted_from x.0 ((enabled_is s.tokens t).1 on) o ∙ rw (x.1, lt-ltb (s.counter t) a l)
    follows_counted (Counter.ours_at_a {a} i (on, o) l) =
        let x = from_is t a i in
        counted_from x.0 ((enabled_is s.tokens t).1 on) o ∙ rw (x.1, le-ltb (s.counter t) a l)
    follows_counted (Counter.rule_6 i off) = counted_off (timed_not_0 t i) (refuted (enabled_is s.tokens t) off)
    follows_counted (Counter.untimed n) = counted_untimed (eqb-true (timing tb t) 0 (not-false (eqb (timing tb t) 0) (refuted (timed_decides t) n)))

    pub counter_is : (x : ℕ) → (counted tb s t ≡ x) ↔ Counter tb s t x
    counter_is x = (λ e. subst (Counter tb s t) e counted_follows, follows_counted)
