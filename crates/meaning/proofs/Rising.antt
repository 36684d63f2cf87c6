-- The rising edge is what its rules say, in both directions: firable and fired (definitions 5 and 6), the new marking
-- (rule 7), reset orders (rule 8), functions (rule 9), and 13. Sums over records are taken record by record, and so
-- are the weights that the rules add up.
use mathlib.Core.Bool.{Bool, true, false, cond, not, ◌&&◌, ◌||◌, beq}
use mathlib.Core.Logic.{◌↔◌, ◌⊎◌, inl, inr, ⊎_elim}
use mathlib.Core.Path.{◌≡◌, refl, sym, ap, ◌∙◌, subst, fun_ext}
use Prim.Native.Nat.{ℕ, zero, suc, ◌-◌, ◌≤◌, ◌<◌}
use native.Mathlib.Nat.{add-zero}
use native.Mathlib.Omega.{arith}
use lib.Dec.{eqb}
use borrow.Author.Tests.{le-leb, eq-eqb}
use Rattle.meaning.specs.Below.{sum, every}
use Rattle.meaning.specs.Bytes.{bit}
use Rattle.meaning.specs.Table.{Table, total, is, arc, a_of, b_of}
use Rattle.meaning.specs.Priority.{above}
use Rattle.meaning.specs.Image.{State}
use Rattle.meaning.specs.Cycle.{enabled, as_wanted, in_time, firable, withdrawn, added, residual, rule, marked}
use Rattle.meaning.specs.Cycle.{executed, starved, reset}
use Rattle.meaning.specs.Says.{Arc, Wanted}
use Rattle.meaning.specs.Rules.{Enabled, TrueIn, InTime, Firable, ArcOf, Weighs, Withdraws, Adds, In}
use Rattle.meaning.specs.Rules.{InAbove, Residual, Fires, Marked, Starved, Reset, Executed}
use Rattle.meaning.proofs.Bool.{either, not_both, or_true_left}
use Rattle.meaning.proofs.Below.{every_elim, every_intro}
use Rattle.meaning.proofs.Reflect.{Decides, recast, decided, refuted, eq_decides, lt_decides, le_decides}
use Rattle.meaning.proofs.Reflect.{and_decides, or_decides, some_decides}
use Rattle.meaning.proofs.Bits.{condition_is}
use Rattle.meaning.proofs.Shows.{up_to_1}
use Rattle.meaning.proofs.Same.{of_kind, shown_condition}
use Rattle.meaning.proofs.Closure.{closed}
use Rattle.meaning.proofs.Rows.{transition_decides}
use Rattle.meaning.proofs.Sound.{SoundTable, timed_is, SortOf, sort_of}
use Rattle.meaning.proofs.Falling.{enabled_is, untimed_is, between_is, from_is, timed_decides}

-- WEIGHTS: what the arcs of a sort between a place and a set of transitions add up to.
module _ (tb : Table) (s p : ℕ) (F : ℕ → Bool) (Of : ℕ → Type 0) (decides : (u : ℕ) → Decides (F u) (Of u)) where
  arc_counts : (r : ℕ) → Decides (arc tb s r && eqb (tb.one r) p && F (tb.two r))
      (ArcOf tb s p Of r)
  arc_counts r =
      recast
      (and_decides (and_decides (and_decides (eq_decides (tb.kind r) 3) (eq_decides (tb.sort r) s)) (eq_decides (tb.one r) p)) (decides (tb.two r)))
      (λ w. (w.0.0.0, w.0.0.1, w.0.1, w.1))
      (λ w. (((w.0, w.1), w.2), w.3))

  sum_weighs : (n : ℕ)
      → Weighs tb s p Of n (sum n (λ r. cond (arc tb s r && eqb (tb.one r) p && F (tb.two r)) (tb.four r) 0))
  unfolding sum
  sum_weighs zero = Weighs.none
  sum_weighs (suc n) =
      ⊎_elim
      (λ (e : (arc tb s n && eqb (tb.one n) p && F (tb.two n)) ≡ true).
      rw e (Weighs.counts ((arc_counts n).0 e) (sum_weighs n)))
      (λ (e : (arc tb s n && eqb (tb.one n) p && F (tb.two n)) ≡ false).
      rw (e, add-zero) (Weighs.passes (λ a. not_both ((arc_counts n).1 a) e) (sum_weighs n)))
      (either (arc tb s n && eqb (tb.one n) p && F (tb.two n)))

  weighs_sum : {n w : ℕ} → Weighs tb s p Of n w
      → sum n (λ r. cond (arc tb s r && eqb (tb.one r) p && F (tb.two r)) (tb.four r) 0) ≡ w
  unfolding sum
  weighs_sum Weighs.none = refl
  weighs_sum (Weighs.counts {n} a h) = rw ((arc_counts n).1 a, weighs_sum h)
  weighs_sum (Weighs.passes {n} {w} a h) = rw (refuted (arc_counts n) a, weighs_sum h) (add-zero w)

  pub weighs_is : (w : ℕ)
      → (total tb (λ r. arc tb s r && eqb (tb.one r) p
      && F (tb.two r)) tb.four ≡ w) ↔ Weighs tb s p Of tb.records w
  unfolding total
  weighs_is w = (λ e. subst (Weighs tb s p Of tb.records) e (sum_weighs tb.records), weighs_sum)

-- What a set withdraws from a place, and what it puts there.
in_decides : (F : ℕ → Bool) (u : ℕ) → Decides (F u) (In F u)
in_decides F u = (λ e. e, λ e. e)

pub withdrawn_is : (tb : Table) (F : ℕ → Bool) (p w : ℕ) → (withdrawn tb F p ≡ w) ↔ Withdraws tb (In F) p w
unfolding withdrawn
withdrawn_is tb F p = weighs_is tb 0 p F (In F) (in_decides F)

pub added_is : (tb : Table) (F : ℕ → Bool) (p w : ℕ) → (added tb F p ≡ w) ↔ Adds tb (In F) p w
unfolding added
added_is tb F p = weighs_is tb 3 p F (In F) (in_decides F)

-- What is left for t: M less what the members of the set above t withdraw.
module _ (tb : Table) (m : ℕ → ℕ) (F : ℕ → Bool) (t : ℕ) where
  from_above : (p w : ℕ) → (withdrawn tb (λ u. F u && above tb u t) p ≡ w) ↔ Withdraws tb (InAbove tb F t) p w
  unfolding withdrawn
  from_above p =
      weighs_is tb 0 p (λ u. F u && above tb u t) (InAbove tb F t) (λ u. and_decides (in_decides F u) (closed tb u t))

  pub residual_is : Residual tb m F t (residual tb m F t)
  unfolding residual
  residual_is p = (withdrawn tb (λ u. F u && above tb u t) p, (from_above p _).0 refl, refl)

  pub residual_only : (left : ℕ → ℕ) → Residual tb m F t left → (p : ℕ) → left p ≡ residual tb m F t p
  unfolding residual
  residual_only left h p =
      let x = h p in
      x.2 ∙ ap (λ (w : ℕ). m p - w) (sym ((from_above p x.0).1 x.1))

module _ (tb : Table) (sound : SoundTable tb) where
  -- DEFINITION 5: conditions as wanted, in time, firable.
  pub as_wanted_is : (word t : ℕ)
      → Decides (as_wanted tb word t) (((c : ℕ) → Wanted tb t c 0 → TrueIn word c)
      × ((c : ℕ) → Wanted tb t c 1 → ¬ TrueIn word c))
  unfolding as_wanted
  as_wanted_is word t = (to, from)
    where
      met : ℕ → Bool
      met r = not (is tb 4 r && eqb (tb.one r) t) || beq (bit word (tb.two r)) (eqb (tb.sort r) 0)

      asked : (r : ℕ) → tb.kind r ≡ 4 → tb.one r ≡ t → met r ≡ beq (bit word (tb.two r)) (eqb (tb.sort r) 0)
      asked r k o = rw (eq-eqb (tb.kind r) 4 k, eq-eqb (tb.one r) t o)

      same : (a b : Bool) → beq a b ≡ true → a ≡ b
      same true true e = refl
      same true false e = sym e
      same false true e = e
      same false false e = refl

      to : every tb.records met ≡ true
          → ((c : ℕ) → Wanted tb t c 0 → TrueIn word c) × ((c : ℕ) → Wanted tb t c 1 → ¬ TrueIn word c)
      to e = (
        λ c (r, l, k, o, q, s).
            let here : bit word (tb.two r) ≡ eqb (tb.sort r) 0 = same _ _ (sym (asked r k o) ∙ every_elim tb.records met e r l) in
            (condition_is word c).0 (rw q at (here ∙ eq-eqb (tb.sort r) 0 s)),
        λ c (r, l, k, o, q, s) on.
            let here : bit word (tb.two r) ≡ eqb (tb.sort r) 0 = same _ _ (sym (asked r k o) ∙ every_elim tb.records met e r l) in
            let false_here : eqb (tb.sort r) 0 ≡ false = rw s in
            not_both ((condition_is word c).1 on) (rw q at (here ∙ false_here)),
      )

      from : ((c : ℕ) → Wanted tb t c 0 → TrueIn word c) × ((c : ℕ) → Wanted tb t c 1 → ¬ TrueIn word c)
          → every tb.records met ≡ true
      from (wants, shuns) =
          every_intro tb.records met
          (λ r l.
          ⊎_elim (λ ((k, o) : (tb.kind r ≡ 4) × (tb.one r ≡ t)). asked r k o ∙ wanted r l k o)
          (λ n. or_true_left _ (ap not (refuted (and_decides (eq_decides (tb.kind r) 4) (eq_decides (tb.one r) t)) n)))
          (decided (and_decides (eq_decides (tb.kind r) 4) (eq_decides (tb.one r) t))))
        where
          wanted : (r : ℕ) → r < tb.records → tb.kind r ≡ 4 → tb.one r ≡ t
              → beq (bit word (tb.two r)) (eqb (tb.sort r) 0) ≡ true
          wanted r l k o =
              up_to_1 (λ s. tb.sort r ≡ s → beq (bit word (tb.two r)) (eqb (tb.sort r) 0) ≡ true)
              (λ s. rw (s, (condition_is word (tb.two r)).1 (wants (tb.two r) (r, l, k, o, refl, s))))
              (λ s. rw (s, refuted (condition_is word (tb.two r)) (shuns (tb.two r) (r, l, k, o, refl, s))))
              (tb.sort r)
              (shown_condition (of_kind tb r 4 (sound.shown r l) k))
              refl

  pub in_time_is : (t c : ℕ) → Decides (in_time tb c t) (InTime tb t c)
  unfolding in_time
  in_time_is t c = go (sort_of tb sound t)
    where
      go : SortOf tb t → Decides (in_time tb c t) (InTime tb t c)
      go (SortOf.none z) = (
        λ e.
            record {
              between = λ a b (r, h, x, y). absurd (untimed_is tb sound t z (r, inl h));
              from = λ a (r, h, x). absurd (untimed_is tb sound t z (r, inr h));
            },
        λ h. rw z,
      )
      go (SortOf.between r i) =
          let (z, a_is, b_is) = timed_is tb sound t 1 r i in (
            λ e.
                let both = (and_decides (le_decides (a_of tb t) c) (le_decides c (b_of tb t))).0 (rw z at e) in
                record {
                  between = λ a b j.
                      let x = between_is tb sound t a b j in
                      (omega (arith, both.0, x.1), omega (arith, both.1, x.2));
                  from = λ a j. omega (arith, z, (from_is tb sound t a j).0);
                },
            λ h.
                let both = h.between (a_of tb t) (b_of tb t) (r, i, sym a_is, sym b_is) in
                rw (z, le-leb (a_of tb t) c both.0, le-leb c (b_of tb t) both.1),
          )
      go (SortOf.from r i) =
          let (z, a_is, b_is) = timed_is tb sound t 2 r i in (
            λ e.
                let low = ((and_decides (le_decides (a_of tb t) c) (eq_decides 2 2)).0 (rw z at e)).0 in
                record {
                  between = λ a b j. absurd (omega (arith, z, (between_is tb sound t a b j).0));
                  from = λ a j. omega (arith, low, (from_is tb sound t a j).1);
                },
            λ h. rw (z, le-leb (a_of tb t) c (h.from (a_of tb t) (r, i, sym a_is))),
          )

  pub firable_is : (s : State) (word t : ℕ) → Decides (firable tb s word t) (Firable tb s.tokens s.counter word t)
  unfolding firable
  firable_is s word t =
      recast
      (and_decides (transition_decides tb t)
      (and_decides (and_decides (enabled_is tb sound s.tokens t) (as_wanted_is word t)) (in_time_is t (s.counter t))))
      (λ w.
      record {
        declared = w.0;
        enabled = w.1.0.0;
        wanted_true = w.1.0.1.0;
        wanted_false = w.1.0.1.1;
        in_time = w.1.1;
      })
      (λ f. (f.declared, ((f.enabled, (f.wanted_true, f.wanted_false)), f.in_time)))

  -- DEFINITION 6: a set meets the rule exactly where its members are those that fire by it.
  pub rule_is : (s : State) (word : ℕ) (F : ℕ → Bool) (t : ℕ)
      → Decides (rule tb s.tokens (firable tb s word) F t) (Fires tb s.tokens s.counter word F t)
  unfolding rule
  rule_is s word F t =
      recast (and_decides (firable_is s word t) (enabled_is tb sound (residual tb s.tokens F t) t))
      (λ w.
      record {
        firable = w.0;
        enabled_by_the_rest = λ left h.
            subst (λ (m : ℕ → ℕ). Enabled tb m t) (sym (fun_ext (residual_only tb s.tokens F t left h))) w.1;
      })
      (λ f. (f.firable, f.enabled_by_the_rest (residual tb s.tokens F t) (residual_is tb s.tokens F t)))

  -- RULE 7: the new marking, of a set that M pays for.
  pub marked_is : (m : ℕ → ℕ) (F : ℕ → Bool) (p : ℕ) → withdrawn tb F p ≤ m p → (x : ℕ)
      → (marked tb m F p ≡ x) ↔ Marked tb m F p x
  unfolding marked
  marked_is m F p paid x = (
    λ e.
        record {
          taken = withdrawn tb F p;
          put = added tb F p;
          takes = (withdrawn_is tb F p _).0 refl;
          puts = (added_is tb F p _).0 refl;
          pays = paid;
          holds = omega arith;
        },
    λ h. omega (arith, (withdrawn_is tb F p h.taken).1 h.takes, (added_is tb F p h.put).1 h.puts),
  )

  -- RULE 8: who is starved, and who gets a reset order.
  pub starved_is : (m : ℕ → ℕ) (F : ℕ → Bool) (t : ℕ) → Decides (starved tb m F t) (Starved tb m F t)
  unfolding starved
  starved_is m F t =
      recast
      (some_decides tb.records
      (λ r.
      and_decides
      (and_decides
      (or_decides (and_decides (eq_decides (tb.kind r) 3) (eq_decides (tb.sort r) 0))
      (and_decides (eq_decides (tb.kind r) 3) (eq_decides (tb.sort r) 1)))
      (eq_decides (tb.two r) t))
      (and_decides (lt_decides 0 (withdrawn tb F (tb.one r))) (lt_decides (m (tb.one r) - withdrawn tb F (tb.one r)) (tb.four r)))))
      (λ (r, l, ((a, o), (s, q))).
      record {
        place = tb.one r;
        weight = tb.four r;
        taken = withdrawn tb F (tb.one r);
        arc = ⊎_elim (λ x. inl (r, l, x.0, x.1, refl, o, refl)) (λ x. inr (r, l, x.0, x.1, refl, o, refl)) a;
        takes = (withdrawn_is tb F (tb.one r) _).0 refl;
        something = s;
        short = q;
      })
      (λ h. ⊎_elim (λ a. back h 0 (λ r k s. inl (k, s)) a) (λ a. back h 1 (λ r k s. inr (k, s)) a) h.arc)
    where
      Sort : ℕ → Type 0
      Sort r = ((tb.kind r ≡ 3) × (tb.sort r ≡ 0)) ⊎ ((tb.kind r ≡ 3) × (tb.sort r ≡ 1))

      back : (h : Starved tb m F t) (s : ℕ) → ((r : ℕ) → tb.kind r ≡ 3 → tb.sort r ≡ s → Sort r)
          → Arc tb s h.place t h.weight
          → (r : ℕ) × (r < tb.records)
          × ((Sort r × (tb.two r ≡ t))
          × ((0 < withdrawn tb F (tb.one r)) × (m (tb.one r) - withdrawn tb F (tb.one r) < tb.four r)))
      back h s f (r, l, k, q, o, e, w) =
          let taken : withdrawn tb F (tb.one r) ≡ h.taken = ap (withdrawn tb F) o ∙ (withdrawn_is tb F h.place h.taken).1 h.takes in
          let here : m (tb.one r) ≡ m h.place = ap m o in
          (r, l, ((f r k q, e), (omega (arith, h.something), omega (arith, h.short))))

  pub reset_is : (m : ℕ → ℕ) (F : ℕ → Bool) (t : ℕ) → Decides (reset tb m F t) (Reset tb m F t)
  unfolding reset
  reset_is m F t = and_decides (timed_decides tb sound t) (or_decides (in_decides F t) (starved_is m F t))

  -- RULE 9: executed functions.
  pub executed_is : (F : ℕ → Bool) (k : ℕ) → Decides (executed tb F k) (Executed tb F k)
  unfolding executed
  executed_is F k =
      recast
      (some_decides tb.records
      (λ r. and_decides (and_decides (eq_decides (tb.kind r) 7) (eq_decides (tb.two r) k)) (in_decides F (tb.one r))))
      (λ w. (w.0, w.1, w.2.0.0, w.2.0.1, w.2.1))
      (λ w. (w.0, w.1, ((w.2, w.3), w.4)))
