-- The start marking pays for all that the fired set takes: any two fired transitions that take from one place are
-- comparable in the closed priority, so one of them is lowest, and its residual marking was already less by all the
-- others.
use mathlib.Core.Bool.{Bool, true, false, cond, not, ◌&&◌, ◌||◌, beq}
use mathlib.Core.Path.{◌≡◌, refl, sym, ap, ◌∙◌, subst}
use mathlib.Core.Logic.{◌⊎◌, inl, inr, ⊎_elim}
use Prim.Native.Nat.{ℕ, zero, suc, ◌+◌, ◌-◌, ◌≤◌, ◌<◌}
use native.Mathlib.Nat.{not-suc-le-zero, lt_irrefl}
use native.Mathlib.Omega.{arith}
use lib.Dec.{ltb, eqb}
use borrow.Author.Tests.{eqb-true, eqb-false, eq-eqb, ne_eqb, not-true, ltb-true, ltb-false}
use Rattle.meaning.specs.Below.{some}
use Rattle.meaning.specs.Bytes.{bit}
use Rattle.meaning.specs.Table.{Table, total, is, basic, test, inhibitor, transition}
use Rattle.meaning.specs.Priority.{above}
use Rattle.meaning.specs.Defined.{some_two, conflict, complementary, inhibited, settled}
use Rattle.meaning.specs.Image.{State}
use Rattle.meaning.specs.Cycle.{enabled, as_wanted, firable, withdrawn, residual, rule}
use Rattle.meaning.specs.Orders.{Meets}
use Rattle.meaning.proofs.Bool.{either, not_both, and_left, and_right, and_true, or_cases}
use Rattle.meaning.proofs.Below.{some_elim, some_intro, every_elim, sum_zero, sum_but_one, last}
use Rattle.meaning.proofs.Well.{Well}
use Rattle.meaning.proofs.Enabled.{arc_is, finds_basic, finds_test, finds_inhibitor}

-- `some_two` finds two records.
pub two_elim : (n : ℕ) (p : ℕ → Bool) (q : ℕ → ℕ → Bool) → some_two n p q ≡ true
    → (r : ℕ) × (s : ℕ) × (r < n) × (s < n) × (p r ≡ true) × (q r s ≡ true)
unfolding some_two
two_elim n p q e =
    let x = some_elim n (λ r. p r && some n (q r)) e in
    let y = some_elim n (q x.0) (and_right (p x.0) (some n (q x.0)) x.2) in
    (x.0, y.0, x.1, y.1, and_left (p x.0) (some n (q x.0)) x.2, y.2)

pub two_intro : (n : ℕ) (p : ℕ → Bool) (q : ℕ → ℕ → Bool) (r s : ℕ) → r < n → s < n → p r ≡ true → q r s ≡ true
    → some_two n p q ≡ true
unfolding some_two
two_intro n p q r s hr hs ep eq = some_intro n (λ k. p k && some n (q k)) r hr (and_true ep (some_intro n (q r) s hs eq))

-- The parts of a firable transition.
module _ (tb : Table) (s : State) (word : ℕ) (t : ℕ) (f : firable tb s word t ≡ true) where
  pub firable_enabled : enabled tb s.tokens t ≡ true
  unfolding firable
  firable_enabled =
      and_left _ (as_wanted tb word t) (and_left (enabled tb s.tokens t && as_wanted tb word t) _ (and_right (transition tb t) _ f))

  pub firable_wanted : as_wanted tb word t ≡ true
  unfolding firable
  firable_wanted =
      and_right (enabled tb s.tokens t) _ (and_left (enabled tb s.tokens t && as_wanted tb word t) _ (and_right (transition tb t) _ f))

-- Two Bools that are found alike are equal.
alike : (a b : Bool) → beq a b ≡ true → a ≡ b
alike true true e = refl
alike true false e = sym e
alike false true e = e
alike false false e = refl

-- A condition of a firable transition stands in the word as its sort asks.
pub condition_met : (tb : Table) (word t : ℕ) → as_wanted tb word t ≡ true → (r : ℕ) → r < tb.records
    → is tb 4 r ≡ true
    → tb.one r ≡ t → bit word (tb.two r) ≡ eqb (tb.sort r) 0
unfolding as_wanted
condition_met tb word t e r h k o =
    alike _ _ (strip (and_true k (eq-eqb (tb.one r) t o)) (every_elim tb.records _ e r h))
  where
    strip : {a b : Bool} → a ≡ true → (not a || b) ≡ true → b ≡ true
    strip p q = rw p at q

-- Two firable transitions do not want one condition in two ways.
pub not_complementary : (tb : Table) → Well tb → (word i j : ℕ) → as_wanted tb word i ≡ true
    → as_wanted tb word j ≡ true
    → complementary tb i j ≡ true → ⊥
unfolding complementary
not_complementary tb well word i j wi wj e =
    let x = two_elim tb.records _ _ e in
    let r = x.0 in
    let s = x.1 in
    let kr : is tb 4 r ≡ true = and_left (is tb 4 r) _ x.4 in
    let or : tb.one r ≡ i = eqb-true (tb.one r) i (and_right (is tb 4 r) _ x.4) in
    let left = and_left (is tb 4 s && eqb (tb.one s) j && eqb (tb.two s) (tb.two r)) _ x.5 in
    let front = and_left (is tb 4 s && eqb (tb.one s) j) _ left in
    let ks : is tb 4 s ≡ true = and_left (is tb 4 s) _ front in
    let os : tb.one s ≡ j = eqb-true (tb.one s) j (and_right (is tb 4 s) _ front) in
    let one_condition : tb.two s ≡ tb.two r = eqb-true (tb.two s) (tb.two r) (and_right (is tb 4 s && eqb (tb.one s) j) _ left) in
    let apart = not-true (eqb (tb.sort s) (tb.sort r)) (and_right (is tb 4 s && eqb (tb.one s) j && eqb (tb.two s) (tb.two r)) _ x.5) in
    let asked : eqb (tb.sort s) 0 ≡ eqb (tb.sort r) 0 =
    sym (condition_met tb word j wj s x.3 ks os) ∙ ap (bit word) one_condition ∙ condition_met tb word i wi r x.2 kr or in
    eqb-false (tb.sort s) (tb.sort r) apart
    (low (tb.sort s) (tb.sort r) (well.condition_sort s x.3 (eqb-true (tb.kind s) 4 ks))
    (well.condition_sort r x.2 (eqb-true (tb.kind r) 4 kr)) asked)
  where
    -- numbers of at most 1 that are both 0 or both not are equal
    low : (a b : ℕ) → a ≤ 1 → b ≤ 1 → eqb a 0 ≡ eqb b 0 → a ≡ b
    low zero zero ha hb e = refl
    low zero (suc b) ha hb e = not_both (sym e ∙ eq-eqb 0 0 refl) (ne_eqb (suc b) 0 (λ q. omega arith))
    low (suc a) zero ha hb e = not_both (e ∙ eq-eqb 0 0 refl) (ne_eqb (suc a) 0 (λ q. omega arith))
    low (suc a) (suc b) ha hb e = omega arith

-- Two transitions enabled by one marking are not told apart by an inhibitor arc.
pub not_inhibited : (tb : Table) (m : ℕ → ℕ) (i j : ℕ) → enabled tb m i ≡ true → enabled tb m j ≡ true
    → inhibited tb i j ≡ true → ⊥
unfolding inhibited
not_inhibited tb m i j ei ej e =
    let x = two_elim tb.records _ _ e in
    let r = x.0 in
    let s = x.1 in
    let to_i = eqb-true (tb.two r) i (and_right (basic tb r || test tb r) _ x.4) in
    let found : tb.four r ≤ m (tb.one r) =
    ⊎_elim (λ b. finds_basic tb m i ei r x.2 b to_i) (λ b. finds_test tb m i ei r x.2 b to_i)
    (or_cases (basic tb r) (test tb r) (and_left (basic tb r || test tb r) _ x.4)) in
    let left = and_left (inhibitor tb s && eqb (tb.two s) j && eqb (tb.one s) (tb.one r)) _ x.5 in
    let front = and_left (inhibitor tb s && eqb (tb.two s) j) _ left in
    let less : m (tb.one s) < tb.four s =
    finds_inhibitor tb m j ej s x.3 (and_left (inhibitor tb s) _ front) (eqb-true (tb.two s) j (and_right (inhibitor tb s) _ front)) in
    let one_place : tb.one s ≡ tb.one r = eqb-true (tb.one s) (tb.one r) (and_right (inhibitor tb s && eqb (tb.two s) j) _ left) in
    let weights : tb.four s ≡ tb.four r =
    eqb-true (tb.four s) (tb.four r) (and_right (inhibitor tb s && eqb (tb.two s) j && eqb (tb.one s) (tb.one r)) _ x.5) in
    omega (arith, ap m one_place)

-- Two basic arcs from one place put their transitions in conflict.
pub in_conflict : (tb : Table) (r s : ℕ) → r < tb.records → s < tb.records → basic tb r ≡ true → basic tb s ≡ true
    → tb.one s ≡ tb.one r → conflict tb (tb.two r) (tb.two s) ≡ true
unfolding conflict
in_conflict tb r s hr hs br bs e =
    two_intro tb.records _ _ r s hr hs (and_true br (eq-eqb (tb.two r) (tb.two r) refl))
    (and_true (and_true bs (eq-eqb (tb.two s) (tb.two s) refl)) (eq-eqb (tb.one s) (tb.one r) e))

-- Among so many records, none passes, or one that passes has the greatest height of all that do.
highest : (n : ℕ) (p : ℕ → Bool) (h : ℕ → ℕ)
    → ((k : ℕ) → k < n → p k ≡ false) ⊎ ((r : ℕ) × (r < n) × (p r ≡ true) × ((k : ℕ) → k < n → p k ≡ true → h k ≤ h r))
highest zero p h = inl (λ k l. absurd (not-suc-le-zero l))
highest (suc n) p h = ⊎_elim new old (highest n p h)
  where
    Result : Type 0
    Result =
        ((k : ℕ) → k < suc n → p k ≡ false)
        ⊎ ((r : ℕ) × (r < suc n) × (p r ≡ true) × ((k : ℕ) → k < suc n → p k ≡ true → h k ≤ h r))

    new : ((k : ℕ) → k < n → p k ≡ false) → Result
    new f =
        ⊎_elim
        (λ (t : p n ≡ true).
        inr (
          n,
          omega arith,
          t,
          λ k l e.
              ⊎_elim (λ (q : k ≡ n). omega (arith, ap h q)) (λ (b : k < n). not_both e (f k b)) (last l),
        ))
        (λ (t : p n ≡ false).
        inl (λ k l. ⊎_elim (λ (q : k ≡ n). ap p q ∙ t) (λ (b : k < n). f k b) (last l)))
        (either (p n))

    old : (r : ℕ) × (r < n) × (p r ≡ true) × ((k : ℕ) → k < n → p k ≡ true → h k ≤ h r) → Result
    old x =
        ⊎_elim
        (λ (t : (p n && ltb (h x.0) (h n)) ≡ true).
        let rises = ltb-true (h x.0) (h n) (and_right (p n) _ t) in
        inr (
          n,
          omega arith,
          and_left (p n) _ t,
          λ k l e.
              ⊎_elim (λ (q : k ≡ n). omega (arith, ap h q)) (λ (b : k < n). omega (arith, x.3 k b e)) (last l),
        ))
        (λ (t : (p n && ltb (h x.0) (h n)) ≡ false).
        inr (
          x.0,
          omega arith,
          x.2,
          λ k l e.
              ⊎_elim (λ (q : k ≡ n). stays k q (sym (ap p q) ∙ e) t) (λ (b : k < n). x.3 k b e) (last l),
        ))
        (either (p n && ltb (h x.0) (h n)))
      where
        stays : (k : ℕ) → k ≡ n → p n ≡ true → (p n && ltb (h x.0) (h n)) ≡ false → h k ≤ h x.0
        stays k q e t = omega (arith, ap h q, ltb-false (h x.0) (h n) (rw e at t))

-- A weight counted under a test is at most the same weight counted under a weaker one.
pub part : (a b : Bool) (w : ℕ) → (a ≡ true → b ≡ true) → cond a w 0 ≤ cond b w 0
part true b w f = rw (f refl) (omega arith)
part false b w f = omega arith

-- Over an accepted table, a state after its falling edge, a word, a set that meets definition 6, and a height that
-- falls along the priority.
module _ (tb : Table) (well : Well tb) (s : State) (word : ℕ) (F : ℕ → Bool) (meets : Meets tb s word F) (h : ℕ → ℕ)
    (falls : (u t : ℕ) → u < 64 → t < 64 → above tb u t ≡ true → h u < h t) where
  -- A fired transition is firable, and enabled by its residual marking.
  pub fired_firable : (t : ℕ) → F t ≡ true → firable tb s word t ≡ true
  unfolding rule
  fired_firable t e = and_left (firable tb s word t) _ (sym (meets t) ∙ e)

  pub fired_residual : (t : ℕ) → F t ≡ true → enabled tb (residual tb s.tokens F t) t ≡ true
  unfolding rule
  fired_residual t e = and_right (firable tb s word t) _ (sym (meets t) ∙ e)

  -- A settled pair of fired transitions is settled by priority.
  by_priority : (i j : ℕ) → F i ≡ true → F j ≡ true → settled tb i j ≡ true
      → (above tb i j ≡ true) ⊎ (above tb j i ≡ true)
  unfolding settled
  by_priority i j fi fj e =
      let ei = firable_enabled tb s word i (fired_firable i fi) in
      let ej = firable_enabled tb s word j (fired_firable j fj) in
      let wi = firable_wanted tb s word i (fired_firable i fi) in
      let wj = firable_wanted tb s word j (fired_firable j fj) in
      ⊎_elim
      (λ a.
      ⊎_elim
      (λ b.
      ⊎_elim (λ c. or_cases (above tb i j) (above tb j i) c)
      (λ c. absurd (not_complementary tb well word i j wi wj c))
      (or_cases (above tb i j || above tb j i) (complementary tb i j) b))
      (λ b. absurd (not_inhibited tb s.tokens i j ei ej b))
      (or_cases (above tb i j || above tb j i || complementary tb i j) (inhibited tb i j) a))
      (λ a. absurd (not_inhibited tb s.tokens j i ej ei a))
      (or_cases (above tb i j || above tb j i || complementary tb i j || inhibited tb i j) (inhibited tb j i) e)

  -- Two fired transitions that take from one place are comparable.
  comparable : (i j : ℕ) → i < 64 → j < 64 → (i ≡ j → ⊥) → F i ≡ true → F j ≡ true → conflict tb i j ≡ true
      → conflict tb j i ≡ true
      → (above tb i j ≡ true) ⊎ (above tb j i ≡ true)
  comparable i j li lj apart fi fj c d =
      ⊎_elim (λ (l : ltb i j ≡ true). by_priority i j fi fj (well.settles i j li lj (ltb-true i j l) c))
      (λ (l : ltb i j ≡ false).
      ⊎_elim inr inl
      (by_priority j i fj fi (well.settles j i lj li (omega (arith, ltb-false i j l, apart)) d)))
      (either (ltb i j))

  -- Record r takes from place p for a fired transition.
  taking : ℕ → ℕ → Bool
  taking p r = basic tb r && eqb (tb.one r) p && F (tb.two r)

  -- Of two such records, the one whose transition is highest-ranked in h has the other's transition above its own.
  others_above : (p r k : ℕ) → r < tb.records → k < tb.records → taking p r ≡ true → taking p k ≡ true → (k ≡ r → ⊥)
      → h (tb.two k) ≤ h (tb.two r) → above tb (tb.two k) (tb.two r) ≡ true
  unfolding taking
  others_above p r k hr hk tr tk apart le =
      let front_r = and_left (basic tb r && eqb (tb.one r) p) (F (tb.two r)) tr in
      let front_k = and_left (basic tb k && eqb (tb.one k) p) (F (tb.two k)) tk in
      let br = and_left (basic tb r) _ front_r in
      let bk = and_left (basic tb k) _ front_k in
      let one_place : tb.one k ≡ tb.one r =
      eqb-true (tb.one k) p (and_right (basic tb k) _ front_k) ∙ sym (eqb-true (tb.one r) p (and_right (basic tb r) _ front_r)) in
      let lr = well.arc_transition r hr (arc_is tb 0 r br).0 in
      let lk = well.arc_transition k hk (arc_is tb 0 k bk).0 in
      ⊎_elim (λ a. a)
      (λ (a : above tb (tb.two r) (tb.two k) ≡ true). absurd (lt_irrefl (h (tb.two k)) (omega (arith, falls (tb.two r) (tb.two k) lr lk a))))
      (comparable (tb.two k) (tb.two r) lk lr (λ e. apart (well.single k r hk hr bk br one_place e))
      (and_right (basic tb k && eqb (tb.one k) p) (F (tb.two k)) tk)
      (and_right (basic tb r && eqb (tb.one r) p) (F (tb.two r)) tr)
      (in_conflict tb k r hk hr bk br (sym one_place))
      (in_conflict tb r k hr hk br bk one_place))

  -- What all fired transitions take from p is at most what the lowest takes and what those above it take.
  pub pays : (p : ℕ) → withdrawn tb F p ≤ s.tokens p
  unfolding withdrawn total taking residual
  pays p = ⊎_elim nothing lowest (highest tb.records (taking p) (λ r. h (tb.two r)))
    where
      nothing : ((k : ℕ) → k < tb.records → taking p k ≡ false) → withdrawn tb F p ≤ s.tokens p
      nothing f = omega (arith, sum_zero tb.records (λ r. cond (taking p r) (tb.four r) 0) (λ k l. rw (f k l)))

      lowest : (r : ℕ) × (r < tb.records) × (taking p r ≡ true)
          × ((k : ℕ) → k < tb.records → taking p k ≡ true → h (tb.two k) ≤ h (tb.two r))
          → withdrawn tb F p ≤ s.tokens p
      lowest x =
          let r = x.0 in
          let t = tb.two r in
          let G : ℕ → Bool = λ u. F u && above tb u t in
          let front = and_left (basic tb r && eqb (tb.one r) p) (F t) x.2 in
          let b = and_left (basic tb r) _ front in
          let at_p : tb.one r ≡ p = eqb-true (tb.one r) p (and_right (basic tb r) _ front) in
          let found = finds_basic tb (residual tb s.tokens F t) t (fired_residual t (and_right (basic tb r && eqb (tb.one r) p) (F t) x.2)) r x.1 b refl in
          let weight = well.arc_weight r x.1 (arc_is tb 0 r b).0 in
          let found_at_p : tb.four r ≤ s.tokens p - withdrawn tb G p =
          subst (λ (q : ℕ). tb.four r ≤ residual tb s.tokens F t q) at_p found in
          let rest : withdrawn tb F p ≤ cond (taking p r) (tb.four r) 0 + withdrawn tb G p =
          sum_but_one tb.records (λ k. cond (taking p k) (tb.four k) 0)
          (λ k. cond (basic tb k && eqb (tb.one k) p && G (tb.two k)) (tb.four k) 0)
          r
          (λ k l apart.
          part (taking p k) (basic tb k && eqb (tb.one k) p && G (tb.two k)) (tb.four k)
          (λ e.
          and_true (and_left (basic tb k && eqb (tb.one k) p) (F (tb.two k)) e)
          (and_true (and_right (basic tb k && eqb (tb.one k) p) (F (tb.two k)) e)
          (others_above p r k x.1 l x.2 e apart (x.3 k l e))))) in
          let own : withdrawn tb F p ≤ tb.four r + withdrawn tb G p = rw x.2 at rest in
          omega arith
