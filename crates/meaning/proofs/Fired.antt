-- Exactly one set meets definition 6, and `fired` computes it: a transition's case rests only on those above it, and
-- these have fewer above.
use mathlib.Core.Bool.{Bool, true, false, cond, not, ◌&&◌, and_comm}
use mathlib.Core.Path.{◌≡◌, refl, sym, ap, ◌∙◌, subst, fun_ext}
use mathlib.Core.Logic.{◌⊎◌, inl, inr, ⊎_elim}
use Prim.Native.Nat.{ℕ, zero, suc, ◌-◌, ◌≤◌, ◌<◌}
use native.Mathlib.Nat.{not-suc-le-zero}
use native.Mathlib.Omega.{arith}
use lib.Dec.{ltb, eqb}
use borrow.Author.Tests.{ltb-true, ltb-false, eqb-true}
use Rattle.meaning.specs.Below.{sum, members, within}
use Rattle.meaning.specs.Table.{Table, total, is, basic, post, inhibitor, transition}
use Rattle.meaning.specs.Priority.{above}
use Rattle.meaning.specs.Image.{State}
use Rattle.meaning.specs.Cycle.{stops, enabled, firable, withdrawn, residual, rule, rounds, fired}
use Rattle.meaning.specs.Orders.{Meets}
use Rattle.meaning.proofs.Bool.{either, and_left, and_right}
use Rattle.meaning.proofs.Below.{last, some_same, sum_same, sum_mono, within_out, within_members}
use Rattle.meaning.proofs.Well.{Well}
use Rattle.meaning.proofs.Closure.{above_trans}

-- A number is below 64 or not.
side : (t : ℕ) → (t < 64) ⊎ (64 ≤ t)
side t = ⊎_elim (λ (e : ltb t 64 ≡ true). inl (ltb-true t 64 e)) (λ (e : ltb t 64 ≡ false). inr (ltb-false t 64 e)) (either (ltb t 64))

-- Two conjunctions whose second tests agree where the first passes are the same.
pub and_same : (a b c : Bool) → (a ≡ true → b ≡ c) → (a && b) ≡ (a && c)
and_same true b c f = f refl
and_same false b c f = refl

-- And so where the second tests are the same, and the first agree where it passes.
same_and : (a b c : Bool) → (c ≡ true → a ≡ b) → (a && c) ≡ (b && c)
same_and a b c f = and_comm a c ∙ and_same c a b f ∙ and_comm c b

-- AGREEMENT: what enabling, withdrawing and the rule rest on.

-- Enabling rests only on the marking at the places of the transition's arcs.
pub enabled_same : (tb : Table) (m n : ℕ → ℕ) (t : ℕ)
    → ((r : ℕ) → r < tb.records → tb.kind r ≡ 3 → tb.two r ≡ t → m (tb.one r) ≡ n (tb.one r))
    → enabled tb m t ≡ enabled tb n t
unfolding enabled stops
enabled_same tb m n t f = ap not (some_same tb.records (stops tb m t) (stops tb n t) same)
  where
    input : ℕ → Bool
    input r = is tb 3 r && not (post tb r)

    against : ℕ → ℕ → Bool
    against r found = cond (inhibitor tb r) (not (ltb found (tb.four r))) (ltb found (tb.four r))

    same : (r : ℕ) → r < tb.records → stops tb m t r ≡ stops tb n t r
    same r h =
        and_same (input r && eqb (tb.two r) t) (against r (m (tb.one r))) (against r (n (tb.one r)))
        (λ k.
        let arc_of : tb.kind r ≡ 3 = eqb-true (tb.kind r) 3 (and_left _ (not (post tb r)) (and_left (input r) _ k)) in
        ap (against r) (f r h arc_of (eqb-true (tb.two r) t (and_right (input r) _ k))))

-- What is withdrawn rests only on the transitions that basic arcs name.
pub withdrawn_same : (tb : Table) (F G : ℕ → Bool) (p : ℕ)
    → ((r : ℕ) → r < tb.records → basic tb r ≡ true → F (tb.two r) ≡ G (tb.two r))
    → withdrawn tb F p ≡ withdrawn tb G p
unfolding withdrawn total
withdrawn_same tb F G p f =
    sum_same tb.records (λ r. cond (of r && F (tb.two r)) (tb.four r) 0) (λ r. cond (of r && G (tb.two r)) (tb.four r) 0)
    (λ r h.
    ap (λ (b : Bool). cond b (tb.four r) 0)
    (and_same (of r) (F (tb.two r)) (G (tb.two r)) (λ k. f r h (and_left (basic tb r) (eqb (tb.one r) p) k))))
  where
    of : ℕ → Bool
    of r = basic tb r && eqb (tb.one r) p

-- HEIGHT: how many stand above a transition.

-- A sum no part of which is larger, and one part smaller, is smaller.
pub sum_less : (n : ℕ) (f g : ℕ → ℕ) (k : ℕ) → k < n → ((j : ℕ) → j < n → f j ≤ g j) → f k < g k → sum n f < sum n g
unfolding sum
sum_less zero f g k h le lt = absurd (not-suc-le-zero h)
sum_less (suc n) f g k h le lt =
    ⊎_elim
    (λ (q : k ≡ n).
    let here : f n < g n = subst (λ (x : ℕ). f x < g x) q lt in
    omega (arith, sum_mono n f g (λ j l. le j (omega arith))))
    (λ (l : k < n). omega (arith, sum_less n f g k l (λ j b. le j (omega arith)) lt, le n (omega arith)))
    (last h)

-- One for a test that passes, else none; more where more passes.
abbrev one_if : Bool → ℕ
one_if b = cond b 1 0

one_if_mono : (a b : Bool) → (a ≡ true → b ≡ true) → one_if a ≤ one_if b
one_if_mono true b f = rw (f refl) (omega arith)
one_if_mono false b f = omega arith

-- How many transitions stand above t.
unfoldable pub height : Table → ℕ → ℕ
height tb t = sum 64 (λ u. one_if (above tb u t))

-- One more round is the rule, below 64; no round goes past.
round : (tb : Table) (m : ℕ → ℕ) (able : ℕ → Bool) (k t : ℕ) → t < 64
    → within (rounds tb m able (suc k)) t ≡ rule tb m able (within (rounds tb m able k)) t
unfolding rounds
round tb m able k t = within_members 64 (rule tb m able (within (rounds tb m able k))) t

pub rounds_out : (tb : Table) (m : ℕ → ℕ) (able : ℕ → Bool) (k t : ℕ) → 64 ≤ t → within (rounds tb m able k) t ≡ false
unfolding rounds within
rounds_out tb m able zero t h = refl
rounds_out tb m able (suc k) t h = within_out 64 (rule tb m able (within (rounds tb m able k))) t h

-- The rule keeps to the firable.
rule_out : (tb : Table) (m : ℕ → ℕ) (able F : ℕ → Bool) (t : ℕ) → able t ≡ false → rule tb m able F t ≡ false
unfolding rule
rule_out tb m able F t e = rw e

module _ (tb : Table) (ok : Well tb) where
  -- All above u are above what u is above, and u itself is one more.
  pub height_falls : (u t : ℕ) → u < 64 → t < 64 → above tb u t ≡ true → height tb u < height tb t
  unfolding height
  height_falls u t hu ht e =
      sum_less 64 (λ v. one_if (above tb v u)) (λ v. one_if (above tb v t)) u hu
      (λ v h. one_if_mono (above tb v u) (above tb v t) (λ q. above_trans tb v u t q e))
      (rw (ok.no_circle u hu, e) (omega arith))

  -- At most the 63 others stand above t.
  pub height_bound : (t : ℕ) → t < 64 → height tb t < 64
  unfolding height sum
  height_bound t h =
      sum_less 64 (λ u. one_if (above tb u t)) (λ u. 1) t h (λ u l. one_if_mono (above tb u t) true (λ e. refl))
      (rw (ok.no_circle t h) (omega arith))

  -- The rule for t rests only on the transitions below 64 that stand above t.
  pub rule_same : (m : ℕ → ℕ) (able F G : ℕ → Bool) (t : ℕ) → ((u : ℕ) → u < 64 → above tb u t ≡ true → F u ≡ G u)
      → rule tb m able F t ≡ rule tb m able G t
  unfolding rule residual
  rule_same m able F G t f =
      ap (λ (b : Bool). able t && b)
      (enabled_same tb (residual tb m F t) (residual tb m G t) t
      (λ r h k e. ap (λ (w : ℕ). m (tb.one r) - w) (withdrawn_same tb _ _ (tb.one r) taken)))
    where
      taken : (r : ℕ) → r < tb.records → basic tb r ≡ true
          → (F (tb.two r) && above tb (tb.two r) t) ≡ (G (tb.two r) && above tb (tb.two r) t)
      taken r h k =
          let arc_of : tb.kind r ≡ 3 = eqb-true (tb.kind r) 3 (and_left (is tb 3 r) (eqb (tb.sort r) 0) k) in
          same_and (F (tb.two r)) (G (tb.two r)) (above tb (tb.two r) t) (f (tb.two r) (ok.arc_transition r h arc_of))

  -- Two sets that meet the rule at the transitions of height below h agree there.
  pub agree : (m : ℕ → ℕ) (able F G : ℕ → Bool) (h : ℕ)
      → ((t : ℕ) → t < 64 → height tb t < h → F t ≡ rule tb m able F t)
      → ((t : ℕ) → t < 64 → height tb t < h → G t ≡ rule tb m able G t)
      → (t : ℕ) → t < 64 → height tb t < h → F t ≡ G t
  agree m able F G zero f g t l b = absurd (not-suc-le-zero b)
  agree m able F G (suc h) f g t l b =
      let higher = agree m able F G h (λ u k c. f u k (omega arith)) (λ u k c. g u k (omega arith)) in
      f t l b
      ∙ rule_same m able F G t (λ u k e. higher u k (omega (arith, height_falls u t k l e)))
      ∙ sym (g t l b)

  -- After k rounds the rule is met at each transition of height below k: the round before was right for those above it.
  settled : (m : ℕ → ℕ) (able : ℕ → Bool) (k t : ℕ) → t < 64 → height tb t < k
      → within (rounds tb m able k) t ≡ rule tb m able (within (rounds tb m able k)) t
  settled m able zero t l b = absurd (not-suc-le-zero b)
  settled m able (suc k) t l b =
      let before = within (rounds tb m able k) in
      let after = within (rounds tb m able (suc k)) in
      let higher = settled m able k in
      round tb m able k t l
      ∙ rule_same m able before after t
      (λ u h e. higher u h (omega (arith, height_falls u t h l e)) ∙ sym (round tb m able k u h))

  -- Only what is declared is firable, and that is below 64; so the list of the firable below 64 holds them all.
  pub firable_out : (s : State) (word t : ℕ) → 64 ≤ t → firable tb s word t ≡ false
  unfolding firable
  firable_out s word t h =
      ⊎_elim (λ (e : firable tb s word t ≡ true). absurd (omega (arith, ok.transition_known t (and_left (transition tb t) _ e))))
      (λ (e : firable tb s word t ≡ false). e)
      (either (firable tb s word t))

  pub firable_all : (s : State) (word t : ℕ) → within (members 64 (firable tb s word)) t ≡ firable tb s word t
  firable_all s word t =
      ⊎_elim (λ (l : t < 64). within_members 64 (firable tb s word) t l)
      (λ (h : 64 ≤ t). within_out 64 (firable tb s word) t h ∙ sym (firable_out s word t h))
      (side t)

  -- What is computed meets definition 6: 64 rounds settle every height.
  pub fired_meets : (s : State) (word : ℕ) → Meets tb s word (within (fired tb s word))
  unfolding fired
  fired_meets s word t =
      let able = within (members 64 (firable tb s word)) in
      let F = within (fired tb s word) in
      ⊎_elim
      (λ (l : t < 64).
      settled s.tokens able 64 t l (height_bound t l)
      ∙ ap (λ (a : ℕ → Bool). rule tb s.tokens a F t) (fun_ext (firable_all s word)))
      (λ (h : 64 ≤ t).
      rounds_out tb s.tokens able 64 t h ∙ sym (rule_out tb s.tokens (firable tb s word) F t (firable_out s word t h)))
      (side t)

  -- And nothing else meets it.
  pub fired_only : (s : State) (word : ℕ) (F : ℕ → Bool) → Meets tb s word F → (t : ℕ)
      → F t ≡ within (fired tb s word) t
  fired_only s word F f t =
      let m = s.tokens in
      let able = firable tb s word in
      let G = within (fired tb s word) in
      let g = fired_meets s word in
      ⊎_elim (λ (l : t < 64). agree m able F G 64 (λ u k b. f u) (λ u k b. g u) t l (height_bound t l))
      (λ (h : 64 ≤ t).
      let none = firable_out s word t h in
      f t ∙ rule_out tb m able F t none ∙ sym (g t ∙ rule_out tb m able G t none))
      (side t)
