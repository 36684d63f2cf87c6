-- Among records that the page shows, the test `same` decides whether two say the same thing: kind by kind, what the
-- test compares is what the page compares.
use mathlib.Core.Bool.{Bool, true, false, beq}
use mathlib.Core.Path.{◌≡◌, refl, sym, ◌∙◌, subst}
use mathlib.Core.Logic.{◌≢◌, ◌⊎◌, inl, inr, ⊎_elim}
use Prim.Native.Nat.{ℕ, ◌≤◌}
use native.Mathlib.Omega.{arith}
use lib.Dec.{eqb}
use borrow.Author.Tests.{eqb-true, eqb-false, eq-eqb, ne_eqb}
use Rattle.meaning.specs.Table.{Table, post}
use Rattle.meaning.specs.Defined.{same}
use Rattle.meaning.specs.Says.{Shown, Same}
use Rattle.meaning.proofs.Bool.{either}
use Rattle.meaning.proofs.Reflect.{Decides, eq_decides, and_decides, or_decides, not_decides}
use Rattle.meaning.proofs.Shows.{Shows, each_kind}

-- What the page shows of each kind that other laws need.
pub shown_kind : {k o t s f x : ℕ} → Shown k o t s f x → (1 ≤ k) × (k ≤ 7)
shown_kind (Shown.place a b) = omega arith
shown_kind (Shown.untimed a) = omega arith
shown_kind (Shown.between a b c d) = omega arith
shown_kind (Shown.from a b c) = omega arith
shown_kind (Shown.arc a b c d e) = omega arith
shown_kind (Shown.condition a b c) = omega arith
shown_kind (Shown.priority a b) = omega arith
shown_kind (Shown.action a b) = omega arith
shown_kind (Shown.function a b) = omega arith

pub shown_place : {o t s f x : ℕ} → Shown 1 o t s f x → (o ≤ 127) × (t ≡ 0)
shown_place (Shown.place a b) = (a, refl)

pub shown_transition : {o t s f x : ℕ} → Shown 2 o t s f x → (o ≤ 63) × (t ≡ 0) × (s ≤ 2)
shown_transition (Shown.untimed a) = (a, refl, omega arith)
shown_transition (Shown.between a b c d) = (a, refl, omega arith)
shown_transition (Shown.from a b c) = (a, refl, omega arith)

pub shown_arc : {o t s f x : ℕ} → Shown 3 o t s f x → (o ≤ 127) × (t ≤ 63) × (s ≤ 3)
shown_arc (Shown.arc a b c d e) = (a, b, c)

pub shown_condition : {o t s f x : ℕ} → Shown 4 o t s f x → s ≤ 1
shown_condition (Shown.condition a b c) = c

pub shown_priority : {o t s f x : ℕ} → Shown 5 o t s f x → (o ≤ 63) × (t ≤ 63)
shown_priority (Shown.priority a b) = (a, b)

-- The same of a record whose kind is known.
pub of_kind : (tb : Table) (r k : ℕ) → Shows tb r → tb.kind r ≡ k
    → Shown k (tb.one r) (tb.two r) (tb.sort r) (tb.four r) (tb.six r)
of_kind tb r k h e = subst (λ (n : ℕ). Shown n (tb.one r) (tb.two r) (tb.sort r) (tb.four r) (tb.six r)) e h

-- The test for two tests that are the same.
beq_decides : (a b : Bool) → Decides (beq a b) (a ≡ b)
beq_decides true true = (λ e. refl, λ e. refl)
beq_decides true false = (λ e. sym e, λ e. sym e)
beq_decides false true = (λ e. e, λ e. e)
beq_decides false false = (λ e. refl, λ e. refl)

-- Of an arc, `post` tests the sort.
post_is : (tb : Table) (r : ℕ) → tb.kind r ≡ 3 → post tb r ≡ eqb (tb.sort r) 3
post_is tb r e = rw (eq-eqb (tb.kind r) 3 e)

-- What the test compares.
compares : (tb : Table) (s r : ℕ)
    → Decides (same tb r s)
    ((((tb.kind s ≡ tb.kind r) × (tb.one s ≡ tb.one r)) × (tb.two s ≡ tb.two r))
    × (¬ (tb.kind r ≡ 3) ⊎ (post tb s ≡ post tb r)))
unfolding same
compares tb s r =
    and_decides
    (and_decides (and_decides (eq_decides (tb.kind s) (tb.kind r)) (eq_decides (tb.one s) (tb.one r))) (eq_decides (tb.two s) (tb.two r)))
    (or_decides (not_decides (eq_decides (tb.kind r) 3)) (beq_decides (post tb s) (post tb r)))

module _ (tb : Table) (s r : ℕ) (shown_s : Shows tb s) (shown_r : Shows tb r) where
  -- Records of one kind that is not 3.
  plain : (k : ℕ) → k ≢ 3 → tb.kind s ≡ k → tb.kind r ≡ k → tb.one s ≡ tb.one r → tb.two s ≡ tb.two r
      → same tb r s ≡ true
  plain k n e f o t = (compares tb s r).1 (((e ∙ sym f, o), t), inl (λ q. n (sym f ∙ q)))

  -- Arcs, both input arcs or both post arcs.
  arcs : tb.kind s ≡ 3 → tb.kind r ≡ 3 → eqb (tb.sort s) 3 ≡ eqb (tb.sort r) 3 → tb.one s ≡ tb.one r
      → tb.two s ≡ tb.two r
      → same tb r s ≡ true
  arcs e f q o t = (compares tb s r).1 (((e ∙ sym f, o), t), inr (post_is tb s e ∙ q ∙ sym (post_is tb r f)))

  -- Records that say the same test the same, and the other way round.
  tested : Same tb s r → same tb r s ≡ true
  tested (Same.place e f o) =
      plain 1 (omega arith) e f o ((shown_place (of_kind tb s 1 shown_s e)).1 ∙ sym (shown_place (of_kind tb r 1 shown_r f)).1)
  tested (Same.transition e f o) =
      plain 2 (omega arith) e f o
      ((shown_transition (of_kind tb s 2 shown_s e)).1 ∙ sym (shown_transition (of_kind tb r 2 shown_r f)).1)
  tested (Same.input_arc e f l m o t) =
      arcs e f (ne_eqb (tb.sort s) 3 (λ q. omega arith) ∙ sym (ne_eqb (tb.sort r) 3 (λ q. omega arith))) o t
  tested (Same.post_arc e f l m o t) = arcs e f (eq-eqb (tb.sort s) 3 l ∙ sym (eq-eqb (tb.sort r) 3 m)) o t
  tested (Same.condition e f o t) = plain 4 (omega arith) e f o t
  tested (Same.priority e f o t) = plain 5 (omega arith) e f o t
  tested (Same.action e f o t) = plain 6 (omega arith) e f o t
  tested (Same.function e f o t) = plain 7 (omega arith) e f o t

  meant : same tb r s ≡ true → Same tb s r
  meant e =
      each_kind (λ n. tb.kind r ≡ n → Same tb s r) (λ f. Same.place (k ∙ f) f o) (λ f. Same.transition (k ∙ f) f o) arc
      (λ f. Same.condition (k ∙ f) f o t)
      (λ f. Same.priority (k ∙ f) f o t)
      (λ f. Same.action (k ∙ f) f o t)
      (λ f. Same.function (k ∙ f) f o t)
      (tb.kind r)
      (shown_kind shown_r).0
      (shown_kind shown_r).1
      refl
    where
      w : (((tb.kind s ≡ tb.kind r) × (tb.one s ≡ tb.one r)) × (tb.two s ≡ tb.two r))
          × (¬ (tb.kind r ≡ 3) ⊎ (post tb s ≡ post tb r))
      w = (compares tb s r).0 e

      k : tb.kind s ≡ tb.kind r
      k = w.0.0.0

      o : tb.one s ≡ tb.one r
      o = w.0.0.1

      t : tb.two s ≡ tb.two r
      t = w.0.1

      arc : tb.kind r ≡ 3 → Same tb s r
      arc f = ⊎_elim (λ (n : ¬ (tb.kind r ≡ 3)). absurd (n f)) alike w.1
        where
          most_s : tb.sort s ≤ 3
          most_s = (shown_arc (of_kind tb s 3 shown_s (k ∙ f))).2

          most_r : tb.sort r ≤ 3
          most_r = (shown_arc (of_kind tb r 3 shown_r f)).2

          sides : (eqb (tb.sort r) 3 ≡ true) ⊎ (eqb (tb.sort r) 3 ≡ false) → eqb (tb.sort s) 3 ≡ eqb (tb.sort r) 3
              → Same tb s r
          sides (inl p) q = Same.post_arc (k ∙ f) f (eqb-true _ 3 (q ∙ p)) (eqb-true _ 3 p) o t
          sides (inr p) q =
              let not_s = eqb-false (tb.sort s) 3 (q ∙ p) in
              let not_r = eqb-false (tb.sort r) 3 p in
              Same.input_arc (k ∙ f) f (omega (arith, most_s)) (omega (arith, most_r)) o t

          alike : post tb s ≡ post tb r → Same tb s r
          alike q = sides (either (eqb (tb.sort r) 3)) (sym (post_is tb s (k ∙ f)) ∙ q ∙ post_is tb r f)

  -- The test is right.
  pub same_decides : Decides (same tb r s) (Same tb s r)
  same_decides = (meant, tested)
