-- A list of checks gives the first answer that is said: walk the list; a clean check says nothing, and the first that
-- is not clean decides.
use mathlib.Core.Bool.{Bool, true, false}
use mathlib.Core.List.{List, [], ◌∷◌, ◌++◌}
use mathlib.Core.Path.{◌≡◌, refl, sym, ap, ◌∙◌}
use mathlib.Core.Logic.{◌⊎◌, inl, inr, ⊎_elim}
use Prim.Native.Nat.{ℕ, ◌<◌}
use native.Mathlib.Omega.{arith}
use lib.Dec.{ltb}
use borrow.Author.Tests.{lt-ltb, le-ltb, ltb-true, ltb-false}
use Rattle.meaning.specs.Below.{first}
use Rattle.meaning.specs.Answer.{Answer, accepted, refused, Check, decide}
use Rattle.meaning.proofs.Below.{first_passes, first_before, first_is, first_none}

-- Every check of a list.
abbrev pub All : (Check → Type 0) → List Check → Type 0
All P [] = Unit {0}
All P (c ∷ cs) = P c × All P cs

-- A check that finds nothing; a list of them.
abbrev pub Clean : Check → Type 0
Clean c = (k : ℕ) → k < c.below → c.bad k ≡ false

abbrev pub AllClean : List Check → Type 0
AllClean cs = All Clean cs

-- Candidate k is the first that a check finds.
abbrev pub Found : Check → ℕ → Type 0
Found c k = (k < c.below) × (c.bad k ≡ true) × ((j : ℕ) → j < k → c.bad j ≡ false)

-- A check finds nothing, or finds a first.
pub search_all : (c : Check) → Clean c ⊎ ((k : ℕ) × Found c k)
search_all c = go (ltb (first c.below c.bad) c.below) refl
  where
    f : ℕ
    f = first c.below c.bad

    go : (b : Bool) → ltb f c.below ≡ b → Clean c ⊎ ((k : ℕ) × Found c k)
    go true e =
        let l : f < c.below = ltb-true f c.below e in
        inr (f, (l, first_passes c.below c.bad l, first_before c.below c.bad))
    go false e = inl (λ k h. first_before c.below c.bad k (omega (arith, ltb-false f c.below e)))

-- A clean check is passed over.
pub decide_pass : (c : Check) (cs : List Check) (ok : Answer) → Clean c → decide (c ∷ cs) ok ≡ decide cs ok
unfolding decide
decide_pass c cs ok h = rw (first_none c.below c.bad h, le-ltb c.below c.below (omega arith))

-- The first candidate that a check finds is answered.
pub decide_first : (c : Check) (cs : List Check) (ok : Answer) (k : ℕ) → Found c k → decide (c ∷ cs) ok ≡ c.answer k
unfolding decide
decide_first c cs ok k f = rw (first_is c.below c.bad k f.0 f.1 f.2, lt-ltb k c.below f.0)

-- With all clean before, the rest decides.
pub decide_append : (xs ys : List Check) (ok : Answer) → AllClean xs → decide (xs ++ ys) ok ≡ decide ys ok
decide_append [] ys ok h = refl
decide_append (c ∷ cs) ys ok h = decide_pass c (cs ++ ys) ok h.0 ∙ decide_append cs ys ok h.1

-- All clean, the fallback stands.
pub decide_clean : (cs : List Check) (ok : Answer) → AllClean cs → decide cs ok ≡ ok
unfolding decide
decide_clean [] ok h = refl
decide_clean (c ∷ cs) ok h = decide_pass c cs ok h.0 ∙ decide_clean cs ok h.1

-- What a check finds, it refuses: by a number that is not 0, before any cycle.
abbrev pub Refuses : Check → Type 0
Refuses c = (k : ℕ) → k < c.below → c.bad k ≡ true → (0 < (c.answer k).number) × ((c.answer k).cycles ≡ 0)

-- If the checks refuse what they find, an answer 0 says that all are clean.
pub accepted_clean : (cs : List Check) (ok : Answer) → All Refuses cs → (decide cs ok).number ≡ 0 → AllClean cs
accepted_clean [] ok r e = tt
accepted_clean (c ∷ cs) ok r e =
    ⊎_elim
    (λ (h : Clean c). (h, accepted_clean cs ok r.1 (ap (λ (a : Answer). a.number) (sym (decide_pass c cs ok h)) ∙ e)))
    (λ (f : (k : ℕ) × Found c k).
    let zero_here : (c.answer f.0).number ≡ 0 = ap (λ (a : Answer). a.number) (sym (decide_first c cs ok f.0 f.1)) ∙ e in
    absurd (omega (arith, (r.0 f.0 f.1.0 f.1.1).0)))
    (search_all c)

-- What checks that refuse decide is the acceptance, or a refusal before any cycle.
abbrev pub Form : Answer → Type 0
Form a = (a ≡ accepted 0) ⊎ ((n : ℕ) × (w : ℕ) × (0 < n) × (a ≡ refused n w))

pub decide_form : (cs : List Check) → All Refuses cs → Form (decide cs (accepted 0))
unfolding decide
decide_form [] a = inl refl
decide_form (c ∷ cs) a =
    ⊎_elim (λ (h : Clean c). rw (decide_pass c cs (accepted 0) h) (decide_form cs a.1))
    (λ (f : (k : ℕ) × Found c k). rw (decide_first c cs (accepted 0) f.0 f.1) (refusal (c.answer f.0) (a.0 f.0 f.1.0 f.1.1)))
    (search_all c)
  where
    refusal : (b : Answer) → (0 < b.number) × (b.cycles ≡ 0) → Form b
    refusal b h = inr (b.number, b.at, h.0, λ i. record { number = b.number; at = b.at; cycles = h.1 i })
