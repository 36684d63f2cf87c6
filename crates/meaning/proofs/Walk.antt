-- Checks that find exactly what is said give the first that is said: the walk stops at a check of which all that is
-- earlier is clean.
use mathlib.Core.Bool.{Bool, true, false}
use mathlib.Core.List.{List, [], ◌∷◌, ◌++◌}
use mathlib.Core.Path.{◌≡◌, sym, ap, refl, ◌∙◌, subst₂}
use mathlib.Core.Logic.{◌↔◌, ◌⊎◌, inl, inr, ⊎_elim}
use Prim.Native.Nat.{ℕ, ◌≤◌, ◌<◌}
use native.Mathlib.Nat.{le_refl}
use native.Mathlib.Omega.{arith}
use lib.Dec.{ltb}
use borrow.Author.Tests.{ltb-true, ltb-false}
use Rattle.meaning.specs.Answer.{Answer, accepted, refused, Check, check_of, decide}
use Rattle.meaning.specs.Says.{stage, Earlier, First}
use Rattle.meaning.proofs.Bool.{not_both}
use Rattle.meaning.proofs.Decide.{All, Clean, AllClean, Found, Refuses, search_all, decide_pass, decide_first}
use Rattle.meaning.proofs.Decide.{decide_clean}

-- THE ORDER OF ANSWERS

-- Of two numbers one is lower, or they are the same.
pub compared : (a b : ℕ) → (a < b) ⊎ (a ≡ b) ⊎ (b < a)
compared a b = go (ltb a b) (ltb b a) refl refl
  where
    go : (x y : Bool) → ltb a b ≡ x → ltb b a ≡ y → (a < b) ⊎ (a ≡ b) ⊎ (b < a)
    go true y e f = inl (ltb-true a b e)
    go false true e f = inr (inr (ltb-true b a f))
    go false false e f = inr (inl (omega (arith, ltb-false a b e, ltb-false b a f)))

-- Of two answers one is earlier, or they are the same.
ordered : (n w n' w' : ℕ) → Earlier n w n' w' ⊎ ((n ≡ n') × (w ≡ w')) ⊎ Earlier n' w' n w
ordered n w n' w' =
    elim (compared (stage n) (stage n')) [
      | inl l ↦ inl (inl l)
      | inr (inr l) ↦ inr (inr (inl l))
      | inr (inl e) ↦ elim (compared w w') [
        | inl l ↦ inl (inr (e, inl l))
        | inr (inr l) ↦ inr (inr (inr (sym e, inl l)))
        | inr (inl q) ↦ elim (compared n n') [
          | inl l ↦ inl (inr (e, inr (q, l)))
          | inr (inr l) ↦ inr (inr (inr (sym e, inr (sym q, l))))
          | inr (inl p) ↦ inr (inl (p, q))
        ]
      ]
    ]

-- Only one answer is the first that is said.
pub first_unique : (Says : ℕ → ℕ → Type 0) (n w n' w' : ℕ) → First Says n w → First Says n' w' → (n ≡ n') × (w ≡ w')
first_unique Says n w n' w' f g =
    elim (ordered n w n' w') [ inl l ↦ absurd (g.1 n w l f.0) | inr (inl e) ↦ e | inr (inr l) ↦ absurd (f.1 n' w' l g.0) ]

-- Nothing of a later stage is earlier; nothing of the same stage and a higher where; nothing of the same where and no
-- lower number.
pub later_stage : {n w n' w' : ℕ} → stage n' < stage n → ¬ Earlier n w n' w'
later_stage l (inl k) = omega arith
later_stage l (inr k) = omega arith

pub later_where : {n w n' w' : ℕ} → stage n' ≡ stage n → w' < w → ¬ Earlier n w n' w'
later_where e l (inl k) = omega arith
later_where e l (inr (s, inl k)) = omega arith
later_where e l (inr (s, inr k)) = omega arith

pub not_lower : {n w n' w' : ℕ} → stage n' ≡ stage n → w' ≤ w → n' ≤ n → ¬ Earlier n w n' w'
not_lower e l m (inl k) = omega arith
not_lower e l m (inr (s, inl k)) = omega arith
not_lower e l m (inr (s, inr k)) = omega arith

-- WHAT CHECKS SAY

-- Each answer of a list is said, where the checks before it are clean.
abbrev pub Speaks : (ℕ → ℕ → Type 0) → List Check → Type 0
Speaks Says [] = Unit {0}
Speaks Says (c ∷ cs) = ((k : ℕ) → Found c k → Says (c.answer k).number (c.answer k).at) × (Clean c → Speaks Says cs)

-- Answer n at w is not before what check c answers to candidate j.
abbrev pub NotBefore : ℕ → ℕ → Check → ℕ → Type 0
NotBefore n w c j = ¬ Earlier n w (c.answer j).number (c.answer j).at

-- A list catches answer n at w: some check finds it or something before it, and what is found up to there is not
-- behind it.
pub data Caught (n w : ℕ) : List Check → Type 0 where
  here : {c : Check} {cs : List Check} (k : ℕ) → k < c.below → c.bad k ≡ true
      → ((j : ℕ) → j ≤ k → c.bad j ≡ true → NotBefore n w c j) → Caught n w (c ∷ cs)
  there : {c : Check} {cs : List Check} → ((j : ℕ) → j < c.below → c.bad j ≡ true → NotBefore n w c j)
      → (Clean c → Caught n w cs)
      → Caught n w (c ∷ cs)

-- Clean checks catch nothing.
clean_catch_none : {n w : ℕ} {cs : List Check} → AllClean cs → Caught n w cs → ⊥
clean_catch_none h (here k l e f) = not_both e (h.0 k l)
clean_catch_none h (there f g) = clean_catch_none h.1 (g h.0)

-- A bad candidate whose answer names it is caught; and so is the one candidate of a check that asks once.
pub caught_here : (m : ℕ) (p : ℕ → Bool) (n k : ℕ) (cs : List Check) → k < m → p k ≡ true
    → Caught n k (check_of m p (λ j. refused n j) ∷ cs)
caught_here m p n k cs l e = Caught.here k l e (λ j h b. not_lower refl h (le_refl n))

pub caught_once : (b : Bool) (n w : ℕ) (cs : List Check) → b ≡ true
    → Caught n w (check_of 1 (λ k. b) (λ k. refused n w) ∷ cs)
caught_once b n w cs e = Caught.here 0 one e (λ j h b. not_lower refl (le_refl w) (le_refl n))
  where
    one : 0 < 1
    one = omega arith

-- A check that answers by an earlier stage is passed.
pub skip : {n w : ℕ} (c : Check) (cs : List Check) → ((j : ℕ) → c.bad j ≡ true → stage (c.answer j).number < stage n)
    → (Clean c → Caught n w cs) → Caught n w (c ∷ cs)
skip c cs f g = Caught.there (λ j l e. later_stage (f j e)) g

-- A first answer of the list: said, and nothing that the list catches is earlier.
abbrev Answered : (ℕ → ℕ → Type 0) → List Check → Type 0
Answered Says cs =
    (n : ℕ) × (w : ℕ) × (0 < n) × (decide cs (accepted 0) ≡ refused n w) × Says n w
    × ((n' w' : ℕ) → Caught n' w' cs → ¬ Earlier n' w' n w)

-- The walk: all are clean, or there is a first answer.
walk : (Says : ℕ → ℕ → Type 0) (cs : List Check) → All Refuses cs → Speaks Says cs → AllClean cs ⊎ Answered Says cs
walk Says [] r s = inl tt
walk Says (c ∷ cs) r s =
    ⊎_elim (λ (h : Clean c). passed h (walk Says cs r.1 (s.1 h))) (λ (f : (k : ℕ) × Found c k). inr (stopped f.0 f.1))
    (search_all c)
  where
    passed : Clean c → AllClean cs ⊎ Answered Says cs → AllClean (c ∷ cs) ⊎ Answered Says (c ∷ cs)
    passed h (inl a) = inl (h, a)
    passed h (inr a) = inr (a.0, a.1, a.2, decide_pass c cs (accepted 0) h ∙ a.3, a.4, λ n w q. a.5 n w (on q))
      where
        on : {n w : ℕ} → Caught n w (c ∷ cs) → Caught n w cs
        on (here k l e f) = not_both e (h k l)
        on (there f g) = g h

    stopped : (k : ℕ) → Found c k → Answered Says (c ∷ cs)
    stopped k f =
        let a = r.0 k f.0 f.1 in
        ((c.answer k).number, (c.answer k).at, a.0, decide_first c cs (accepted 0) k f ∙ whole a.1, s.0 k f, λ n w q. late q)
      where
        whole : (c.answer k).cycles ≡ 0 → c.answer k ≡ refused (c.answer k).number (c.answer k).at
        whole e i = record { number = (c.answer k).number; at = (c.answer k).at; cycles = e i }

        late : {n w : ℕ} → Caught n w (c ∷ cs) → NotBefore n w c k
        late (here j l e g) =
            let before : ¬ (j < k) = λ q. not_both e (f.2 j q) in
            g k (omega arith) f.1
        late (there g _) = g k f.0 f.1

-- Refused, with the first that is said.
abbrev Refusal : (ℕ → ℕ → Type 0) → List Check → Type 0
Refusal Says cs = (n : ℕ) × (w : ℕ) × (0 < n) × (decide cs (accepted 0) ≡ refused n w) × First Says n w

module _ (Says : ℕ → ℕ → Type 0) (cs : List Check) (refusing : All Refuses cs) (speaks : Speaks Says cs)
    (catches : (n w : ℕ) → Says n w → Caught n w cs) where
  -- Accepted, and nothing is said; or refused, and the answer is the first that is said.
  outcome : ((decide cs (accepted 0) ≡ accepted 0) × ((n w : ℕ) → ¬ Says n w)) ⊎ Refusal Says cs
  outcome =
      ⊎_elim (λ (h : AllClean cs). inl (decide_clean cs (accepted 0) h, λ n w s. clean_catch_none h (catches n w s)))
      (λ (a : Answered Says cs). inr (a.0, a.1, a.2, a.3, (a.4, λ n w l s. a.5 n w (catches n w s) l)))
      (walk Says cs refusing speaks)

  -- Refused by n at w, if that is the first that is said.
  pub refuses : (n w : ℕ) → 0 < n → (decide cs (accepted 0) ≡ refused n w) ↔ First Says n w
  refuses n w p = elim outcome [
    | inl a ↦ (
      λ e. absurd (let z : n ≡ 0 = ap (λ (x : Answer). x.number) (sym e ∙ a.0) in omega arith),
      λ f. absurd (a.1 n w f.0),
    )
    | inr a ↦ (λ e. to a e, λ f. from a (first_unique Says n w a.0 a.1 f a.4))
  ]
    where
      to : (a : Refusal Says cs) → decide cs (accepted 0) ≡ refused n w → First Says n w
      to a e =
          subst₂ (λ (x y : ℕ). First Says x y) (ap (λ (x : Answer). x.number) (sym a.3 ∙ e))
          (ap (λ (x : Answer). x.at) (sym a.3 ∙ e)) a.4

      from : (a : Refusal Says cs) → (n ≡ a.0) × (w ≡ a.1) → decide cs (accepted 0) ≡ refused n w
      from a q = a.3 ∙ rw (q.0, q.1)

  -- Accepted, if nothing is said.
  pub accepts : (decide cs (accepted 0) ≡ accepted 0) ↔ ((n w : ℕ) → ¬ Says n w)
  accepts = elim outcome [
    | inl a ↦ (λ e. a.1, λ f. a.0)
    | inr a ↦ (
      λ e. absurd (let z : a.0 ≡ 0 = ap (λ (x : Answer). x.number) (sym a.3 ∙ e) in let l : 0 < a.0 = a.2 in omega arith),
      λ f. absurd (f a.0 a.1 a.4.0),
    )
  ]

-- ONE LIST BEHIND ANOTHER

-- What holds of every check of two lists holds of every check of both.
pub all_append : (P : Check → Type 0) (xs ys : List Check) → All P xs → All P ys → All P (xs ++ ys)
all_append P [] ys a b = b
all_append P (c ∷ cs) ys a b = (a.0, all_append P cs ys a.1 b)

-- The second list may rest on the first being clean, and what is said may be said in a wider sense.
pub speaks_append : (A B : ℕ → ℕ → Type 0) (xs ys : List Check) → ((n w : ℕ) → A n w → B n w) → Speaks A xs
    → (AllClean xs → Speaks B ys) → Speaks B (xs ++ ys)
speaks_append A B [] ys f a b = b tt
speaks_append A B (c ∷ cs) ys f a b =
    (λ k h. f (c.answer k).number (c.answer k).at (a.0 k h), λ h. speaks_append A B cs ys f (a.1 h) (λ r. b (h, r)))

-- What the first list catches, both catch.
pub caught_append : {n w : ℕ} {xs : List Check} (ys : List Check) → Caught n w xs → Caught n w (xs ++ ys)
caught_append ys (here k l e f) = here k l e f
caught_append ys (there f g) = there f (λ h. caught_append ys (g h))

-- A check that refuses what it finds, by a stage below s.
abbrev pub RefusesBelow : ℕ → Check → Type 0
RefusesBelow s c =
    (k : ℕ) → k < c.below → c.bad k ≡ true
    → (0 < (c.answer k).number) × ((c.answer k).cycles ≡ 0) × (stage (c.answer k).number < s)

pub all_refuse : (s : ℕ) (cs : List Check) → All (RefusesBelow s) cs → All Refuses cs
all_refuse s [] a = tt
all_refuse s (c ∷ cs) a = (λ k l e. ((a.0 k l e).0, (a.0 k l e).1), all_refuse s cs a.1)

-- What the second list catches, at a stage that the first does not reach, both catch.
pub caught_behind : {n w : ℕ} (s : ℕ) (xs ys : List Check) → All (RefusesBelow s) xs → s ≤ stage n
    → (AllClean xs → Caught n w ys)
    → Caught n w (xs ++ ys)
caught_behind s [] ys a l g = g tt
caught_behind {n} s (c ∷ cs) ys a l g = there (λ j h e. later_stage (under j h e)) (λ h. caught_behind s cs ys a.1 l (λ r. g (h, r)))
  where
    under : (j : ℕ) → j < c.below → c.bad j ≡ true → stage (c.answer j).number < stage n
    under j h e = omega (arith, a.0 j h e)
