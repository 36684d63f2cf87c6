-- What `some`, `every`, `sum`, `first`, `members` and `within` say of the numbers below n: each by induction on n.
use mathlib.Core.Bool.{Bool, true, false, cond, ◌||◌, or_assoc, or-false as or_false_law}
use mathlib.Core.List.{List, [], ◌∷◌, ◌++◌}
use mathlib.Core.Path.{◌≡◌, refl, sym, ap, ◌∙◌, subst}
use mathlib.Core.Logic.{◌⊎◌, inl, inr, ⊎_elim}
use Prim.Native.Nat.{ℕ, zero, suc, ◌+◌, ◌≤◌, ◌<◌}
use native.Mathlib.Nat.{not-suc-le-zero, le_of_suc-le-suc, eq-or-lt_of_le, lt_irrefl}
use native.Mathlib.Omega.{arith}
use lib.Dec.{ltb, eqb}
use borrow.Author.Tests.{ltb-true, ltb-false, eqb-true, eqb-false, eq-eqb, ne_eqb}
use Rattle.meaning.specs.Below.{some, every, sum, first, members, within}
use Rattle.meaning.proofs.Bool.{either, not_both, and_left, and_right, and_true, or_false, or_true_left}
use Rattle.meaning.proofs.Bool.{or_true_right, or_cases}

-- Below n + 1 is below n or n itself.
pub last : {k n : ℕ} → k < suc n → (k ≡ n) ⊎ (k < n)
last h = eq-or-lt_of_le (le_of_suc-le-suc h)

pub some_intro : (n : ℕ) (p : ℕ → Bool) (k : ℕ) → k < n → p k ≡ true → some n p ≡ true
unfolding some
some_intro zero p k h e = absurd (not-suc-le-zero h)
some_intro (suc n) p k h e =
    ⊎_elim (λ (q : k ≡ n). or_true_right (some n p) (subst (λ (x : ℕ). p x ≡ true) q e))
    (λ (l : k < n). or_true_left (p n) (some_intro n p k l e))
    (last h)

pub some_elim : (n : ℕ) (p : ℕ → Bool) → some n p ≡ true → (k : ℕ) × (k < n) × (p k ≡ true)
unfolding some
some_elim zero p e = not_both e refl
some_elim (suc n) p e =
    ⊎_elim
    (λ (l : some n p ≡ true).
    let w = some_elim n p l in
    (w.0, omega arith, w.2))
    (λ (q : p n ≡ true). (n, omega arith, q))
    (or_cases (some n p) (p n) e)

pub none_elim : (n : ℕ) (p : ℕ → Bool) → some n p ≡ false → (k : ℕ) → k < n → p k ≡ false
none_elim n p e k h = ⊎_elim (λ (t : p k ≡ true). not_both (some_intro n p k h t) e) (λ (f : p k ≡ false). f) (either (p k))

pub none_intro : (n : ℕ) (p : ℕ → Bool) → ((k : ℕ) → k < n → p k ≡ false) → some n p ≡ false
none_intro n p f =
    ⊎_elim
    (λ (t : some n p ≡ true).
    let w = some_elim n p t in
    not_both w.2 (f w.0 w.1))
    (λ (e : some n p ≡ false). e)
    (either (some n p))

pub every_elim : (n : ℕ) (p : ℕ → Bool) → every n p ≡ true → (k : ℕ) → k < n → p k ≡ true
unfolding every
every_elim zero p e k h = absurd (not-suc-le-zero h)
every_elim (suc n) p e k h =
    ⊎_elim (λ (q : k ≡ n). subst (λ (x : ℕ). p x ≡ true) (sym q) (and_right (every n p) (p n) e))
    (λ (l : k < n). every_elim n p (and_left (every n p) (p n) e) k l)
    (last h)

pub every_intro : (n : ℕ) (p : ℕ → Bool) → ((k : ℕ) → k < n → p k ≡ true) → every n p ≡ true
unfolding every
every_intro zero p f = refl
every_intro (suc n) p f = and_true (every_intro n p (λ k h. f k (omega arith))) (f n (omega arith))

-- The same tests below n give the same answer.
pub some_same : (n : ℕ) (p q : ℕ → Bool) → ((k : ℕ) → k < n → p k ≡ q k) → some n p ≡ some n q
unfolding some
some_same zero p q f = refl
some_same (suc n) p q f = rw (some_same n p q (λ k h. f k (omega arith)), f n (omega arith))

pub every_same : (n : ℕ) (p q : ℕ → Bool) → ((k : ℕ) → k < n → p k ≡ q k) → every n p ≡ every n q
unfolding every
every_same zero p q f = refl
every_same (suc n) p q f = rw (every_same n p q (λ k h. f k (omega arith)), f n (omega arith))

pub sum_same : (n : ℕ) (f g : ℕ → ℕ) → ((k : ℕ) → k < n → f k ≡ g k) → sum n f ≡ sum n g
unfolding sum
sum_same zero f g h = refl
sum_same (suc n) f g h = rw (sum_same n f g (λ k l. h k (omega arith)), h n (omega arith))

-- A sum of smaller numbers is smaller.
pub sum_mono : (n : ℕ) (f g : ℕ → ℕ) → ((k : ℕ) → k < n → f k ≤ g k) → sum n f ≤ sum n g
unfolding sum
sum_mono zero f g h = omega arith
sum_mono (suc n) f g h = omega (arith, sum_mono n f g (λ k l. h k (omega arith)), h n (omega arith))

pub sum_zero : (n : ℕ) (f : ℕ → ℕ) → ((k : ℕ) → k < n → f k ≡ 0) → sum n f ≡ 0
unfolding sum
sum_zero zero f h = refl
sum_zero (suc n) f h = omega (arith, sum_zero n f (λ k l. h k (omega arith)), h n (omega arith))

-- Each summand is at most the sum.
pub sum_part : (n : ℕ) (f : ℕ → ℕ) (k : ℕ) → k < n → f k ≤ sum n f
unfolding sum
sum_part zero f k h = absurd (not-suc-le-zero h)
sum_part (suc n) f k h =
    ⊎_elim (λ (q : k ≡ n). subst (λ (x : ℕ). f x ≤ sum n f + f n) (sym q) (omega arith))
    (λ (l : k < n). omega (arith, sum_part n f k l))
    (last h)

-- Where f is at most g but for one number t, the sum of f is at most f t more than the sum of g.
pub sum_but_one : (n : ℕ) (f g : ℕ → ℕ) (t : ℕ) → ((k : ℕ) → k < n → (k ≡ t → ⊥) → f k ≤ g k) → sum n f ≤ f t + sum n g
unfolding sum
sum_but_one zero f g t h = omega arith
sum_but_one (suc n) f g t h =
    ⊎_elim
    (λ (q : t ≡ n).
    let here : f n ≡ f t = ap f (sym q) in
    let before : sum n f ≤ sum n g = sum_mono n f g (λ k l. h k (omega arith) (λ e. omega arith)) in
    omega arith)
    (λ (l : (t ≡ n) → ⊥). omega (arith, sum_but_one n f g t (λ k l' e. h k (omega arith) e), h n (omega arith) (λ e. l (sym e))))
    (same_or_not t n)
  where
    same_or_not : (x y : ℕ) → (x ≡ y) ⊎ ((x ≡ y) → ⊥)
    same_or_not x y = ⊎_elim (λ (e : eqb x y ≡ true). inl (eqb-true x y e)) (λ (e : eqb x y ≡ false). inr (eqb-false x y e)) (either (eqb x y))

-- A sum of sums is the sum of the parts.
pub sum_add : (n : ℕ) (f g : ℕ → ℕ) → sum n (λ k. f k + g k) ≡ sum n f + sum n g
unfolding sum
sum_add zero f g = refl
sum_add (suc n) f g = omega (arith, sum_add n f g)

-- `first` stays within n; where it stops below n the test passes; nothing before it passes.
pub first_le : (n : ℕ) (p : ℕ → Bool) → first n p ≤ n
unfolding first
first_le zero p = omega arith
first_le (suc n) p = go (ltb (first n p) n) (p n) (first_le n p)
  where
    go : (a b : Bool) → first n p ≤ n → cond a (first n p) (cond b n (suc n)) ≤ suc n
    go true b h = omega arith
    go false true h = omega arith
    go false false h = omega arith

pub first_passes : (n : ℕ) (p : ℕ → Bool) → first n p < n → p (first n p) ≡ true
unfolding first
first_passes zero p h = absurd (not-suc-le-zero h)
first_passes (suc n) p h = go (first_passes n p) (ltb (first n p) n) (p n) refl refl h
  where
    go : (first n p < n → p (first n p) ≡ true) → (a b : Bool) → ltb (first n p) n ≡ a → p n ≡ b
        → cond a (first n p) (cond b n (suc n)) < suc n → p (cond a (first n p) (cond b n (suc n))) ≡ true
    go before true b e q l = before (ltb-true (first n p) n e)
    go before false true e q l = q
    go before false false e q l = absurd (lt_irrefl (suc n) l)

pub first_before : (n : ℕ) (p : ℕ → Bool) (k : ℕ) → k < first n p → p k ≡ false
unfolding first
first_before zero p k h = absurd (not-suc-le-zero h)
first_before (suc n) p k h = go (first_before n p k) (ltb (first n p) n) (p n) refl refl h
  where
    go : (k < first n p → p k ≡ false) → (a b : Bool) → ltb (first n p) n ≡ a → p n ≡ b
        → k < cond a (first n p) (cond b n (suc n)) → p k ≡ false
    go before true b e q l = before l
    go before false true e q l = before (omega (arith, ltb-false (first n p) n e))
    go before false false e q l =
        ⊎_elim (λ (s : k ≡ n). subst (λ (x : ℕ). p x ≡ false) (sym s) q)
        (λ (s : k < n). before (omega (arith, ltb-false (first n p) n e)))
        (last l)

-- A number that passes, with none before it that does, is the first.
pub first_is : (n : ℕ) (p : ℕ → Bool) (k : ℕ) → k < n → p k ≡ true → ((j : ℕ) → j < k → p j ≡ false) → first n p ≡ k
first_is n p k h e f =
    let above : ¬ (k < first n p) = λ l. not_both e (first_before n p k l) in
    let under : ¬ (first n p < k) = λ l. not_both (first_passes n p (omega arith)) (f (first n p) l) in
    omega arith

pub first_none : (n : ℕ) (p : ℕ → Bool) → ((k : ℕ) → k < n → p k ≡ false) → first n p ≡ n
first_none n p f =
    let none : ¬ (first n p < n) = λ l. not_both (first_passes n p l) (f (first n p) l) in
    omega (arith, first_le n p)

pub first_same : (n : ℕ) (p q : ℕ → Bool) → ((k : ℕ) → k < n → p k ≡ q k) → first n p ≡ first n q
unfolding first
first_same zero p q f = refl
first_same (suc n) p q f = rw (first_same n p q (λ k h. f k (omega arith)), f n (omega arith))

-- To be in one list joined to another is to be in either.
pub within_append : (xs ys : List ℕ) (k : ℕ) → within (xs ++ ys) k ≡ (within xs k || within ys k)
unfolding within
within_append [] ys k = refl
within_append (x ∷ xs) ys k = rw (within_append xs ys k) (sym (or_assoc (eqb x k) (within xs k) (within ys k)))

-- No member is past the end.
pub within_out : (n : ℕ) (p : ℕ → Bool) (k : ℕ) → n ≤ k → within (members n p) k ≡ false
unfolding members within
within_out zero p k h = refl
within_out (suc n) p k h =
    within_append (members n p) (cond (p n) (n ∷ []) []) k ∙ rw (within_out n p k (omega arith)) (alone (p n))
  where
    alone : (b : Bool) → within (cond b (n ∷ []) []) k ≡ false
    alone true = or_false (ne_eqb n k (λ e. omega arith)) refl
    alone false = refl

-- The members below n that pass p are those that pass p.
pub within_members : (n : ℕ) (p : ℕ → Bool) (k : ℕ) → k < n → within (members n p) k ≡ p k
unfolding members within
within_members zero p k h = absurd (not-suc-le-zero h)
within_members (suc n) p k h =
    within_append (members n p) (cond (p n) (n ∷ []) []) k
    ∙ ⊎_elim (λ (q : k ≡ n). at_last (p n) refl q) (λ (l : k < n). below (p n) (within_members n p k l) l) (last h)
  where
    at_last : (b : Bool) → p n ≡ b → k ≡ n → (within (members n p) k || within (cond b (n ∷ []) []) k) ≡ p k
    at_last true e q = or_true_right (within (members n p) k) (or_true_left false (eq-eqb n k (sym q))) ∙ sym (ap p q ∙ e)
    at_last false e q = or_false_law (within (members n p) k) ∙ rw (q, within_out n p n (omega arith)) (sym e)

    below : (b : Bool) → within (members n p) k ≡ p k → k < n
        → (within (members n p) k || within (cond b (n ∷ []) []) k) ≡ p k
    below true w l = rw (ne_eqb n k (λ e. omega arith)) (or_false_law (within (members n p) k) ∙ w)
    below false w l = or_false_law (within (members n p) k) ∙ w

-- The same tests below n have the same members.
pub members_same : (n : ℕ) (p q : ℕ → Bool) → ((k : ℕ) → k < n → p k ≡ q k) → members n p ≡ members n q
unfolding members
members_same zero p q f = refl
members_same (suc n) p q f = rw (members_same n p q (λ k h. f k (omega arith)), f n (omega arith))
