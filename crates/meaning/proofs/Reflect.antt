-- Tests that decide: a test is true exactly if a statement holds, and so for `and`, `or`, `not`, `some` and
-- comparisons of such tests.
use mathlib.Core.Bool.{Bool, true, false, not, ◌&&◌, ◌||◌}
use mathlib.Core.Path.{◌≡◌, ap}
use mathlib.Core.Logic.{◌↔◌, ◌⊎◌, inl, inr, ⊎_elim}
use Prim.Native.Nat.{ℕ, ◌≤◌, ◌<◌}
use lib.Dec.{ltb, leb, eqb}
use borrow.Author.Tests.{lt-ltb, ltb-true, eqb-true, eq-eqb, not-true, leb-true, le-leb}
use Rattle.meaning.specs.Below.{some}
use Rattle.meaning.proofs.Bool.{either, not_both, and_left, and_right, and_true, or_true_left, or_true_right}
use Rattle.meaning.proofs.Bool.{or_cases}
use Rattle.meaning.proofs.Below.{some_intro, some_elim}

-- The test b decides A.
abbrev pub Decides : Bool → Type 0 → Type 0
Decides b A = (b ≡ true) ↔ A

-- A statement that means the same is decided too.
pub recast : {b : Bool} {A B : Type 0} → Decides b A → (A → B) → (B → A) → Decides b B
recast d f g = (λ e. f (d.0 e), λ x. d.1 (g x))

-- A test that is not true is false.
pub not_true_false : (b : Bool) → ¬ (b ≡ true) → b ≡ false
not_true_false b f = ⊎_elim (λ (e : b ≡ true). absurd (f e)) (λ (e : b ≡ false). e) (either b)

-- A false test refutes, and what is refuted tests false.
pub refutes : {b : Bool} {A : Type 0} → Decides b A → b ≡ false → ¬ A
refutes d e a = not_both (d.1 a) e

pub refuted : {b : Bool} {A : Type 0} → Decides b A → ¬ A → b ≡ false
refuted {b} d f = not_true_false b (λ e. f (d.0 e))

-- A test that is false exactly if A holds decides that A fails.
pub fails : (b : Bool) {A : Type 0} → (b ≡ false → A) → (A → b ≡ false) → Decides b (¬ A)
fails b f g = (λ e a. not_both e (g a), λ n. ⊎_elim (λ (e : b ≡ true). e) (λ (e : b ≡ false). absurd (n (f e))) (either b))

-- What is decided holds or fails.
pub decided : {b : Bool} {A : Type 0} → Decides b A → A ⊎ ¬ A
decided {b} d = ⊎_elim (λ (e : b ≡ true). inl (d.0 e)) (λ (e : b ≡ false). inr (refutes d e)) (either b)

pub eq_decides : (a b : ℕ) → Decides (eqb a b) (a ≡ b)
eq_decides a b = (eqb-true a b, eq-eqb a b)

pub lt_decides : (a b : ℕ) → Decides (ltb a b) (a < b)
lt_decides a b = (ltb-true a b, lt-ltb a b)

pub le_decides : (a b : ℕ) → Decides (leb a b) (a ≤ b)
le_decides a b = (leb-true a b, le-leb a b)

pub not_decides : {b : Bool} {A : Type 0} → Decides b A → Decides (not b) (¬ A)
not_decides {b} d = (λ e. refutes d (not-true b e), λ f. ap not (refuted d f))

pub and_decides : {a b : Bool} {A B : Type 0} → Decides a A → Decides b B → Decides (a && b) (A × B)
and_decides {a} {b} d e = (λ p. (d.0 (and_left a b p), e.0 (and_right a b p)), λ q. and_true (d.1 q.0) (e.1 q.1))

pub or_decides : {a b : Bool} {A B : Type 0} → Decides a A → Decides b B → Decides (a || b) (A ⊎ B)
or_decides {a} {b} d e = (
  λ p. elim (or_cases a b p) [ inl x ↦ inl (d.0 x) | inr y ↦ inr (e.0 y) ],
  ⊎_elim (λ x. or_true_left b (d.1 x)) (λ y. or_true_right a (e.1 y)),
)

pub some_decides : (n : ℕ) {p : ℕ → Bool} {P : ℕ → Type 0} → ((k : ℕ) → Decides (p k) (P k))
    → Decides (some n p) ((k : ℕ) × (k < n) × P k)
some_decides n {p} d = (
  λ e.
      let w = some_elim n p e in
      (w.0, w.1, (d w.0).0 w.2),
  λ w. some_intro n p w.0 w.1 ((d w.0).1 w.2),
)
