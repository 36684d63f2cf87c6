-- The computed priority is the transitive closure of the kind 5 pairs: by induction on the records read so far, it
-- holds only chains of pairs, holds each pair read, and is transitive, since one more pair x over y joins all from x
-- up to all from y down.
use mathlib.Core.Bool.{Bool, true, false, cond, ◌&&◌, ◌||◌}
use mathlib.Core.Path.{◌≡◌, refl, subst}
use mathlib.Core.Logic.{◌⊎◌, inl, inr, ⊎_elim, ◌↔◌}
use Prim.Native.Nat.{ℕ, zero, suc, ◌≤◌, ◌<◌}
use native.Mathlib.Nat.{not-suc-le-zero}
use native.Mathlib.Omega.{arith}
use lib.Dec.{eqb}
use borrow.Author.Tests.{eqb-true, eq-eqb}
use Rattle.meaning.specs.Table.{Table, is}
use Rattle.meaning.specs.Priority.{through, above}
use Rattle.meaning.specs.Says.{Above, pair, chain}
use Rattle.meaning.proofs.Bool.{not_both, and_left, and_right, and_true, or_true_left, or_true_right, or_cases}
use Rattle.meaning.proofs.Below.{last}

-- The test for "x is y, or b" says so, and passes where it is so.
same_or : (x y : ℕ) (b : Bool) → (eqb x y || b) ≡ true → (x ≡ y) ⊎ (b ≡ true)
same_or x y b e = ⊎_elim (λ (q : eqb x y ≡ true). inl (eqb-true x y q)) inr (or_cases (eqb x y) b e)

or_same : (x y : ℕ) (b : Bool) → (x ≡ y) ⊎ (b ≡ true) → (eqb x y || b) ≡ true
or_same x y b (inl q) = or_true_left b (eq-eqb x y q)
or_same x y b (inr q) = or_true_right (eqb x y) q

-- By the first r records u stands above t.
abbrev Over : Table → ℕ → ℕ → ℕ → Type 0
Over tb r u t = through tb r u t ≡ true

-- By the first r records: u is the higher of record r or above it; t is the lower of record r or below it.
abbrev Up : Table → ℕ → ℕ → Type 0
Up tb r u = (u ≡ tb.one r) ⊎ Over tb r u (tb.one r)

abbrev Down : Table → ℕ → ℕ → Type 0
Down tb r t = (t ≡ tb.two r) ⊎ Over tb r (tb.two r) t

-- Why u stands above t by the first r + 1 records: by the first r, or by record r.
data Step (tb : Table) (r u t : ℕ) : Type 0 where
  old : Over tb r u t → Step tb r u t
  new : tb.kind r ≡ 5 → Up tb r u → Down tb r t → Step tb r u t

module _ (tb : Table) (r u t : ℕ) where
  -- The tests for Up and Down, and for both: what record r adds.
  abbrev up : Bool
  up = eqb u (tb.one r) || through tb r u (tb.one r)

  abbrev down : Bool
  down = eqb t (tb.two r) || through tb r (tb.two r) t

  abbrev added : Bool
  added = up && down

  -- The step that a passed test shows, and the test that a step passes.
  step : Over tb (suc r) u t → Step tb r u t
  unfolding through
  step = go (is tb 5 r) refl
    where
      go : (b : Bool) → is tb 5 r ≡ b → cond b (through tb r u t || added) (through tb r u t) ≡ true → Step tb r u t
      go true k e =
          ⊎_elim old
          (λ (j : added ≡ true). new (eqb-true (tb.kind r) 5 k) (same_or _ _ _ (and_left up down j)) (same_or _ _ _ (and_right up down j)))
          (or_cases (through tb r u t) added e)
      go false k e = old e

  back : Step tb r u t → Over tb (suc r) u t
  unfolding through
  back (old e) = go (is tb 5 r)
    where
      go : (b : Bool) → cond b (through tb r u t || added) (through tb r u t) ≡ true
      go true = or_true_left added e
      go false = e
  back (new k a b) =
      rw (eq-eqb (tb.kind r) 5 k) (or_true_right (through tb r u t) (and_true (or_same _ _ _ a) (or_same _ _ _ b)))

-- Sound: what the first n records give is a chain of their pairs.
sound : (tb : Table) (n : ℕ) → n ≤ tb.records → (u t : ℕ) → Over tb n u t → Above tb u t
unfolding through
sound tb zero h u t e = not_both e refl
sound tb (suc r) h u t e = go (sound tb r (omega arith)) (step tb r u t e)
  where
    go : ((v w : ℕ) → Over tb r v w → Above tb v w) → Step tb r u t → Above tb u t
    go before (old q) = before u t q
    go before (new k a b) = lower b (upper a)
      where
        upper : Up tb r u → Above tb u (tb.two r)
        upper (inl q) = rw q (pair r h k)
        upper (inr q) = chain (before u (tb.one r) q) (pair r h k)

        lower : Down tb r t → Above tb u (tb.two r) → Above tb u t
        lower (inl q) p = rw q p
        lower (inr q) p = chain p (before (tb.two r) t q)

-- Each pair among the first n records is given.
given : (tb : Table) (n r : ℕ) → r < n → tb.kind r ≡ 5 → Over tb n (tb.one r) (tb.two r)
given tb zero r h k = absurd (not-suc-le-zero h)
given tb (suc n) r h k =
    ⊎_elim
    (λ (q : r ≡ n). subst (λ (x : ℕ). Over tb (suc x) (tb.one r) (tb.two r)) q (back tb r _ _ (new k (inl refl) (inl refl))))
    (λ (l : r < n). back tb n _ _ (old (given tb n r l k)))
    (last h)

-- By the first n records, what stands above something stands above all below that.
abbrev Transitive : Table → ℕ → Type 0
Transitive tb n = (u v t : ℕ) → Over tb n u v → Over tb n v t → Over tb n u t

-- What stands above something from x up is from x up; what stands below something from y down is from y down.
rises : (tb : Table) (r u v : ℕ) → Transitive tb r → Over tb r u v → Up tb r v → Up tb r u
rises tb r u v before e (inl q) = inr (rw q at e)
rises tb r u v before e (inr q) = inr (before u v (tb.one r) e q)

falls : (tb : Table) (r v t : ℕ) → Transitive tb r → Down tb r v → Over tb r v t → Down tb r t
falls tb r v t before (inl q) e = inr (rw q at e)
falls tb r v t before (inr q) e = inr (before (tb.two r) v t q e)

-- Transitive: old and new steps, joined to old and new steps, are steps.
joined : (tb : Table) (n : ℕ) → Transitive tb n
unfolding through
joined tb zero u v t a b = a
joined tb (suc r) u v t a b = back tb r u t (go (joined tb r) (step tb r u v a) (step tb r v t b))
  where
    go : Transitive tb r → Step tb r u v → Step tb r v t → Step tb r u t
    go before (old p) (old q) = old (before u v t p q)
    go before (old p) (new k c d) = new k (rises tb r u v before p c) d
    go before (new k c d) (old q) = new k c (falls tb r v t before d q)
    go before (new k c d) (new l e f) = new k c f

-- The closed priority is transitive.
pub above_trans : (tb : Table) (u v t : ℕ) → above tb u v ≡ true → above tb v t ≡ true → above tb u t ≡ true
unfolding above
above_trans tb = joined tb tb.records

-- Complete: every chain of pairs is given.
complete : (tb : Table) {u t : ℕ} → Above tb u t → above tb u t ≡ true
unfolding above
complete tb (pair r h k) = given tb tb.records r h k
complete tb (chain {u} {v} {t} a b) = above_trans tb u v t (complete tb a) (complete tb b)

-- The computed priority is the transitive closure of the pairs.
pub closed : (tb : Table) (u t : ℕ) → (above tb u t ≡ true) ↔ Above tb u t
unfolding above
closed tb u t = (sound tb tb.records (omega arith) u t, complete tb)
