-- Whether some number passes: below a sum, of two tests, and where none from a number on passes.
use mathlib.Core.Bool.{Bool, true, false, ◌||◌, or_assoc, or-false}
use mathlib.Core.Logic.{⊎_elim}
use mathlib.Core.Path.{◌≡◌, refl, sym, ◌∙◌}
use Prim.Native.Nat.{ℕ, zero, suc, ◌+◌, ◌≤◌, ◌<◌}
use native.Mathlib.Nat.{add-zero, add-suc}
use native.Mathlib.Omega.{arith}
use lib.Dec.{ltb}
use borrow.Author.Tests.{ltb-true, ltb-false}
use Rattle.meaning.specs.Below.{some}
use Rattle.meaning.proofs.Bool.{not_both, same_test, either}
use Rattle.meaning.proofs.Below.{some_intro, some_elim}

-- Some number below m + n is some number below m, or m and some number below n.
pub some_split : (m n : ℕ) (p : ℕ → Bool) → some (m + n) p ≡ (some m p || some n (λ k. p (m + k)))
unfolding some
some_split m zero p = rw (add-zero m) (sym (or-false (some m p)))
some_split m (suc n) p =
    rw (add-suc m n, some_split m n p) (or_assoc (some m p) (some n (λ k. p (m + k))) (p (m + n)))

-- Some number passes one test or some passes the other: some number passes one of them.
pub some_or : (n : ℕ) (p q : ℕ → Bool) → (some n p || some n q) ≡ some n (λ k. p k || q k)
unfolding some
some_or zero p q = refl
some_or (suc n) p q = cross (some n p) (p n) (some n q) (q n) ∙ rw (some_or n p q)
  where
    cross : (a b c d : Bool) → (a || b || (c || d)) ≡ (a || c || (b || d))
    cross true b c d = refl
    cross false true true d = refl
    cross false true false d = refl
    cross false false c d = refl

-- Where none from n on passes, some below m passes exactly if some below n does.
pub some_short : (n m : ℕ) (p : ℕ → Bool) → n ≤ m → ((k : ℕ) → n ≤ k → k < m → p k ≡ false) → some n p ≡ some m p
some_short n m p h f =
    same_test (some n p) (some m p)
    (λ e.
    let w = some_elim n p e in
    some_intro m p w.0 (omega (arith, w.1)) w.2)
    (λ e.
    let w = some_elim m p e in
    ⊎_elim (λ (t : ltb w.0 n ≡ true). some_intro n p w.0 (ltb-true w.0 n t) w.2)
    (λ (t : ltb w.0 n ≡ false). not_both w.2 (f w.0 (ltb-false w.0 n t) w.1))
    (either (ltb w.0 n)))
