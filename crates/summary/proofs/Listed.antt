-- A list made of the values of f has them at their places, and a list of that length with those values is that list.
use mathlib.Core.List.{List, [], ◌∷◌, ◌++◌}
use mathlib.Core.Logic.{⊎_elim}
use mathlib.Core.Path.{◌≡◌, refl, sym, ap, ap₂, subst, ◌∙◌}
use Prim.Native.Nat.{ℕ, zero, suc, ◌+◌, ◌≤◌, ◌<◌}
use native.Mathlib.Nat.{not-suc-le-zero}
use native.Mathlib.Omega.{arith}
use lib.ListN.{length, get_or, length-append, get_or-append}
use lib.Seq.{ext_get_or, get_or_at}
use denote.Param.Members.{Mut, Called}
use Rattle.std.specs.Array.{IsFromFnResult, IsFromFnResultFrom}
use Rattle.meaning.proofs.Below.{last}
use Rattle.summary.specs.Day.{listed}

module _ {A : Type 0} (f : ℕ → A) where
  pub length_listed : (n : ℕ) → length (listed n f) ≡ n
  unfolding listed
  length_listed zero = refl
  length_listed (suc n) = length-append (listed n f) (f n ∷ []) ∙ omega (arith, length_listed n)

  pub get_or_listed : (n i : ℕ) (d : A) → i < n → get_or (listed n f) i d ≡ f i
  unfolding listed
  get_or_listed zero i d h = absurd (not-suc-le-zero h)
  get_or_listed (suc n) i d h =
      ⊎_elim
      (λ (e : i ≡ n). get_or_at (listed n f) (f n) [] d i (length_listed n ∙ sym e) ∙ ap f (sym e))
      (λ (l : i < n).
      get_or-append (listed n f) (f n ∷ []) d i (omega (arith, length_listed n, l)) ∙ get_or_listed n i d l)
      (last h)

  pub listed_is : (n : ℕ) (d : A) (xs : List A) → length xs ≡ n → ((i : ℕ) → i < n → get_or xs i d ≡ f i)
      → xs ≡ listed n f
  listed_is n d xs long same =
      ext_get_or d xs (listed n f) (long ∙ sym (length_listed n))
      (λ i l. same i (omega (arith, long, l)) ∙ sym (get_or_listed n i d (omega (arith, long, l))))

pub listed_same : {A : Type 0} (n : ℕ) (f g : ℕ → A) → ((i : ℕ) → i < n → f i ≡ g i) → listed n f ≡ listed n g
unfolding listed
listed_same {A} zero f g e = refl
listed_same {A} (suc n) f g e =
    ap₂ (λ (xs : List A) (x : A). xs ++ x ∷ []) (listed_same n f g (λ i l. e i (omega (arith, l)))) (e n (omega arith))

-- An array that is made by calls of a function, one at each number in turn, where a call changes nothing and gives the
-- value of f.
module _ {F A : Type 0} (g : Mut F (ℕ × Unit {0}) A) (p : F) (f : ℕ → A) (d : A) (xs : List A)
    (gives : (i : ℕ) (x : A) (q : F) → Called g p (i, tt) x q → (q ≡ p) × (x ≡ f i)) where
  made_from : (n i : ℕ) → IsFromFnResultFrom g p xs i n → (j : ℕ) → i ≤ j → j < i + n → get_or xs j d ≡ f j
  made_from zero i m j h l = absurd (omega arith)
  made_from (suc n) i (q, x, at, call, rest) j h l =
      let (stays, is) = gives i x q call in
      ⊎_elim (λ (e : i ≡ j). ap (λ (k : ℕ). get_or xs k d) (sym e) ∙ at.1 d ∙ is ∙ ap f e)
      (λ (m : i < j).
      made_from n (i + 1) (subst (λ (r : F). IsFromFnResultFrom g r xs (i + 1) n) stays rest) j (omega (arith, m))
      (omega (arith, l)))
      (last (omega (arith, h)))

  pub made_listed : (n : ℕ) → IsFromFnResult g p xs n → xs ≡ listed n f
  made_listed n m = listed_is f n d xs m.long (λ i l. made_from n 0 m.each i (omega arith) (omega (arith, l)))
