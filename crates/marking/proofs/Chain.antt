-- A chain of post arcs puts what its first arc puts and what the rest of it puts.
use mathlib.Core.Bool.{cond}
use mathlib.Core.List.{List}
use mathlib.Core.Logic.{⊎_elim}
use mathlib.Core.Path.{◌≡◌, refl, ap}
use Prim.Native.Nat.{ℕ, zero, suc, ◌+◌, ◌≤◌, ◌<◌}
use native.Mathlib.Nat.{eq-or-lt_of_le}
use native.Mathlib.Omega.{arith}
use lib.Dec.{eqb}
use lib.ListN.{length, get_or, set}
use lib.Seq.{get_or-set_same, get_or-set_other}
use borrow.Author.Tests.{eq-eqb, ne_eqb}
use Rattle.std.proofs.lemmas.Bool.Decides.{nat_tests}
use Rattle.marking.specs.Moves.{place_of, weight_of, next_of, given_upto, given}

-- Going down from any number that is not below the link finds the same chain.
found : (n : ℕ) (posts : List ℕ) (at p : ℕ) → at ≤ n → given_upto n posts at p ≡ given posts at p
unfolding given_upto
found zero posts at p h =
    let none : at ≡ 0 = omega arith in
    rw none
found (suc n) posts at p h =
    ⊎_elim (λ (e : at ≡ suc n). rw e)
    (λ (l : at < suc n).
    let apart : ¬ (at ≡ suc n) = λ e. omega arith in
    rw (ne_eqb at (suc n) apart) (found n posts at p (omega arith)))
    (eq-or-lt_of_le h)

-- No arc puts nothing.
pub given_none : (posts : List ℕ) (at p : ℕ) → at ≡ 0 → given posts at p ≡ 0
unfolding given_upto
given_none posts at p e = rw e

-- An arc puts its weight at its place, and the chain goes on.
pub given_arc : (posts : List ℕ) (at k p : ℕ) → at ≡ suc k → next_of posts k ≤ k
    → given posts at p ≡ cond (eqb (place_of posts k) p) (weight_of posts k) 0 + given posts (next_of posts k) p
unfolding given_upto
given_arc posts at k p e h =
    rw (e, eq-eqb (suc k) (suc k) refl) (ap (λ (x : ℕ). cond (eqb (place_of posts k) p) (weight_of posts k) 0 + x)
    (found k posts (next_of posts k) p h))

-- One more arc is put: what is put and what is still to be put at each place stays the same.
pub one_given : (posts put : List ℕ) (at k : ℕ) (weight : ℕ) → at ≡ suc k → next_of posts k ≤ k
    → place_of posts k < length put → weight ≡ weight_of posts k → (p : ℕ)
    → get_or (set put (place_of posts k) (get_or put (place_of posts k) 0 + weight)) p 0
    + given posts (next_of posts k) p
    ≡ get_or put p 0 + given posts at p
one_given posts put at k weight e down there is p =
    grind (
      arith,
      nat_tests,
      is,
      get_or-set_same put (place_of posts k) (get_or put (place_of posts k) 0 + weight) 0 there,
      get_or-set_other put (place_of posts k) p (get_or put (place_of posts k) 0 + weight) 0,
      given_arc posts at k p e down,
    )
