-- A walk over the numbers below an end: those before the one at hand are kept where they pass.
use mathlib.Core.Bool.{Bool, true, false, ◌&&◌, ◌||◌, and-true, and-false, or-false}
use mathlib.Core.Path.{◌≡◌, refl, sym, ap}
use Prim.Native.Nat.{ℕ, ◌+◌, ◌≤◌}
use native.Mathlib.Omega.{arith}
use lib.Dec.{eqb, ltb}
use borrow.Author.Tests.{eqb-true, eqb-false, lt-ltb, le-ltb, ltb-true, ltb-false}
use Rattle.meaning.specs.Bytes.{bit}
use Rattle.sets.proofs.Bits.{bit_zero}

-- Of the numbers below p + 1 that pass, one is p or they are below p.
pub one_more : (f : ℕ → Bool) (p q : ℕ) → ((ltb q p && f q) || (f p && eqb p q)) ≡ (ltb q (p + 1) && f q)
one_more f p q = go (ltb q p) (eqb p q) refl refl
  where
    go : (x y : Bool) → ltb q p ≡ x → eqb p q ≡ y → ((x && f q) || (f p && y)) ≡ (ltb q (p + 1) && f q)
    go true true e z = absurd (omega (arith, ltb-true q p e, eqb-true p q z))
    go true false e z = rw (lt-ltb q (p + 1) (omega (arith, ltb-true q p e)), and-false (f p)) (or-false (f q))
    go false true e z = rw (lt-ltb q (p + 1) (omega (arith, eqb-true p q z)), and-true (f p)) (ap f (eqb-true p q z))
    go false false e z =
        let apart : ¬ (p ≡ q) = eqb-false p q z in
        rw (le-ltb q (p + 1) (omega (arith, ltb-false q p e)), and-false (f p))

-- Before the first nothing is kept, and where none from n on passes all that pass are below n.
pub no_number : (f : ℕ → Bool) (t : ℕ) → bit 0 t ≡ (ltb t 0 && f t)
no_number f t = rw (bit_zero t, le-ltb t 0 (omega arith))

pub below_end : (n : ℕ) (f : ℕ → Bool) (t : ℕ) → (n ≤ t → f t ≡ false) → (ltb t n && f t) ≡ f t
below_end n f t none = go (ltb t n) refl
  where
    go : (b : Bool) → ltb t n ≡ b → (b && f t) ≡ f t
    go true e = refl
    go false e = sym (none (ltb-false t n e))
