-- The place joins the set of its half, and the other half stays.
use mathlib.Core.Bool.{Bool, true, false, cond, ◌||◌, or-false}
use mathlib.Core.Path.{◌≡◌, refl, sym, ap, ◌∙◌}
use Prim.Native.Nat.{ℕ, ◌-◌, ◌≤◌}
use native.Mathlib.Omega.{arith}
use lib.Dec.{eqb, ltb}
use borrow.Author.Tests.{ltb-true, ltb-false, ne_eqb, eqb-true, eqb-false, eq-eqb}
use Rattle.meaning.specs.Bytes.{bit}
use Rattle.rows.specs.Rows.{has}
use Rattle.rows.proofs.Declared.with_place.Goals as goal

-- Two numbers from 64 on are equal exactly if they are 64 above equal ones.
apart : (p q : ℕ) → 64 ≤ p → 64 ≤ q → eqb (p - 64) (q - 64) ≡ eqb p q
apart p q h k = go (eqb p q) refl
  where
    go : (x : Bool) → eqb p q ≡ x → eqb (p - 64) (q - 64) ≡ x
    go true e = eq-eqb _ _ (ap (λ (n : ℕ). n - 64) (eqb-true p q e))
    go false e =
        let no : ¬ (p ≡ q) = eqb-false p q e in
        ne_eqb (p - 64) (q - 64) (λ (z : p - 64 ≡ q - 64). no (omega (arith, z, h, k)))

pub returns-then-p-lt64 : goal.returns-then-p-lt64
unfolding has
returns-then-p-lt64 c = (λ q h. go q (ltb q 64) refl, refl)
  where
    p : ℕ
    p = c.args.p

    go : (q : ℕ) (x : Bool) → ltb q 64 ≡ x
        → cond (ltb q 64) (bit c.union.result q) (bit c.args.self.high (q - 64))
        ≡ (cond (ltb q 64) (bit c.args.self.low q)
        (bit c.args.self.high (q - 64)) || eqb p q)
    go q true e =
        rw (e) (c.union.ensures q ∙ ap (λ (b : Bool). bit c.args.self.low q || b)
        (c.single.ensures q))
    go q false e =
        let no : ¬ (p ≡ q) = λ z. omega (arith, ltb-false q 64 e, c.if-p-lt64.true) in
        rw (e, ne_eqb p q no) (sym (or-false _))

pub returns-else-p-lt64 : goal.returns-else-p-lt64
unfolding has
returns-else-p-lt64 c = (λ q h. go q (ltb q 64) refl, refl)
  where
    p : ℕ
    p = c.args.p

    go : (q : ℕ) (x : Bool) → ltb q 64 ≡ x
        → cond (ltb q 64) (bit c.args.self.low q) (bit c.union-else-p-lt64.result (q - 64))
        ≡ (cond (ltb q 64) (bit c.args.self.low q)
        (bit c.args.self.high (q - 64)) || eqb p q)
    go q true e =
        let no : ¬ (p ≡ q) = λ z. omega (arith, ltb-true q 64 e, c.if-p-lt64.false) in
        rw (e, ne_eqb p q no) (sym (or-false _))
    go q false e =
        rw (e)
        (c.union-else-p-lt64.ensures (q - 64)
        ∙ ap (λ (b : Bool). bit c.args.self.high (q - 64) || b)
        (c.single-else-p-lt64.ensures (q - 64) ∙ apart p q c.if-p-lt64.false (ltb-false q 64 e)))
