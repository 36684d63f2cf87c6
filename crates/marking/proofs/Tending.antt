-- Places are tended one after another: what is kept of those before holds for their tokens, and of those behind all is
-- as it was.
use mathlib.Core.Bool.{Bool, true, false, cond, ◌||◌}
use mathlib.Core.List.{List}
use mathlib.Core.Path.{◌≡◌, refl, ◌∙◌}
use Prim.Native.Nat.{ℕ, ◌+◌, ◌≤◌, ◌<◌}
use native.Mathlib.Numerals.{add-one}
use native.Mathlib.Omega.{arith}
use lib.Dec.{eqb}
use lib.ListN.{get_or}
use borrow.Author.Tests.{eqb-true, eqb-false}
use Rattle.std.proofs.lemmas.Bool.Decides.{nat_tests}
use Rattle.meaning.specs.Below.{some}
use Rattle.meaning.specs.Bytes.{bit}
use Rattle.levels.specs.declared.Kept.{Kept}
use Rattle.levels.specs.Levels.{SpansAt, OnLevel, Relevelled}
use Rattle.marking.specs.Sweep.{rest_at, leaves, fallen}

-- The places below i are tended.
pub record Tending (i : ℕ) (rows : List ℕ) (w s : List (List ℕ)) (tokens put : List ℕ) (kept₀ kept : Kept)
    (starved : ℕ) : Type 0 where
  pub spans : (p : ℕ) → p < 128 → SpansAt rows w s kept p
  pub inside : (p : ℕ) → p < i → OnLevel kept p (get_or tokens p 0)
  pub others : (p : ℕ) → i ≤ p → p < 128 → (get_or kept.from p 0 ≡ get_or kept₀.from p 0)
      × (get_or kept.upto p 0 ≡ get_or kept₀.upto p 0)
  pub marks : (p : ℕ) → p < 128 → get_or kept.left p 0 ≡ get_or kept₀.left p 0
  pub starves : (t : ℕ) → bit starved t ≡ some i (λ p. fallen rows w s kept₀ (rest_at tokens put p) p t)

module _ {rows : List ℕ} {w s : List (List ℕ)} {tokens put : List ℕ} {kept₀ : Kept} where
  module _ {p starved : ℕ} {kept : Kept} (h : p < 128) (x : Tending p rows w s tokens put kept₀ kept starved) where
    -- The set has also whom place p starves.
    more : (starved' : ℕ) → ((t : ℕ) → bit starved' t
        ≡ (bit starved t || fallen rows w s kept₀ (rest_at tokens put p) p t))
        → (t : ℕ) → bit starved' t ≡ some (p + 1) (λ q. fallen rows w s kept₀ (rest_at tokens put q) q t)
    unfolding some
    more starved' joins t = joins t ∙ rw (x.starves t, add-one p)

    -- Place p is still on its level with its new tokens.
    pub one_stays : {starved' : ℕ} → OnLevel kept p (get_or tokens p 0)
        → ((t : ℕ) → bit starved' t ≡ (bit starved t || fallen rows w s kept₀ (rest_at tokens put p) p t))
        → Tending (p + 1) rows w s tokens put kept₀ kept starved'
    one_stays {starved'} on joins =
        record {
          spans = x.spans;
          inside = λ q l. (grind (arith, on, x.inside q), grind (arith, on, x.inside q));
          others = λ q l. x.others q (omega arith);
          marks = x.marks;
          starves = more starved' joins;
        }

    -- What is kept of place p is made anew for its new tokens.
    pub one_relevelled : {starved' : ℕ} {kept' : Kept} → Relevelled p (get_or tokens p 0) rows w s kept kept'
        → ((t : ℕ) → bit starved' t ≡ (bit starved t || fallen rows w s kept₀ (rest_at tokens put p) p t))
        → Tending (p + 1) rows w s tokens put kept₀ kept' starved'
    one_relevelled {starved'} {kept'} anew joins =
        record {
          spans = λ q l. spans q l (eqb q p) refl;
          inside = λ q l. (
            grind (arith, anew.inside, anew.others q, x.inside q),
            grind (arith, anew.inside, anew.others q, x.inside q),
          );
          others = λ q l k.
              let o = anew.others q k (λ e. omega arith) in
              let b = x.others q (omega arith) k in
              (o.3 ∙ b.0, o.4 ∙ b.1);
          marks = λ q l. anew.left q l ∙ x.marks q l;
          starves = more starved' joins;
        }
      where
        spans : (q : ℕ) → q < 128 → (b : Bool) → eqb q p ≡ b → SpansAt rows w s kept' q
        spans q l true e = rw (eqb-true q p e) anew.spans
        spans q l false e =
            let o = anew.others q l (eqb-false q p e) in
            rw (o.0, o.1, o.2, o.3, o.4) (x.spans q l)

    -- A place that is not marked did not leave its level: it has its new tokens on it, and starves nobody anew.
    pub unmarked : get_or kept₀.left p 0 ≡ cond (leaves kept₀ p (rest_at tokens put p) (get_or tokens p 0)) 1 0
        → get_or kept.left p 0 ≡ 0
        → Tending (p + 1) rows w s tokens put kept₀ kept starved
    unmarked mark none =
        one_stays (
          grind (arith, nat_tests, mark, none, x.marks p h, x.others p),
          grind (arith, nat_tests, mark, none, x.marks p h, x.others p),
        )
        (λ t. grind (arith, nat_tests, mark, none, x.marks p h))
