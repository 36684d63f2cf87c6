-- A walk over the places of a word, the lowest first: whether some place passes is to be found in the rest, where the
-- places before did not.
use mathlib.Core.Bool.{Bool, true, false, not, ◌&&◌}
use mathlib.Core.Path.{◌≡◌, sym, ◌∙◌}
use Prim.Native.Nat.{ℕ, ◌<◌}
use native.Mathlib.Omega.{arith}
use lib.Dec.{eqb}
use borrow.Author.Tests.{eqb-true}
use Rattle.meaning.specs.Below.{some}
use Rattle.meaning.specs.Bytes.{bit}
use Rattle.meaning.proofs.Bool.{and_left, and_true as both}
use Rattle.meaning.proofs.Below.{some_intro, none_intro, some_same}
use Rattle.sets.specs.Walk.{Taken}
use Rattle.sets.proofs.Bits.{bit_zero}

-- A turn takes member k out of word a and leaves word b.
module _ (a k b : ℕ) (rest : (j : ℕ) → bit b j ≡ (bit a j && not (eqb k j))) where
  -- A member that fails the test changes no answer.
  pub passed : (f : ℕ → Bool) → f k ≡ false → some 64 (λ p. bit a p && f p) ≡ some 64 (λ p. bit b p && f p)
  passed f e = some_same 64 _ _ (λ p h. grind (arith, rest p, e, eqb-true k p))

-- A member that passes the test is an answer.
pub found : (a k : ℕ) (f : ℕ → Bool) → k < 64 → bit a k ≡ true → f k ≡ true → some 64 (λ p. bit a p && f p) ≡ true
found a k f h e q = some_intro 64 (λ p. bit a p && f p) k h (both e q)

-- The rest is of the word, and has the answer.
pub record Searched (f : ℕ → Bool) (word rest : ℕ) : Type 0 where
  pub inside : (k : ℕ) → bit rest k ≡ true → bit word k ≡ true
  pub same : some 64 (λ k. bit word k && f k) ≡ some 64 (λ k. bit rest k && f k)

module _ {f : ℕ → Bool} {word rest : ℕ} (at : Searched f word rest) where
  module _ {k after : ℕ} (turn : Taken rest k after) where
    -- The walk goes on past a member that fails the test.
    pub searched_on : f k ≡ false → Searched f word after
    searched_on e =
        record {
          inside = λ j l. at.inside j (and_left (bit rest j) _ (sym (turn.less j) ∙ l));
          same = at.same ∙ passed rest k after turn.less f e;
        }

    -- And ends at one that passes.
    pub answered : f k ≡ true → true ≡ some 64 (λ k. bit word k && f k)
    answered e = sym (at.same ∙ found rest k f turn.low turn.member e)

  -- The empty word has none.
  pub nothing : rest ≡ 0 → false ≡ some 64 (λ k. bit word k && f k)
  nothing e = sym (at.same ∙ none_intro 64 _ (λ k h. rw (e, bit_zero k)))
