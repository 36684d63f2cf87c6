-- A walk over the members of a set, the lowest first: the member at hand and what is left add up to what was left.
use mathlib.Core.Bool.{Bool, true, false, cond, ◌&&◌, ◌||◌, or-false, or_assoc}
use mathlib.Core.Logic.{⊎_elim}
use mathlib.Core.Path.{◌≡◌, sym, ap, ◌∙◌}
use Prim.Native.Nat.{ℕ, ◌≤◌}
use native.Mathlib.Omega.{arith}
use lib.Dec.{eqb}
use borrow.Author.Tests.{eqb-true}
use Rattle.std.proofs.lemmas.Bool.Decides.{nat_tests}
use Rattle.meaning.specs.Below.{some, sum}
use Rattle.meaning.specs.Bytes.{bit}
use Rattle.meaning.proofs.Bool.{and_left, and_right, and_true as both, or_true_left, or_true_right, or_cases, same_test}
use Rattle.meaning.proofs.Below.{some_intro, some_elim, none_intro, sum_zero, sum_mono}
use Rattle.sets.specs.Walk.{Taken}
use Rattle.sets.proofs.Bits.{bit_zero}
use Rattle.sets.proofs.Taking.{over}

-- Whether a member of the set passes f.
abbrev pub any : ℕ → (ℕ → Bool) → Bool
any s f = some 64 (λ t. bit s t && f t)

-- A turn takes member k and leaves the rest.
module _ {left k rest : ℕ} (turn : Taken left k rest) where
  -- The set has the member and the others.
  with_others : (j : ℕ) → bit left j ≡ (bit rest j || eqb k j)
  with_others j = grind (arith, nat_tests, turn.less j, turn.member)

  -- Some member passes f: the member does, or one of the others.
  any_less : (f : ℕ → Bool) → any left f ≡ (f k || any rest f)
  any_less f = same_test (any left f) (f k || any rest f) there back
    where
      there : any left f ≡ true → (f k || any rest f) ≡ true
      there e =
          let w = some_elim 64 (λ t. bit left t && f t) e in
          let t : ℕ = w.0 in
          let passes : f t ≡ true = and_right (bit left t) (f t) w.2 in
          ⊎_elim (λ (q : bit rest t ≡ true). or_true_right (f k)
          (some_intro 64 (λ t. bit rest t && f t) t w.1 (both q passes)))
          (λ (q : eqb k t ≡ true). or_true_left _ (ap f (eqb-true k t q) ∙ passes))
          (or_cases (bit rest t) (eqb k t) (sym (with_others t) ∙ and_left (bit left t) (f t) w.2))

      back : (f k || any rest f) ≡ true → any left f ≡ true
      back e =
          ⊎_elim (λ (q : f k ≡ true). some_intro 64 (λ t. bit left t && f t) k turn.low (both turn.member q))
          (λ (q : any rest f ≡ true).
          let w = some_elim 64 (λ t. bit rest t && f t) q in
          let t : ℕ = w.0 in
          let member : bit left t ≡ true =
          with_others t ∙ or_true_left (eqb k t) (and_left (bit rest t) (f t) w.2) in
          some_intro 64 (λ t. bit left t && f t) t w.1 (both member (and_right (bit rest t) (f t) w.2)))
          (or_cases (f k) (any rest f) e)

  -- What is gathered, with what the others are to give, stays the same where the member gives what it has.
  pub gathers : (f : ℕ → Bool) (b : Bool) {c all : Bool} → c ≡ (b || f k) → (b || any left f) ≡ all
      → (c || any rest f) ≡ all
  gathers f b gives before =
      rw gives (or_assoc b (f k) (any rest f) ∙ ap (λ (x : Bool). b || x) (sym (any_less f)) ∙ before)

-- With nothing left nothing is to be added, and all is gathered.
pub over_none : (left : ℕ) (f : ℕ → ℕ) → left ≡ 0 → over left f ≡ 0
over_none left f e = sum_zero 64 (λ t. cond (bit left t) (f t) 0) (λ t l. rw (e, bit_zero t))

pub all_gathered : (left : ℕ) (f : ℕ → Bool) (b : Bool) {all : Bool} → left ≡ 0 → (b || any left f) ≡ all → b ≡ all
all_gathered left f b e before =
    sym (or-false b) ∙ ap (λ (x : Bool). b || x) (sym
    (none_intro 64 (λ t. bit left t && f t) (λ t l. rw (e, bit_zero t)))) ∙ before

-- A set has at most 64 members.
pub over_most : (s : ℕ) → over s (λ t. 65535) ≤ 4194240
unfolding sum
over_most s = sum_mono 64 (λ t. cond (bit s t) 65535 0) (λ t. 65535) (λ k h. at_most (bit s k))
  where
    at_most : (b : Bool) → cond b 65535 0 ≤ 65535
    at_most true = omega arith
    at_most false = omega arith

-- A member of a set is at a place that passes: some place is one of a member's, and passes.
pub by_places : (s : ℕ) (at : ℕ → ℕ → Bool) (f : ℕ → Bool)
    → any s (λ t. some 128 (λ p. at p t && f p)) ≡ some 128 (λ p. any s (at p) && f p)
by_places s at f =
    same_test (any s (λ t. some 128 (λ p. at p t && f p))) (some 128 (λ p. any s (at p) && f p)) there back
  where
    there : any s (λ t. some 128 (λ p. at p t && f p)) ≡ true → some 128 (λ p. any s (at p) && f p) ≡ true
    there e =
        let w = some_elim 64 (λ t. bit s t && some 128 (λ p. at p t && f p)) e in
        let t : ℕ = w.0 in
        let v = some_elim 128 (λ p. at p t && f p) (and_right (bit s t) (some 128 (λ p. at p t && f p)) w.2) in
        let p : ℕ = v.0 in
        let member : bit s t ≡ true = and_left (bit s t) (some 128 (λ p. at p t && f p)) w.2 in
        some_intro 128 (λ p. any s (at p) && f p) p v.1
        (both (some_intro 64 (λ t. bit s t && at p t) t w.1 (both member (and_left (at p t) (f p) v.2)))
        (and_right (at p t) (f p) v.2))

    back : some 128 (λ p. any s (at p) && f p) ≡ true → any s (λ t. some 128 (λ p. at p t && f p)) ≡ true
    back e =
        let w = some_elim 128 (λ p. any s (at p) && f p) e in
        let p : ℕ = w.0 in
        let v = some_elim 64 (λ t. bit s t && at p t) (and_left (any s (at p)) (f p) w.2) in
        let t : ℕ = v.0 in
        let passes : f p ≡ true = and_right (any s (at p)) (f p) w.2 in
        some_intro 64 (λ t. bit s t && some 128 (λ p. at p t && f p)) t v.1
        (both (and_left (bit s t) (at p t) v.2) (some_intro 128 (λ p. at p t && f p) p w.1
        (both (and_right (bit s t) (at p t) v.2) passes)))
