-- A turn of taking: a member of the word takes its weight at its place, so what is taken and what is still to be taken
-- there stays the same.
use mathlib.Core.Bool.{true, cond, ◌||◌}
use mathlib.Core.List.{List}
use mathlib.Core.Path.{◌≡◌, refl, sym, ◌∙◌}
use Prim.Native.Nat.{ℕ, ◌+◌, ◌≤◌, ◌<◌}
use native.Mathlib.Nat.{add-zero}
use native.Mathlib.Omega.{arith}
use lib.ListN.{length, get_or, set}
use lib.Seq.{get_or-set_same, get_or-set_other}
use Rattle.std.proofs.lemmas.Bool.Decides.{nat_tests}
use Rattle.meaning.specs.Bytes.{bit}
use Rattle.meaning.proofs.Bool.{and_left}
use Rattle.sets.specs.Walk.{Taken}
use Rattle.sets.proofs.Bits.{bit_zero}
use Rattle.rows.specs.Rows.{cell}
use Rattle.levels.specs.declared.Kept.{Kept}
use Rattle.marking.specs.Moves.{lacking_at, Took}
use Rattle.marking.proofs.Walk.{any, gathers, all_gathered}

-- The members of `left` are still to take.
pub record Taking (word from u : ℕ) (w : List (List ℕ)) (kept : Kept) (taken₀ taken : List ℕ) (left lack : ℕ)
    : Type 0 where
  pub within : (p : ℕ) → bit left p ≡ true → bit word p ≡ true
  pub takes : (p : ℕ) → p < 64
      → get_or taken (from + p) 0 + cond (bit left p) (cell w (from + p) u) 0
      ≡ get_or taken₀ (from + p) 0 + cond (bit word p) (cell w (from + p) u) 0
  pub at_most : (p : ℕ) → p < 64 → get_or taken (from + p) 0 ≤ get_or taken₀ (from + p) 0 + cond (bit left p) 0 65535
  pub before : (q : ℕ) → q < from → get_or taken q 0 ≡ get_or taken₀ q 0
  pub behind : (q : ℕ) → from + 64 ≤ q → get_or taken q 0 ≡ get_or taken₀ q 0
  pub lack_is : (j : ℕ) → (bit lack j || any left (λ p. bit (lacking_at kept (from + p)) j))
      ≡ any word (λ p. bit (lacking_at kept (from + p)) j)

module _ {word from u : ℕ} {w : List (List ℕ)} {kept : Kept} {taken₀ : List ℕ} where
  -- At first all members are still to take.
  pub begins : Taking word from u w kept taken₀ taken₀ word 0
  begins =
      record {
        within = λ p e. e;
        takes = λ p h. refl;
        at_most = λ p h. omega arith;
        before = λ q h. refl;
        behind = λ q h. refl;
        lack_is = λ j. rw (bit_zero j);
      }

  -- With nothing left all have taken.
  pub ends : {taken : List ℕ} {left lack : ℕ} → Taking word from u w kept taken₀ taken left lack → left ≡ 0
      → Took word from u w kept taken₀ taken lack
  ends {taken} {left} {lack} x e =
      record {
        takes = λ p h. sym (add-zero _) ∙ rw (e, bit_zero p) at (x.takes p h);
        at_most = λ p h. rw (e, bit_zero p) at (x.at_most p h);
        before = x.before;
        behind = x.behind;
        lack_is = λ j. all_gathered left (λ p. bit (lacking_at kept (from + p)) j) (bit lack j) e (x.lack_is j);
      }

  -- Member k takes its weight.
  pub one_taken : {taken : List ℕ} {left lack : ℕ} → Taking word from u w kept taken₀ taken left lack
      → length taken ≡ 128 → from ≤ 64
      → {k rest : ℕ} → Taken left k rest → (weight lack' : ℕ)
      → weight ≡ cell w (from + k) u → weight ≤ 65535
      → ((j : ℕ) → bit lack' j ≡ (bit lack j || bit (lacking_at kept (from + k)) j))
      → Taking word from u w kept taken₀ (set taken (from + k) (get_or taken (from + k) 0 + weight)) rest lack'
  one_taken {taken} {left} {lack} x size half {k} {rest} turn weight lack' is most joins =
      record {
        within = λ p e. x.within p (and_left (bit left p) _ (sym (turn.less p) ∙ e));
        takes = λ p h.
            grind (
              arith,
              nat_tests,
              here,
              is,
              other (from + p),
              turn.less p,
              turn.member,
              x.takes p h,
            );
        at_most = λ p h.
            grind (arith, nat_tests, here, most, other (from + p), turn.less p, turn.member, x.at_most p h);
        before = λ q h. other q (λ e. omega arith) ∙ x.before q h;
        behind = λ q h. other q (λ e. omega arith) ∙ x.behind q h;
        lack_is =
            λ j. gathers turn (λ p. bit (lacking_at kept (from + p)) j) (bit lack j) (joins j)
            (x.lack_is j);
      }
    where
      taken' : List ℕ
      taken' = set taken (from + k) (get_or taken (from + k) 0 + weight)

      other : (q : ℕ) → ¬ (q ≡ from + k) → get_or taken' q 0 ≡ get_or taken q 0
      other q apart = get_or-set_other taken (from + k) q _ 0 apart

      here : get_or taken' (from + k) 0 ≡ get_or taken (from + k) 0 + weight
      here = get_or-set_same taken (from + k) _ 0 (omega arith)

-- What the search asks of the walk.
pub ruleset taking = (begins, one_taken, ends)
