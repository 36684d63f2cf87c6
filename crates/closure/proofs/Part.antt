-- The closing in its course: the first t transitions have all to whom a chain leads, the others what is written. So a
-- chain of the rows as they are is one of those that were lent, and the other way round.
use mathlib.Core.Bool.{true, false}
use mathlib.Core.List.{List}
use mathlib.Core.Logic.{⊎_elim}
use mathlib.Core.Path.{◌≡◌, sym, ap, ◌∙◌}
use Prim.Native.Nat.{ℕ, ◌+◌, ◌*◌, ◌≤◌, ◌<◌}
use native.Mathlib.Omega.{arith}
use lib.Dec.{ltb}
use lib.ListN.{length, length-set, set}
use lib.Seq.{get_or-set_same, get_or-set_other}
use borrow.Author.Count.{below_more}
use borrow.Author.Tests.{ltb-true, ltb-false}
use Rattle.meaning.specs.Bytes.{bit}
use Rattle.meaning.proofs.Bool.{either, not_both}
use Rattle.rows.specs.Rows.{below}
use Rattle.closure.specs.Closure.{Chain, pair, LowPairs, Reached, OthersSame, Closes}
use Rattle.closure.proofs.Chains.{begins, ends_low, rechained}

pub record Part (rows : List ℕ) (t : ℕ) (rows' : List ℕ) : Type 0 where
  pub size : length rows' ≡ length rows
  pub others : OthersSame rows rows'
  pub later : (u : ℕ) → t ≤ u → below rows' u ≡ below rows u
  pub done : (u : ℕ) → u < t → Reached rows u (below rows' u)

module _ {rows now : List ℕ} {t : ℕ} (part : Part rows t now) where
  -- A pair of the rows as they are is a chain of those that were lent.
  is_chain : (u j : ℕ) → u < 64 → j < 64 → bit (below now u) j ≡ true → Chain rows u j
  is_chain u j h i e =
      ⊎_elim (λ (b : ltb u t ≡ true). (part.done u (ltb-true u t b) j i).0 e)
      (λ (b : ltb u t ≡ false). pair h i (ap (λ (x : ℕ). bit x j) (sym (part.later u (ltb-false u t b))) ∙ e))
      (either (ltb u t))

  -- A pair of those that were lent is still there.
  stays : (u j : ℕ) → u < 64 → j < 64 → bit (below rows u) j ≡ true → bit (below now u) j ≡ true
  stays u j h i e =
      ⊎_elim (λ (b : ltb u t ≡ true). (part.done u (ltb-true u t b) j i).1 (pair h i e))
      (λ (b : ltb u t ≡ false). ap (λ (x : ℕ). bit x j) (part.later u (ltb-false u t b)) ∙ e)
      (either (ltb u t))

  -- Whom a chain of the rows as they are leads to from t gets into its row.
  pub one_more : (r : ℕ) → 8 * t + 7 < length now → Reached now t r → Part rows (t + 1) (set now (8 * t + 7) r)
  one_more r there reached =
      record {
        size = length-set now (8 * t + 7) r ∙ part.size;
        others = λ c i h. get_or-set_other now (8 * t + 7) (8 * i + c) r 0 (λ e. omega arith) ∙ part.others c i h;
        later = λ u h. get_or-set_other now (8 * t + 7) (8 * u + 7) r 0 (λ e. omega arith) ∙ part.later u (omega arith);
        done =
            below_more _ _
            (λ u h. rw (get_or-set_other now (8 * t + 7) (8 * u + 7) r 0 (λ e. omega arith)) (part.done u h))
            (rw (get_or-set_same now (8 * t + 7) r 0 there) whole);
      }
    where
      whole : Reached rows t r
      whole j h = (
        λ e. rechained is_chain ((reached j h).0 e),
        λ w. (reached j h).1 (rechained (λ u i l m e. pair l m (stays u i l m e)) w),
      )

  module _ {m : ℕ} (low : LowPairs m rows) where
    -- From m on still none stands above or below another.
    pub part_low : t ≤ m → LowPairs m now
    part_low h =
        record {
          few = low.few;
          there = rw part.size low.there;
          none = λ u j past l i. ap (λ (x : ℕ). bit x j) (part.later u (omega arith)) ∙ low.none u j past l i;
          lower = λ u j l i e. ends_low low (is_chain u j l i e);
        }

    -- When all m have theirs the rows are closed.
    pub closing : m ≤ t → Closes rows now
    closing past =
        record {
          size = part.size;
          others = part.others;
          closed = λ u j h i. (is_chain u j h i, back u j h i);
        }
      where
        back : (u j : ℕ) → u < 64 → j < 64 → Chain rows u j → bit (below now u) j ≡ true
        back u j h i w =
            ⊎_elim (λ (b : ltb u t ≡ true). (part.done u (ltb-true u t b) j i).1 w)
            (λ (b : ltb u t ≡ false).
            let v = begins w in
            not_both v.2 (low.none u v.0 (omega (arith, ltb-false u t b)) h v.1))
            (either (ltb u t))
