-- The walk from t: whoever has been looked at has its row within all that is found, and each turn looks at one more.
use mathlib.Core.Bool.{Bool, true, false, cond, not, ◌&&◌, ◌||◌}
use mathlib.Core.List.{List}
use mathlib.Core.Logic.{⊎_elim}
use mathlib.Core.Path.{◌≡◌, refl, sym, ◌∙◌}
use Prim.Native.Nat.{ℕ, ◌+◌, ◌<◌}
use native.Mathlib.Omega.{arith}
use lib.Dec.{eqb}
use Rattle.std.proofs.lemmas.Bool.Decides.{nat_tests}
use borrow.Author.Tests.{eq-eqb, ne_eqb}
use Rattle.meaning.specs.Below.{sum, first}
use Rattle.meaning.specs.Bytes.{bit}
use Rattle.meaning.proofs.Bool.{not_both, and_left, or_cases}
use Rattle.meaning.proofs.Below.{first_before, sum_same, sum_add}
use Rattle.meaning.proofs.Sound.{sum_one}
use Rattle.rows.specs.Rows.{below}
use Rattle.closure.specs.Closure.{Chain, pair, chain, Reached}
use Rattle.closure.proofs.Chains.{HasRow, has_chained}

-- A chain leads from t to all that are found, and those left are among them. The row of t is found, and the row of each
-- that is found and not left.
pub record Walk (rows : List ℕ) (t all left : ℕ) : Type 0 where
  pub begun : HasRow rows all t
  pub looked : (k : ℕ) → k < 64 → bit all k ≡ true → bit left k ≡ false → HasRow rows all k
  pub chained : (j : ℕ) → j < 64 → bit all j ≡ true → Chain rows t j
  pub among : (j : ℕ) → bit left j ≡ true → bit all j ≡ true

-- At first the row of t is found, and all of it left.
pub set_out : {rows : List ℕ} {t : ℕ} → t < 64 → Walk rows t (below rows t) (below rows t)
set_out h =
    record {
      begun = λ j i e. e;
      looked = λ k i e out. not_both e out;
      chained = λ j i e. pair h i e;
      among = λ j e. e;
    }

-- With nobody left all are found.
pub arrived : {rows : List ℕ} {t all left : ℕ} → Walk rows t all left → first 64 (bit left) ≡ 64 → Reached rows t all
arrived {rows} {t} {all} {left} walk e j h = (
  walk.chained j h,
  has_chained all (λ k i m. walk.looked k i m (first_before 64 (bit left) k (rw e i))) walk.begun,
)

-- How many are not yet looked at.
abbrev pub ahead : ℕ → ℕ → ℕ → ℕ
ahead all left j = cond (bit all j && not (bit left j)) 0 1

abbrev pub unlooked : ℕ → ℕ → ℕ
unlooked all left = sum 64 (ahead all left)

-- Whether j is in the row of k and not yet found.
abbrev pub fresh : List ℕ → ℕ → ℕ → ℕ → Bool
fresh rows all k j = bit (below rows k) j && not (bit all j)

-- A turn looks at k, who was left: those of its row who are not yet found are found, and left.
pub record Turn (rows : List ℕ) (all left k all' left' : ℕ) : Type 0 where
  pub low : k < 64
  pub member : bit left k ≡ true
  pub found : (j : ℕ) → bit all' j ≡ (bit all j || fresh rows all k j)
  pub remain : (j : ℕ) → bit left' j ≡ ((bit left j && not (eqb k j)) || fresh rows all k j)

module _ {rows : List ℕ} {t all left k all' left' : ℕ} (walk : Walk rows t all left)
    (turn : Turn rows all left k all' left') where
  still : (j : ℕ) → bit all j ≡ true → bit all' j ≡ true
  still j e = turn.found j ∙ rw e

  own_row : HasRow rows all' k
  own_row j h e = grind (arith, nat_tests, turn.found j)

  -- The walk goes on.
  pub goes_on : Walk rows t all' left'
  goes_on =
      record {
        begun = λ j h e. still j (walk.begun j h e);
        looked = looked;
        chained =
            λ j h e.
            ⊎_elim (walk.chained j h) (new j h)
            (or_cases (bit all j) (fresh rows all k j) (sym (turn.found j) ∙ e));
        among = λ j e. grind (arith, nat_tests, turn.found j, turn.remain j, walk.among j);
      }
    where
      new : (j : ℕ) → j < 64 → fresh rows all k j ≡ true → Chain rows t j
      new j h e =
          chain (walk.chained k turn.low (walk.among k turn.member))
          (pair turn.low h (and_left (bit (below rows k) j) (not (bit all j)) e))

      -- Who is found and not left was found before, and not left or k.
      looked : (i : ℕ) → i < 64 → bit all' i ≡ true → bit left' i ≡ false → HasRow rows all' i
      looked i h e out j l p =
          grind (arith, nat_tests, turn.found i, turn.remain i, walk.looked i h, still j, own_row j l)

  -- One more has been looked at.
  pub one_fewer : unlooked all' left' < unlooked all left
  one_fewer =
      let split = sum_same 64 (ahead all left) (λ j. ahead all' left' j + cond (eqb k j) 1 0) (λ j h. one j) in
      let added = sum_add 64 (ahead all' left') (λ j. cond (eqb k j) 1 0) in
      let alone : sum 64 (λ j. cond (eqb k j) 1 0) ≡ 1 =
      sum_one 64 (λ j. cond (eqb k j) 1 0) k turn.low (λ j h n. rw (ne_eqb k j (λ e. n (sym e))))
      ∙ rw (eq-eqb k k refl) in
      omega (arith, split, added, alone)
    where
      one : (j : ℕ) → ahead all left j ≡ ahead all' left' j + cond (eqb k j) 1 0
      one j = grind (arith, nat_tests, turn.found j, turn.remain j, turn.member, walk.among j)
