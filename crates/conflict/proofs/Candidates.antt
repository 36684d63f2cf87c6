-- Candidate 64i + j is the pair i, j: its quotient by 64 is i and its remainder j.
use mathlib.Core.Bool.{Bool, true, false, not, ◌&&◌}
use mathlib.Core.List.{List}
use mathlib.Core.Path.{◌≡◌, ◌∙◌}
use Prim.Native.Nat.{ℕ, ◌+◌, ◌-◌, ◌*◌, ◌/◌, ◌%◌, ◌≤◌, ◌<◌}
use native.Mathlib.Omega.{arith}
use lib.ListN.{get_or}
use Rattle.std.proofs.lemmas.Bool.Decides.{nat_tests}
use Rattle.meaning.specs.Below.{first}
use Rattle.meaning.specs.Bytes.{bit}
use Rattle.meaning.proofs.Below.{first_is, first_none}
use Rattle.conflict.specs.Settled.{settled_in, unsettled_by}

-- No number below n passes.
abbrev pub NoneBelow : (ℕ → Bool) → ℕ → Type 0
NoneBelow f n = (k : ℕ) → k < n → f k ≡ false

module _ (pairs rows : List ℕ) (w s : List (List ℕ)) (n : ℕ) where
  -- Candidate k, and the pair i, j: in conflict and not settled.
  abbrev pub candidate : ℕ → Bool
  candidate = unsettled_by pairs rows w s n

  abbrev pub unsettled_pair : ℕ → ℕ → Bool
  unsettled_pair i j = bit (get_or pairs i 0) j && not (settled_in rows w s n i j)

  pub candidate_at : (i j : ℕ) → j < 64 → candidate (64 * i + j) ≡ unsettled_pair i j
  unfolding unsettled_by
  candidate_at i j h =
      let q : (64 * i + j) / 64 ≡ i = omega arith in
      let r : (64 * i + j) % 64 ≡ j = omega arith in
      rw (q, r)

  -- Of i's row, whoever is not in what is left makes no unsettled pair with i.
  abbrev pub Out : ℕ → ℕ → Type 0
  Out i left = (j : ℕ) → j < 64 → bit left j ≡ false → unsettled_pair i j ≡ false

  -- The candidates before 64i and those of i below j are settled, so none before 64i + j is.
  pub up_to : (i j : ℕ) → j ≤ 64 → NoneBelow candidate (64 * i) → ((k : ℕ) → k < j → unsettled_pair i k ≡ false)
      → NoneBelow candidate (64 * i + j)
  up_to i j h none row k l =
      let here = candidate_at i (k - 64 * i) in
      grind (arith, nat_tests, none k, row (k - 64 * i), here)

  -- An unsettled pair with none before it is the first; where there is none the first is 4096.
  pub found : (i j : ℕ) (r : Bool) → i < 64 → j < 64 → NoneBelow candidate (64 * i + j)
      → bit (get_or pairs i 0) j ≡ true
      → r ≡ settled_in rows w s n i j → not r ≡ true → first 4096 candidate ≡ 64 * i + j
  found i j r h l none has e q =
      first_is 4096 candidate (64 * i + j) (omega arith) (candidate_at i j l ∙ rw (has, ← e, q)) none

  pub not_found : (i : ℕ) → ((k j : ℕ) → i ≤ k → k < 64 → j < 64 → bit (get_or pairs k 0) j ≡ false)
      → NoneBelow candidate (64 * i)
      → first 4096 candidate ≡ 4096
  not_found i blank none =
      first_none 4096 candidate
      (λ k l.
      let here = candidate_at (k / 64) (k % 64) in
      grind (arith, nat_tests, none k, blank (k / 64) (k % 64), here))
