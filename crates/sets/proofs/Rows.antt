-- Rows that are lent empty have nothing, and a row that is not there has nothing either.
use mathlib.Core.List.{List}
use mathlib.Core.Logic.{inl, inr}
use mathlib.Core.Path.{◌≡◌, ap, ◌∙◌}
use Prim.Native.Nat.{ℕ}
use native.Mathlib.Omega.{arith}
use lib.ListN.{length, get_or, replicate, get_or-replicate, get_or-eq_default}
use Rattle.meaning.proofs.Walk.{compared}

-- An empty list has 0 in each row, and past the last.
pub all_zero : (xs : List ℕ) → xs ≡ replicate (length xs) 0 → (q : ℕ) → get_or xs q 0 ≡ 0
all_zero xs e q =
    elim (compared q (length xs)) [
      | inl h ↦ ap (λ (l : List ℕ). get_or l q 0) e ∙ get_or-replicate (length xs) q 0 0 h
      | inr (inl h) ↦ get_or-eq_default xs 0 (omega arith)
      | inr (inr h) ↦ get_or-eq_default xs 0 (omega arith)
    ]
