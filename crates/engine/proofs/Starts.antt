-- What start leaves, by the table's answer and the image's length: the table's checks come first, then 12.
use mathlib.Core.List.{List, [], ◌∷◌, ◌++◌}
use mathlib.Core.Logic.{◌≢◌, ⊎_elim}
use mathlib.Core.Path.{◌≡◌, refl, sym, ap, ◌∙◌}
use Prim.Native.Nat.{ℕ}
use native.Mathlib.Omega.{arith}
use lib.ListN.{length}
use borrow.Author.Tests.{eq-eqb, ne_eqb}
use Rattle.meaning.specs.Below.{first}
use Rattle.meaning.specs.Table.{table}
use Rattle.meaning.specs.Answer.{Answer, accepted, refused, Check, decide}
use Rattle.meaning.specs.Defined.{table_checks, check}
use Rattle.meaning.specs.Image.{image_bytes, fresh}
use Rattle.meaning.specs.Calls.{start, start_checks}
use Rattle.meaning.proofs.Decide.{Clean, Found, search_all, decide_pass, decide_first, decide_append}
use Rattle.meaning.proofs.Decide.{decide_clean, accepted_clean}
use Rattle.meaning.proofs.Tables.{table_refusing}
use Rattle.answers.specs.declared.Refusal.{Refusal}
use Rattle.answers.specs.Numbered.{number_of}

-- Checks that refuse, refuse whatever checks stand behind them.
pub refused_too : (xs ys : List Check) → (decide xs (accepted 0)).number ≢ 0
    → decide (xs ++ ys) (accepted 0) ≡ decide xs (accepted 0)
unfolding decide
refused_too [] ys n = absurd (n refl)
refused_too (c ∷ cs) ys n =
    ⊎_elim
    (λ (h : Clean c).
    decide_pass c (cs ++ ys) (accepted 0) h
    ∙ refused_too cs ys (λ z. n (ap (λ (a : Answer). a.number) (decide_pass c cs (accepted 0) h) ∙ z))
    ∙ sym (decide_pass c cs (accepted 0) h))
    (λ (f : (k : ℕ) × Found c k).
    decide_first c (cs ++ ys) (accepted 0) f.0 f.1 ∙ sym (decide_first c cs (accepted 0) f.0 f.1))
    (search_all c)

-- A table whose answer has number 0 is accepted.
pub accepted_if : (bs : List ℕ) → (check bs).number ≡ 0 → check bs ≡ accepted 0
unfolding check
accepted_if bs z =
    decide_clean (table_checks bs) (accepted 0)
    (accepted_clean (table_checks bs) (accepted 0) (table_refusing bs) z)

-- A refusal has a number.
pub not_0 : (e : Refusal) → number_of e ≢ 0
not_0 e = grind arith

module _ (bs img : List ℕ) where
  -- Where the table is refused, so is the start, and nothing is written.
  pub started_refused : (check bs).number ≢ 0 → ((start bs img).answer ≡ check bs) × ((start bs img).image ≡ img)
  unfolding start start_checks check
  started_refused n =
      rw (refused_too (table_checks bs) _ n, ne_eqb (decide (table_checks bs) (accepted 0)).number 0 n) (refl, refl)

  -- The table accepted, the image decides.
  pub started_short : (check bs).number ≡ 0 → length img ≢ 768
      → ((start bs img).answer ≡ refused 12 0) × ((start bs img).image ≡ img)
  unfolding start start_checks check decide first
  started_short z n =
      let last : decide (start_checks bs img) (accepted 0) ≡ refused 12 0 =
      decide_append (table_checks bs) _ (accepted 0)
      (accepted_clean (table_checks bs) (accepted 0) (table_refusing bs) z)
      ∙ rw (ne_eqb (length img) 768 n) in
      rw last (refl, refl)

  pub started : (check bs).number ≡ 0 → length img ≡ 768
      → ((start bs img).answer ≡ accepted 0) × ((start bs img).image ≡ image_bytes (fresh (table bs)))
  unfolding start start_checks check decide first
  started z e =
      let last : decide (start_checks bs img) (accepted 0) ≡ accepted 0 =
      decide_append (table_checks bs) _ (accepted 0)
      (accepted_clean (table_checks bs) (accepted 0) (table_refusing bs) z)
      ∙ rw (eq-eqb (length img) 768 e) in
      rw last (refl, refl)
