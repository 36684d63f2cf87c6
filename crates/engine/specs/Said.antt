-- What the parts of a check and of a run ask and say, in the words of the meaning.
use Rattle.std.specs.Prelude.{not, Result, List, ◌∷◌, ◌≡◌, ℕ, ◌*◌, ◌/◌, ◌≤◌, eqb, length}
use Rattle.meaning.specs.Table.{table}
use Rattle.meaning.specs.Answer as meaning
use Rattle.meaning.specs.Calls.{word_checks}
use Rattle.meaning.specs.Promise.{Ran}
use Rattle.rows.specs.declared.Declared.{Declared}
use Rattle.rows.specs.Extent.{Roomy}
use Rattle.rows.specs.Filed.{Sizes, NetOf}
use Rattle.state.specs.Fit.{wrong_by}
use Rattle.answers.specs.declared.Refusal.{Refusal}
use Rattle.answers.specs.Numbered.{run_told}

-- Answers 10, 11 and 12 in the page's order, the image held to what is declared and how far the counters rise.
unfoldable pub lent_checks : List ℕ → List ℕ → List ℕ → Declared → List ℕ → List meaning.Check
lent_checks img ws report known times =
    meaning.check_of 1 (λ k. not (eqb (length img) 768)) (λ k. meaning.refused 10 192)
    ∷ meaning.check_of 192 (wrong_by img known times) (λ k. meaning.refused 10 k)
    ∷ word_checks ws report

-- Rows, places and links of post arcs are enough for a table of whose numbers none is at n or past it.
pub record RoomFor (bs : List ℕ) (n rows places links : ℕ) : Type 0 where
  pub roomy : Roomy (table bs) n
  pub enough : n ≤ places
  pub few : places ≤ 128
  pub rows_are : rows ≡ 8 * places
  pub eights : places ≡ 8 * (places / 8)
  pub links_there : 3 * (table bs).records ≤ links
  pub links_few : links ≤ 3072

-- The rows are those of the accepted table that the bytes spell, with room for whole eights of numbers.
pub record ProceedOf (bs : List ℕ) (n : ℕ) (known : Declared) (rows times : List ℕ) (w s : List (List ℕ))
    (heads posts : List ℕ)
    : Type 0 where
  pub net_of : NetOf bs n rows w s heads posts times known
  pub eights : ℕ
  pub enough : n ≤ 8 * eights
  pub few : 8 * eights ≤ 128
  pub sizes : Sizes (8 * eights) (table bs).records rows w s heads posts times

pub record ProceedAsks (n : ℕ) (known : Declared) (rows times : List ℕ) (w s : List (List ℕ))
    (heads posts : List ℕ) : Type 0 where
  pub bs : List ℕ
  pub of : ProceedOf bs n known rows times w s heads posts

-- Whatever table the rows are of, this is what its run leaves.
pub record Proceeds (n : ℕ) (known : Declared) (rows times : List ℕ) (w s : List (List ℕ))
    (heads posts img ws report : List ℕ) (a : Result ℕ Refusal)
    (img' report' : List ℕ) : Type 0 where
  pub ran : (bs : List ℕ) → ProceedOf bs n known rows times w s heads posts
      → Ran bs img ws report (run_told a) img' report'
