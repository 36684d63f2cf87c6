-- What the three calls promise: the relations that their `ensures` use. Each fixes the answer and every number.
use Rattle.std.specs.Prelude.{List, [], ◌∷◌, ◌≡◌, ℕ, ℤ}
use Rattle.meaning.specs.Answer.{Answer, accepted}
use Rattle.summary.specs.Day.{count, add, net_change}

-- Count: number and where, and the 65 numbers of the summary.
pub record Counted (table report : List ℕ) (answer : Answer) (counts : List ℕ) : Type 0 where
  pub answer_is : answer ≡ (count table report).answer
  pub counts_are : counts ≡ (count table report).counts

-- Add: number and where, and the 65 numbers of the sum.
pub record Added (one other : List ℕ) (answer : Answer) (counts : List ℕ) : Type 0 where
  pub answer_is : answer ≡ (add one other).answer
  pub counts_are : counts ≡ (add one other).counts

-- Net change: number and where, and a signed number for each of the 128 places.
pub record NetChanged (table summary : List ℕ) (answer : Answer) (change : List ℤ) : Type 0 where
  pub answer_is : answer ≡ (net_change table summary).answer
  pub change_is : change ≡ (net_change table summary).change

-- A total: the summaries of a list added to s in the list's order, each by a call of add that is accepted.
pub data Total : List ℕ → List (List ℕ) → List ℕ → Type 0 where
  done : {s : List ℕ} → Total s [] s
  more : {s s' x end : List ℕ} {xs : List (List ℕ)} → Added s x (accepted 0) s' → Total s' xs end
      → Total s (x ∷ xs) end
