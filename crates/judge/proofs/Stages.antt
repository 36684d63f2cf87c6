-- The answers 1 to 9 one stage after the other: a stage that finds nothing hands on to the next, and the first that
-- finds something answers.
use mathlib.Core.Bool.{true, false, not, or-true}
use mathlib.Core.List.{List, [], ◌∷◌}
use mathlib.Core.Path.{◌≡◌, sym, ap, ◌∙◌}
use Prim.Native.Nat.{ℕ, ◌+◌, ◌*◌, ◌%◌, ◌≤◌, ◌<◌}
use native.Mathlib.Omega.{arith}
use lib.Dec.{eqb}
use lib.ListN.{length}
use borrow.Author.Tests.{lt-ltb, le-ltb, eq-eqb, ne_eqb}
use Rattle.std.proofs.lemmas.Grind.{common_steps}
use Rattle.meaning.specs.Below.{first}
use Rattle.meaning.specs.Table.{table}
use Rattle.meaning.specs.Answer.{Answer, accepted, refused, Check, check_of, decide}
use Rattle.meaning.specs.Defined.{bad_length, fault, faulty, unknown, empty, isolated, circle, unsettled, in_unsettled}
use Rattle.meaning.specs.Defined.{table_checks, check}

-- A check whose first candidate is none of those below hands on; another answers for it.
pub hands_on : (c : Check) (cs : List Check) (ok : Answer) → first c.below c.bad ≡ c.below
    → decide (c ∷ cs) ok ≡ decide cs ok
unfolding decide
hands_on c cs ok e = grind (arith, common_steps)

pub answers : (c : Check) (cs : List Check) (ok : Answer) → first c.below c.bad < c.below
    → decide (c ∷ cs) ok ≡ c.answer (first c.below c.bad)
unfolding decide
answers c cs ok l = grind (arith, common_steps)

-- When the length is wrong, and when it is right.
pub length_odd : (bs : List ℕ) → (length bs % 8 ≡ 0 → ⊥) → bad_length bs ≡ true
unfolding bad_length
length_odd bs e = rw (ne_eqb (length bs % 8) 0 e)

pub length_long : (bs : List ℕ) → 8192 < length bs → bad_length bs ≡ true
unfolding bad_length
length_long bs l = rw (lt-ltb 8192 (length bs) l) (or-true (not (eqb (length bs % 8) 0)))

pub length_right : (bs : List ℕ) → length bs % 8 ≡ 0 → length bs ≤ 8192 → bad_length bs ≡ false
unfolding bad_length
length_right bs e l = rw (eq-eqb (length bs % 8) 0 e, le-ltb 8192 (length bs) l)

-- THE CHECKS OF A TABLE, FROM EACH STAGE ON

abbrev pub from_9 : List ℕ → List Check
from_9 bs = check_of 64 (in_unsettled (table bs)) (λ i. refused 9 (64 * i + first 64 (unsettled (table bs) i))) ∷ []

abbrev pub from_8 : List ℕ → List Check
from_8 bs = check_of 64 (circle (table bs)) (λ t. refused 8 t) ∷ from_9 bs

abbrev pub from_7 : List ℕ → List Check
from_7 bs = check_of 192 (isolated (table bs)) (λ k. refused 7 k) ∷ from_8 bs

abbrev pub from_6 : List ℕ → List Check
from_6 bs = check_of 2 (empty (table bs)) (λ k. refused 6 k) ∷ from_7 bs

abbrev pub from_5 : List ℕ → List Check
from_5 bs = check_of (table bs).records (unknown (table bs)) (λ r. refused 5 r) ∷ from_6 bs

abbrev pub from_2 : List ℕ → List Check
from_2 bs = check_of (table bs).records (faulty (table bs)) (λ r. refused (fault (table bs) r) r) ∷ from_5 bs

-- Those before have found nothing: these are left to decide.
abbrev pub Left : List ℕ → List Check → Type 0
Left bs cs = check bs ≡ decide cs (accepted 0)

pub answer_1 : (bs : List ℕ) → bad_length bs ≡ true → check bs ≡ refused 1 0
unfolding check table_checks decide first
answer_1 bs e = rw e

-- The length is right.
pub past_1 : (bs : List ℕ) → bad_length bs ≡ false → Left bs (from_2 bs)
unfolding check table_checks first
past_1 bs e = hands_on (check_of 1 (λ k. bad_length bs) (λ k. refused 1 0)) _ (accepted 0) (rw e)

-- Where the next check finds one it answers, and where it finds none those behind it are left.
module _ (bs : List ℕ) (c : Check) (cs : List Check) (left : Left bs (c ∷ cs)) where
  pub stops : {k : ℕ} → k < c.below → first c.below c.bad ≡ k → c.answer k ≡ check bs
  stops l same = ap c.answer (sym same) ∙ sym (left ∙ answers c cs (accepted 0) (rw same l))

  pub passes : first c.below c.bad ≡ c.below → Left bs cs
  passes none = left ∙ hands_on c cs (accepted 0) none

-- None is left: the table is accepted.
pub accepts : (bs : List ℕ) → Left bs [] → accepted 0 ≡ check bs
unfolding decide
accepts bs left = sym left
