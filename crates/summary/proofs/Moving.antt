-- What arcs move over a day is a sum over arcs of weight times count. So it is the sum of what the fired sets move, and
-- of a sum of summaries the sum of what each moves.
use mathlib.Core.Bool.{Bool, true, false, cond, ◌&&◌}
use mathlib.Core.List.{List}
use mathlib.Core.Path.{◌≡◌, refl, sym, ap, ap₂, ◌∙◌}
use Prim.Native.Nat.{ℕ, suc, ◌+◌, ◌*◌, ◌<◌}
use native.Mathlib.Nat.{mul-add}
use native.Mathlib.Omega.{arith}
use lib.Dec.{eqb}
use lib.IntN.{pos, ◌+ℤ◌, ◌-ℤ◌}
use borrow.Author.Tests.{eqb-true, eq-eqb, ne_eqb}
use Rattle.meaning.specs.Below.{sum}
use Rattle.meaning.specs.Table.{Table, table, is, arc, total}
use Rattle.meaning.specs.Answer.{accepted, decide}
use Rattle.meaning.specs.Cycle.{withdrawn, added}
use Rattle.meaning.proofs.Bool.{and_left}
use Rattle.meaning.proofs.Below.{sum_same, sum_zero, sum_add}
use Rattle.summary.specs.Day.{listed, no_change, times_of, plus, moved, change, change_checks, net_change}
use Rattle.summary.proofs.Sums.{sum_swap, sum_weight}
use Rattle.summary.proofs.Adding.{plus_at}
use Rattle.summary.proofs.Whole.{sum_of_differences}

-- Arcs end at transitions below 64.
abbrev pub Low : Table → Type 0
Low tb = (r : ℕ) → r < tb.records → tb.kind r ≡ 3 → tb.two r < 64

-- Record r is an arc of the sort at place p.
abbrev here : Table → ℕ → ℕ → ℕ → Bool
here tb sort p r = arc tb sort r && eqb (tb.one r) p

an_arc : (tb : Table) (sort p r : ℕ) → here tb sort p r ≡ true → tb.kind r ≡ 3
an_arc tb sort p r e =
    eqb-true (tb.kind r) 3
    (and_left (is tb 3 r) (eqb (tb.sort r) sort) (and_left (arc tb sort r) (eqb (tb.one r) p) e))

module _ (tb : Table) (low : Low tb) where
  -- Over n sets of transitions: what they move one by one, where the summary counts how often each is in one.
  module _ (s : List ℕ) (n : ℕ) (F : ℕ → ℕ → Bool)
      (counted : (k : ℕ) → k < 64 → times_of s k ≡ sum n (λ j. cond (F j k) 1 0)) where
    by_sets : (sort p : ℕ)
        → sum n (λ j. total tb (λ r. arc tb sort r && eqb (tb.one r) p && F j (tb.two r)) tb.four)
        ≡ moved tb sort s p
    unfolding total moved
    by_sets sort p =
        sum_swap n tb.records (λ j r. cond (here tb sort p r && F j (tb.two r)) (tb.four r) 0)
        ∙ sum_same tb.records _ _ (λ r l. each r l (here tb sort p r) refl)
      where
        each : (r : ℕ) → r < tb.records → (b : Bool) → here tb sort p r ≡ b
            → sum n (λ j. cond (b && F j (tb.two r)) (tb.four r) 0) ≡ cond b (tb.four r * times_of s (tb.two r)) 0
        each r l true e =
            sum_weight n (tb.four r) (λ j. F j (tb.two r))
            ∙ ap (λ (x : ℕ). tb.four r * x) (sym (counted (tb.two r) (low r l (an_arc tb sort p r e))))
        each r l false e = sum_zero n _ (λ j i. refl)

    pub sets_take : (p : ℕ) → sum n (λ j. withdrawn tb (F j) p) ≡ moved tb 0 s p
    unfolding withdrawn
    sets_take = by_sets 0

    pub sets_put : (p : ℕ) → sum n (λ j. added tb (F j) p) ≡ moved tb 3 s p
    unfolding added
    sets_put = by_sets 3

  -- Of a sum of summaries.
  moved_plus : (x y : List ℕ) (sort p : ℕ) → moved tb sort (plus x y) p ≡ moved tb sort x p + moved tb sort y p
  unfolding moved total
  moved_plus x y sort p =
      sum_same tb.records _ _ (λ r l. each r l (here tb sort p r) refl) ∙ sum_add tb.records _ _
    where
      each : (r : ℕ) → r < tb.records → (b : Bool) → here tb sort p r ≡ b
          → cond b (tb.four r * times_of (plus x y) (tb.two r)) 0
          ≡ cond b (tb.four r * times_of x (tb.two r)) 0 + cond b (tb.four r * times_of y (tb.two r)) 0
      each r l true e =
          ap (λ (n : ℕ). tb.four r * n) (plus_at x y (suc (tb.two r)) (omega (arith, low r l (an_arc tb sort p r e))))
          ∙ mul-add (tb.four r) (times_of x (tb.two r)) (times_of y (tb.two r))
      each r l false e = refl

  pub change_plus : (x y : List ℕ) (p : ℕ) → change tb (plus x y) p ≡ change tb x p +ℤ change tb y p
  unfolding change
  change_plus x y p =
      ap₂ (λ (a b : ℕ). pos a -ℤ pos b) (moved_plus x y 3 p) (moved_plus x y 0 p)
      ∙ sum_of_differences (moved tb 3 x p) (moved tb 0 x p) (moved tb 3 y p) (moved tb 0 y p)

-- Accepted, net change gives each place's change; refused, nothing.
pub given_change : (bs s : List ℕ) → (net_change bs s).answer.number ≡ 0
    → (net_change bs s).change ≡ listed 128 (change (table bs) s)
unfolding net_change
given_change bs s z = rw (eq-eqb (decide (change_checks bs s) (accepted 0)).number 0 z)

pub withheld_change : (bs s : List ℕ) → ((net_change bs s).answer.number ≡ 0 → ⊥) → (net_change bs s).change ≡ no_change
unfolding net_change
withheld_change bs s n = rw (ne_eqb (decide (change_checks bs s) (accepted 0)).number 0 n)
