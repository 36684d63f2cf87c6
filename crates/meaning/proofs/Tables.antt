-- The checks of a table say and catch the rows 1 to 9: each check, behind clean ones, finds what its row says.
use mathlib.Core.Bool.{Bool, true, false, not, ◌&&◌}
use mathlib.Core.List.{List, [], ◌∷◌}
use mathlib.Core.Path.{◌≡◌, refl, sym, ◌∙◌, subst}
use mathlib.Core.Logic.{◌⊎◌, inl, inr, ⊎_elim}
use Prim.Native.Nat.{ℕ, zero, suc, ◌+◌, ◌*◌, ◌-◌, ◌%◌, ◌≤◌, ◌<◌}
use native.Mathlib.Nat.{le_refl, eq-or-lt_of_le}
use native.Mathlib.Omega.{arith}
use lib.Dec.{ltb}
use lib.ListN.{length}
use borrow.Author.Tests.{lt-ltb, le-ltb, ltb-true, ltb-false}
use Rattle.meaning.specs.Below.{some, first}
use Rattle.meaning.specs.Table.{Table, table, place, transition}
use Rattle.meaning.specs.Answer.{refused, Check, check_of}
use Rattle.meaning.specs.Defined.{bad_length, fault, unknown, empty, isolated, circle, arc_at_place}
use Rattle.meaning.specs.Defined.{arc_at_transition, unsettled, in_unsettled, table_checks}
use Rattle.meaning.specs.Says.{Place, Transition, Arc, NamesUnknown, Above, Conflict, Settled, TableSays, stage}
use Rattle.meaning.proofs.Bool.{either, not_both, and_right, and_true}
use Rattle.meaning.proofs.Closure.{closed}
use Rattle.meaning.proofs.Below.{some_elim, some_intro, first_le, first_passes, first_before}
use Rattle.meaning.proofs.Reflect.{Decides, eq_decides, lt_decides, or_decides, not_decides, refutes, decided}
use Rattle.meaning.proofs.Shows.{Shows}
use Rattle.meaning.proofs.Same.{of_kind, shown_place, shown_transition, shown_priority}
use Rattle.meaning.proofs.Faults.{faults, faultless, fault_range, kind_caught, field_caught, again_caught}
use Rattle.meaning.proofs.Faults.{fault_said}
use Rattle.meaning.proofs.Rows.{transition_decides, unknown_decides, no_place_decides, no_transition_decides}
use Rattle.meaning.proofs.Rows.{place_isolated_decides, transition_isolated_decides, unsettled_decides}
use Rattle.meaning.proofs.Decide.{All, Clean, Refuses}
use Rattle.meaning.proofs.Walk.{Caught, Speaks, RefusesBelow, all_refuse, caught_here, caught_once, skip}
use Rattle.meaning.proofs.Walk.{not_lower}

-- THE CHECKS OF A TABLE, BY NAME

abbrev lengths : List ℕ → Check
lengths bs = check_of 1 (λ k. bad_length bs) (λ k. refused 1 0)

abbrev unknowns : Table → Check
unknowns tb = check_of tb.records (unknown tb) (λ r. refused 5 r)

abbrev empties : Table → Check
empties tb = check_of 2 (empty tb) (λ k. refused 6 k)

abbrev isolated_check : Table → Check
isolated_check tb = check_of 192 (isolated tb) (λ k. refused 7 k)

abbrev circles : Table → Check
circles tb = check_of 64 (circle tb) (λ t. refused 8 t)

abbrev pairs : Table → Check
pairs tb = check_of 64 (in_unsettled tb) (λ i. refused 9 (64 * i + first 64 (unsettled tb i)))

-- What a table of which 2, 3 and 4 do not speak shows.
all_shown : (tb : Table) → Clean (faults tb) → (r : ℕ) → r < tb.records → Shows tb r
all_shown tb h r l = (faultless tb r (h r l)).0

-- THE ROWS

-- 1: the length.
length_decides : (bs : List ℕ) → Decides (bad_length bs) (¬ (length bs % 8 ≡ 0) ⊎ (8192 < length bs))
unfolding bad_length
length_decides bs = or_decides (not_decides (eq_decides (length bs % 8) 0)) (lt_decides 8192 (length bs))

-- 6: candidate 0 and candidate 1.
empty_said : (bs : List ℕ) (k : ℕ) → k < 2 → empty (table bs) k ≡ true → TableSays bs 6 k
empty_said bs zero l e = TableSays.no_place ((no_place_decides (table bs)).0 e)
empty_said bs (suc zero) l e = TableSays.no_transition ((no_transition_decides (table bs)).0 e)
empty_said bs (suc (suc k)) l e = absurd (omega arith)

-- A candidate below 128 is a place's, the others are 128 and a transition.
pub place_or_transition : (P : ℕ → Type 0) → ((p : ℕ) → p < 128 → P p) → ((t : ℕ) → P (128 + t)) → (k : ℕ) → P k
place_or_transition P f g k =
    ⊎_elim (λ (e : ltb k 128 ≡ true). f k (ltb-true k 128 e))
    (λ (e : ltb k 128 ≡ false).
    let up : 128 + (k - 128) ≡ k = omega (arith, ltb-false k 128 e) in
    subst P up (g (k - 128)))
    (either (ltb k 128))

-- 7: candidate p is the place p, candidate 128 + t the transition t.
isolated_place : (tb : Table) (p : ℕ) → p < 128 → isolated tb p ≡ (place tb p && not (arc_at_place tb p))
unfolding isolated
isolated_place tb p l = rw (lt-ltb p 128 l)

isolated_transition : (tb : Table) (t : ℕ) → isolated tb (128 + t) ≡ (transition tb t && not (arc_at_transition tb t))
unfolding isolated
isolated_transition tb t =
    let back : 128 + t - 128 ≡ t = omega arith in
    rw (le-ltb (128 + t) 128 (omega arith), back)

isolated_said : (bs : List ℕ) (k : ℕ) → isolated (table bs) k ≡ true → TableSays bs 7 k
isolated_said bs =
    place_or_transition (λ k. isolated (table bs) k ≡ true → TableSays bs 7 k)
    (λ p l e.
    let w = (place_isolated_decides (table bs) p).0 (sym (isolated_place (table bs) p l) ∙ e) in
    TableSays.isolated_place w.0 w.1)
    (λ t e.
    let w = (transition_isolated_decides (table bs) t).0 (sym (isolated_transition (table bs) t) ∙ e) in
    TableSays.isolated_transition t w.0 w.1)

-- 8: who stands above another is a transition's number.
above_bound : (tb : Table) → ((r : ℕ) → r < tb.records → Shows tb r) → {u t : ℕ} → Above tb u t → (u ≤ 63) × (t ≤ 63)
above_bound tb shown (Above.pair r l e) = shown_priority (of_kind tb r 5 (shown r l) e)
above_bound tb shown (Above.chain a b) = ((above_bound tb shown a).0, (above_bound tb shown b).1)

-- 9: the first of those that some test passes.
first_some : (n : ℕ) (p : ℕ → Bool) (k : ℕ) → k < n → p k ≡ true → first n p ≤ k
first_some n p k l e =
    let before : ¬ (k < first n p) = λ h. not_both e (first_before n p k h) in
    omega arith

-- The checks refuse what they find, by stages below 10.
fault_below : (tb : Table) → RefusesBelow 10 (faults tb)
fault_below tb r l e =
    let f = fault_range tb r e in
    (f.0, refl, omega arith)

pub table_below : (bs : List ℕ) → All (RefusesBelow 10) (table_checks bs)
unfolding table_checks stage
table_below bs = (
  λ k l e. omega arith,
  (
    fault_below (table bs),
    (λ k l e. omega arith, (λ k l e. omega arith, (λ k l e. omega arith, (λ k l e. omega arith, (λ k l e. omega arith, tt))))),
  ),
)

pub table_refusing : (bs : List ℕ) → All Refuses (table_checks bs)
table_refusing bs = all_refuse 10 (table_checks bs) (table_below bs)

-- The checks from 2 on, from 5 on and so on, and what is said only there.
abbrev from_9 : Table → List Check
from_9 tb = pairs tb ∷ []

abbrev from_8 : Table → List Check
from_8 tb = circles tb ∷ from_9 tb

abbrev from_7 : Table → List Check
from_7 tb = isolated_check tb ∷ from_8 tb

abbrev from_6 : Table → List Check
from_6 tb = empties tb ∷ from_7 tb

abbrev from_5 : Table → List Check
from_5 tb = unknowns tb ∷ from_6 tb

past_1 : (bs : List ℕ) {n w : ℕ} → 1 < stage n → Caught n w (faults (table bs) ∷ from_5 (table bs))
    → Caught n w (table_checks bs)
unfolding table_checks stage
past_1 bs l g = skip (lengths bs) _ (λ j e. l) (λ c. g)

past_4 : (bs : List ℕ) {n w : ℕ} → 2 < stage n → (Clean (faults (table bs)) → Caught n w (from_5 (table bs)))
    → Caught n w (table_checks bs)
past_4 bs {n} l g =
    past_1 bs (omega arith)
    (skip (faults (table bs)) _
    (λ j e.
    let two : stage (fault (table bs) j) ≡ 2 = (fault_range (table bs) j e).2 in
    omega arith)
    g)

-- What is known where 6 and later answers are asked for.
abbrev Told : Table → List Check → ℕ → ℕ → Type 0
Told tb cs n w = Clean (faults tb) → Clean (unknowns tb) → Caught n w cs

past_5 : (bs : List ℕ) {n w : ℕ} → 5 < stage n → Told (table bs) (from_6 (table bs)) n w → Caught n w (table_checks bs)
unfolding stage
past_5 bs l g = past_4 bs (omega arith) (λ a. skip (unknowns (table bs)) _ (λ j e. l) (g a))

past_6 : (bs : List ℕ) {n w : ℕ} → 6 < stage n → Told (table bs) (from_7 (table bs)) n w → Caught n w (table_checks bs)
unfolding stage
past_6 bs l g = past_5 bs (omega arith) (λ a b. skip (empties (table bs)) _ (λ j e. l) (λ c. g a b))

past_7 : (bs : List ℕ) {n w : ℕ} → 7 < stage n → Told (table bs) (from_8 (table bs)) n w → Caught n w (table_checks bs)
unfolding stage
past_7 bs l g = past_6 bs (omega arith) (λ a b. skip (isolated_check (table bs)) _ (λ j e. l) (λ c. g a b))

past_8 : (bs : List ℕ) {n w : ℕ} → 8 < stage n → Told (table bs) (from_9 (table bs)) n w → Caught n w (table_checks bs)
unfolding stage
past_8 bs l g = past_7 bs (omega arith) (λ a b. skip (circles (table bs)) _ (λ j e. l) (λ c. g a b))

-- Where 5 is not said, an arc's transition is declared.
pub arc_transition : (tb : Table) → Clean (unknowns tb) → {s p t w : ℕ} → Arc tb s p t w → Transition tb t
arc_transition tb known a =
    ⊎_elim (λ (d : Transition tb (tb.two a.0)). subst (Transition tb) a.5 d)
    (λ (n : ¬ Transition tb (tb.two a.0)).
    absurd (refutes (unknown_decides tb a.0) (known a.0 a.1) (NamesUnknown.arc_transition a.2 n)))
    (decided (transition_decides tb (tb.two a.0)))

-- 7 is caught: a sound table's places are below 128, its transitions below 64.
place_isolated_caught : (tb : Table) (p : ℕ) (cs : List Check) → Clean (faults tb) → Place tb p
    → ((s t w : ℕ) → ¬ Arc tb s p t w)
    → Caught 7 p (isolated_check tb ∷ cs)
place_isolated_caught tb p cs clean a h =
    let l : p < 128 = omega (arith, (shown_place (of_kind tb a.0 1 (all_shown tb clean a.0 a.1) a.2)).0, a.3) in
    let m : p < 192 = omega arith in
    caught_here 192 (isolated tb) 7 p cs m (isolated_place tb p l ∙ (place_isolated_decides tb p).1 (a, h))

transition_isolated_caught : (tb : Table) (t : ℕ) (cs : List Check) → Clean (faults tb) → Transition tb t
    → ((s p w : ℕ) → ¬ Arc tb s p t w) → Caught 7 (128 + t) (isolated_check tb ∷ cs)
transition_isolated_caught tb t cs clean a h =
    let m : 128 + t < 192 = omega (arith, (shown_transition (of_kind tb a.0 2 (all_shown tb clean a.0 a.1) a.2)).0, a.3) in
    caught_here 192 (isolated tb) 7 (128 + t) cs m (isolated_transition tb t ∙ (transition_isolated_decides tb t).1 (a, h))

-- 8 and 9 are said.
circle_said : (bs : List ℕ) (t : ℕ) → circle (table bs) t ≡ true → TableSays bs 8 t
unfolding circle
circle_said bs t e = TableSays.circle ((closed (table bs) t t).0 e)

pair_said : (bs : List ℕ) (i : ℕ) → Clean (faults (table bs)) → in_unsettled (table bs) i ≡ true
    → TableSays bs 9 (64 * i + first 64 (unsettled (table bs) i))
unfolding in_unsettled
pair_said bs i clean e =
    let w = some_elim 64 (unsettled (table bs) i) (and_right (transition (table bs) i) (some 64 (unsettled (table bs) i)) e) in
    let j = first 64 (unsettled (table bs) i) in
    let l : j < 64 = omega (arith, first_some 64 (unsettled (table bs) i) w.0 w.1 w.2) in
    let u = (unsettled_decides (table bs) i j (all_shown (table bs) clean)).0 (first_passes 64 (unsettled (table bs) i) l) in
    TableSays.conflict i j u.0 l u.1.0 u.1.1

-- 9 is caught: the first j with a bad i is no higher than any.
pair_caught : (tb : Table) (i j : ℕ) → Clean (faults tb) → Clean (unknowns tb) → i < j → j < 64 → Conflict tb i j
    → ¬ Settled tb i j
    → Caught 9 (64 * i + j) (pairs tb ∷ [])
unfolding in_unsettled
pair_caught tb i j clean known l m h k =
    Caught.here i in_range
    (and_true ((transition_decides tb i).1 declared) (some_intro 64 (unsettled tb i) j m pair))
    (λ g q b. not_lower refl (lowest g q) (le_refl 9))
  where
    in_range : i < 64
    in_range = omega arith

    pair : unsettled tb i j ≡ true
    pair = (unsettled_decides tb i j (all_shown tb clean)).1 (l, (h, k))

    declared : Transition tb i
    declared = arc_transition tb known h.3

    lowest : (g : ℕ) → g ≤ i → 64 * g + first 64 (unsettled tb g) ≤ 64 * i + j
    lowest g q =
        ⊎_elim
        (λ (e : g ≡ i).
        subst (λ (x : ℕ). 64 * x + first 64 (unsettled tb x) ≤ 64 * i + j) (sym e)
        (omega (arith, first_some 64 (unsettled tb i) j m pair)))
        (λ (b : g < i). omega (arith, first_le 64 (unsettled tb g)))
        (eq-or-lt_of_le q)

-- All that the checks of a table answer is said.
pub table_speaks : (bs : List ℕ) → Speaks (TableSays bs) (table_checks bs)
unfolding table_checks
table_speaks bs = (
  λ k f. ⊎_elim (λ h. TableSays.length_odd h) (λ h. TableSays.length_long h) ((length_decides bs).0 f.1),
  λ c₁. (
    λ k f. fault_said bs k f,
    λ c₂. (
      λ k f. TableSays.unknown f.0 ((unknown_decides (table bs) k).0 f.1),
      λ c₃. (
        λ k f. empty_said bs k f.0 f.1,
        λ c₄. (
          λ k f. isolated_said bs k f.1,
          λ c₅. (
            λ k f. circle_said bs k f.1,
            λ c₆. (
              λ k f. pair_said bs k c₂ f.1,
              λ c₇. tt,
            ),
          ),
        ),
      ),
    ),
  ),
)

-- All that is said of a table is caught.
pub table_catches : (bs : List ℕ) (n w : ℕ) → TableSays bs n w → Caught n w (table_checks bs)
unfolding table_checks stage circle
table_catches bs n w (TableSays.length_odd h) = caught_once _ 1 0 _ ((length_decides bs).1 (inl h))
table_catches bs n w (TableSays.length_long h) = caught_once _ 1 0 _ ((length_decides bs).1 (inr h))
table_catches bs n w (TableSays.kind {r} l h) = past_1 bs (omega arith) (kind_caught (table bs) r _ l h)
table_catches bs n w (TableSays.field {r} l h) = past_1 bs (omega arith) (field_caught (table bs) r _ l h)
table_catches bs n w (TableSays.twice {r} s m l h) = past_1 bs (omega arith) (again_caught (table bs) s r _ m l h)
table_catches bs n w (TableSays.unknown {r} l h) =
    past_4 bs (omega arith) (λ a. caught_here _ _ 5 r _ l ((unknown_decides (table bs) r).1 h))
table_catches bs n w (TableSays.no_place h) =
    past_5 bs (omega arith) (λ a b. caught_here _ _ 6 0 _ (omega arith) ((no_place_decides (table bs)).1 h))
table_catches bs n w (TableSays.no_transition h) =
    past_5 bs (omega arith) (λ a b. caught_here _ _ 6 1 _ (omega arith) ((no_transition_decides (table bs)).1 h))
table_catches bs n w (TableSays.isolated_place {p} l h) = past_6 bs (omega arith) (λ a b. place_isolated_caught (table bs) p _ a l h)
table_catches bs n w (TableSays.isolated_transition t l h) = past_6 bs (omega arith) (λ a b. transition_isolated_caught (table bs) t _ a l h)
table_catches bs n w (TableSays.circle {t} h) =
    past_7 bs (omega arith)
    (λ a b.
    let l : t < 64 = omega (arith, (above_bound (table bs) (all_shown (table bs) a) h).0) in
    caught_here _ _ 8 t _ l ((closed (table bs) t t).1 h))
table_catches bs n w (TableSays.conflict i j l m h k) = past_8 bs (omega arith) (λ a b. pair_caught (table bs) i j a b l m h k)
