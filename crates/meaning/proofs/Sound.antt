-- What a table has that 1 to 9 do not refuse: each fact is a clean check's; and a column's sum over the records that
-- declare x is that column in the one record that does.
use mathlib.Core.Bool.{false, cond, not, ◌&&◌}
use mathlib.Core.List.{List}
use mathlib.Core.Path.{◌≡◌, refl, sym, ap, ◌∙◌}
use mathlib.Core.Logic.{◌≢◌, inl, inr, ⊎_elim}
use Prim.Native.Nat.{ℕ, zero, suc, ◌<◌}
use native.Mathlib.Nat.{not-suc-le-zero}
use native.Mathlib.Omega.{arith}
use lib.Dec.{ltb, eqb}
use Rattle.meaning.specs.Below.{sum}
use Rattle.meaning.specs.Table.{Table, table, is, total, declared, transition, timing, a_of, b_of}
use Rattle.meaning.specs.Priority.{above}
use Rattle.meaning.specs.Answer.{accepted}
use Rattle.meaning.specs.Defined.{same, twice, unknown, circle, conflict, settled, unsettled, in_unsettled}
use Rattle.meaning.specs.Defined.{table_checks, check}
use Rattle.meaning.specs.Says.{Same, Transition, Timed}
use Rattle.meaning.proofs.Bool.{not_both, and_left, and_right, and_true}
use Rattle.meaning.proofs.Below.{last, sum_zero, some_intro, none_elim}
use Rattle.meaning.proofs.Reflect.{Decides, decided, eq_decides, and_decides, not_true_false, refuted, refutes}
use Rattle.meaning.proofs.Shows.{Shows, up_to_2}
use Rattle.meaning.proofs.Same.{same_decides, of_kind, shown_transition}
use Rattle.meaning.proofs.Faults.{faultless}
use Rattle.meaning.proofs.Rows.{conflict_decides, transition_decides}
use Rattle.meaning.proofs.Decide.{AllClean, accepted_clean}
use Rattle.meaning.proofs.Walk.{compared}
use Rattle.meaning.proofs.Tables.{table_refusing, arc_transition}

-- THE RECORD THAT DECLARES

-- A sum with one summand that is not 0.
pub sum_one : (n : ℕ) (f : ℕ → ℕ) (k : ℕ) → k < n → ((j : ℕ) → j < n → j ≢ k → f j ≡ 0) → sum n f ≡ f k
unfolding sum
sum_one zero f k h z = absurd (not-suc-le-zero h)
sum_one (suc n) f k h z =
    ⊎_elim
    (λ (q : k ≡ n).
    let before : sum n f ≡ 0 = sum_zero n f (λ j l. z j (omega arith) (omega arith)) in
    let here : f k ≡ f n = ap f q in
    omega arith)
    (λ (l : k < n).
    let before : sum n f ≡ f k = sum_one n f k l (λ j m. z j (omega arith)) in
    let here : f n ≡ 0 = z n (omega arith) (omega arith) in
    omega arith)
    (last h)

-- A record's own part of what declares x.
declares : (tb : Table) (k x r : ℕ) → Decides (is tb k r && eqb (tb.one r) x) ((tb.kind r ≡ k) × (tb.one r ≡ x))
declares tb k x r = and_decides (eq_decides (tb.kind r) k) (eq_decides (tb.one r) x)

-- Where one record of kind k declares x, a column over them is that record's.
pub declared_is : (tb : Table) (k x : ℕ) (f : ℕ → ℕ) (r : ℕ) → r < tb.records → tb.kind r ≡ k → tb.one r ≡ x
    → ((s : ℕ) → s < tb.records → tb.kind s ≡ k → tb.one s ≡ x → s ≡ r) → declared tb k x f ≡ f r
unfolding total
declared_is tb k x f r l e o only =
    sum_one tb.records (λ s. cond (is tb k s && eqb (tb.one s) x) (f s) 0) r l
    (λ s m n. rw (refuted (declares tb k x s) (λ w. n (only s m w.0 w.1))))
    ∙ rw ((declares tb k x r).1 (e, o))

-- Where none does, it is 0.
pub declared_none : (tb : Table) (k x : ℕ) (f : ℕ → ℕ) → ((s : ℕ) → s < tb.records → tb.kind s ≡ k → tb.one s ≢ x)
    → declared tb k x f ≡ 0
unfolding total
declared_none tb k x f none =
    sum_zero tb.records (λ s. cond (is tb k s && eqb (tb.one s) x) (f s) 0)
    (λ s m. rw (refuted (declares tb k x s) (λ w. none s m w.0 w.1)))

-- SOUND TABLES

pub record SoundTable (tb : Table) : Type 0 where
  pub shown : (r : ℕ) → r < tb.records → Shows tb r
  pub single : (s r : ℕ) → s < r → r < tb.records → same tb r s ≡ false
  pub known : (r : ℕ) → r < tb.records → unknown tb r ≡ false
  pub ordered : (t : ℕ) → t < 64 → above tb t t ≡ false
  pub settles : (i j : ℕ) → i < 64 → j < 64 → unsettled tb i j ≡ false

-- Where i is in no unsettled pair, i and j are none.
no_pair : (tb : Table) (i j : ℕ) → ((r : ℕ) → r < tb.records → unknown tb r ≡ false) → in_unsettled tb i ≡ false
    → j < 64
    → unsettled tb i j ≡ false
unfolding in_unsettled unsettled
no_pair tb i j known e m =
    not_true_false (unsettled tb i j)
    (λ u.
    let both_hold = and_left (conflict tb i j) (not (settled tb i j)) (and_right (ltb i j) (conflict tb i j && not (settled tb i j)) u) in
    let declared_i = (transition_decides tb i).1 (arc_transition tb known ((conflict_decides tb i j).0 both_hold).3) in
    not_both (and_true declared_i (some_intro 64 (unsettled tb i) j m u)) e)

-- Clean checks leave a sound table.
pub clean_sound : (bs : List ℕ) → AllClean (table_checks bs) → SoundTable (table bs)
unfolding table_checks circle twice
clean_sound bs h =
    record {
      shown = λ r l. (faultless (table bs) r (h.1.0 r l)).0;
      single = λ s r m l. none_elim r (same (table bs) r) (faultless (table bs) r (h.1.0 r l)).1 s m;
      known = h.1.1.0;
      ordered = h.1.1.1.1.1.0;
      settles = λ i j l m. no_pair (table bs) i j h.1.1.0 (h.1.1.1.1.1.1.0 i l) m;
    }

-- An accepted table is sound.
pub check_sound : (bs : List ℕ) → (check bs).number ≡ 0 → SoundTable (table bs)
unfolding check
check_sound bs e = clean_sound bs (accepted_clean (table_checks bs) (accepted 0) (table_refusing bs) e)

-- ONE RECORD A PLACE, ONE A TRANSITION

module _ (tb : Table) (sound : SoundTable tb) where
  -- Two records that say the same thing are one.
  pub same_record : (s r : ℕ) → s < tb.records → r < tb.records → Same tb s r → Same tb r s → s ≡ r
  same_record s r l m q p =
      elim (compared s r) [
        | inl k ↦ absurd (twice_said s r k l m q)
        | inr (inl e) ↦ e
        | inr (inr k) ↦ absurd (twice_said r s k m l p)
      ]
    where
      twice_said : (s r : ℕ) → s < r → s < tb.records → r < tb.records → Same tb s r → ⊥
      twice_said s r k l m q =
          refutes (same_decides tb s r (sound.shown s l) (sound.shown r m)) (sound.single s r k m) q

  -- So a place, a transition is declared once.
  pub place_once : (s r : ℕ) → s < tb.records → r < tb.records → tb.kind s ≡ 1 → tb.kind r ≡ 1
      → tb.one s ≡ tb.one r → s ≡ r
  place_once s r l m e f o = same_record s r l m (Same.place e f o) (Same.place f e (sym o))

  pub transition_once : (s r : ℕ) → s < tb.records → r < tb.records → tb.kind s ≡ 2 → tb.kind r ≡ 2
      → tb.one s ≡ tb.one r → s ≡ r
  transition_once s r l m e f o = same_record s r l m (Same.transition e f o) (Same.transition f e (sym o))

  -- Its columns are that record's.
  pub place_column : (p : ℕ) (f : ℕ → ℕ) (r : ℕ) → r < tb.records → tb.kind r ≡ 1 → tb.one r ≡ p
      → declared tb 1 p f ≡ f r
  place_column p f r l e o = declared_is tb 1 p f r l e o (λ s m q v. place_once s r m l q e (v ∙ sym o))

  pub transition_column : (t : ℕ) (f : ℕ → ℕ) (r : ℕ) → r < tb.records → tb.kind r ≡ 2 → tb.one r ≡ t
      → declared tb 2 t f ≡ f r
  transition_column t f r l e o = declared_is tb 2 t f r l e o (λ s m q v. transition_once s r m l q e (v ∙ sym o))

  -- The record that declares a transition says its sort, a and b.
  pub timed_is : (t s r : ℕ) → Timed tb t s r → (timing tb t ≡ s) × (a_of tb t ≡ tb.four r) × (b_of tb t ≡ tb.six r)
  timed_is t s r h = (
    transition_column t tb.sort r h.0 h.1 h.2 ∙ h.3,
    transition_column t tb.four r h.0 h.1 h.2,
    transition_column t tb.six r h.0 h.1 h.2,
  )

-- A transition is timed by no record, or by one of sort 1, or by one of sort 2.
pub data SortOf (tb : Table) (t : ℕ) : Type 0 where
  none : timing tb t ≡ 0 → SortOf tb t
  between : (r : ℕ) → Timed tb t 1 r → SortOf tb t
  from : (r : ℕ) → Timed tb t 2 r → SortOf tb t

pub sort_of : (tb : Table) → SoundTable tb → (t : ℕ) → SortOf tb t
sort_of tb sound t =
    ⊎_elim declared_by (λ (n : ¬ Transition tb t). SortOf.none (declared_none tb 2 t tb.sort (λ s l e o. n (s, l, e, o))))
    (decided (transition_decides tb t))
  where
    declared_by : Transition tb t → SortOf tb t
    declared_by w =
        up_to_2 (λ s. tb.sort w.0 ≡ s → SortOf tb t) (λ q. SortOf.none (timed_is tb sound t 0 w.0 (w.1, w.2, w.3, q)).0)
        (λ q. SortOf.between w.0 (w.1, w.2, w.3, q))
        (λ q. SortOf.from w.0 (w.1, w.2, w.3, q))
        (tb.sort w.0)
        (shown_transition (of_kind tb w.0 2 (sound.shown w.0 w.1) w.2)).2
        refl
