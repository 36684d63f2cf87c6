-- What the rows of a table say of who is named, who is declared and who has arcs is what its records say.
use mathlib.Core.Bool.{Bool, true, false, not, ◌&&◌, ◌||◌, or-false}
use mathlib.Core.List.{List}
use mathlib.Core.Logic.{⊎_elim}
use mathlib.Core.Path.{◌≡◌, refl, sym, ap, ◌∙◌}
use Prim.Native.Nat.{ℕ, ◌-◌, ◌≤◌, ◌<◌}
use native.Mathlib.Omega.{arith}
use lib.Dec.{eqb, ltb}
use borrow.Author.Tests.{eqb-true, eq-eqb}
use Rattle.std.proofs.lemmas.Grind.{common_steps}
use Rattle.meaning.specs.Below.{some}
use Rattle.meaning.specs.Bytes.{bit}
use Rattle.meaning.specs.Table.{Table, is, place, transition}
use Rattle.meaning.specs.Defined.{names_place, names_transition, names_second, unknown, isolated, arc_at_place}
use Rattle.meaning.specs.Defined.{arc_at_transition}
use Rattle.meaning.proofs.Bool.{and_left, and_right, and_true, or_true_left, or_true_right, or_cases, not_both}
use Rattle.meaning.proofs.Bool.{same_test}
use Rattle.meaning.proofs.Reflect.{not_true_false}
use Rattle.meaning.proofs.Below.{some_intro, some_elim}
use Rattle.meaning.proofs.Shows.{Shows, each_kind}
use Rattle.meaning.proofs.Same.{shown_kind, shown_arc, of_kind}
use Rattle.rows.proofs.Arcs.{joins_test}
use Rattle.rows.proofs.Empty.{back}
use Rattle.rows.proofs.Shown.{two_low, transition_low}
use Rattle.rows.specs.declared.Declared.{Declared}
use Rattle.rows.specs.Rows.{row, inputs, givers, actions, looks, functions, below, has, transitions_below}
use Rattle.rows.specs.Filed.{kept_in, joins, declares, Rowed, Paired, Known}
use Rattle.named.specs.Named.{arc_bit, lost_place, own_named, named_by, transition_named, unknown_in, unknown_by}
use Rattle.named.specs.Named.{unknown_at, QuietFrom, isolated_in}

-- All records of a table are shown, their first numbers are below n, and they are filed.
pub record Whole (tb : Table) (n : ℕ) (rows : List ℕ) (known : Declared) : Type 0 where
  pub shown : (k : ℕ) → k < tb.records → Shows tb k
  pub few : n ≤ 128
  pub below : (k : ℕ) → k < tb.records → tb.one k < n
  pub rowed : Rowed tb tb.records rows
  pub paired : Paired tb tb.records rows
  pub known_are : Known tb tb.records known

module _ {tb : Table} {n : ℕ} {rows : List ℕ} {known : Declared} (whole : Whole tb n rows known) where
  -- Who is declared.
  pub place_is : (p : ℕ) → p < 128 → has known p ≡ place tb p
  unfolding place
  place_is p h = whole.known_are.places p h

  pub transition_is : (t : ℕ) → t < 64 → bit known.transitions t ≡ transition tb t
  unfolding transition
  transition_is t h = whole.known_are.transitions t h

  -- The numbers of a record of each kind.
  one_low : (k : ℕ) → k < tb.records → tb.one k < 128
  one_low k h = omega (arith, whole.below k h, whole.few)

  -- Record k names an unknown exactly if it does so by what is declared.
  pub unknown_same : (k : ℕ) → k < tb.records → unknown_at tb known k ≡ unknown tb k
  unfolding unknown_by unknown names_place names_transition names_second
  unknown_same k h =
      let shown = whole.shown k h in
      let first : has known (tb.one k) ≡ place tb (tb.one k) = place_is (tb.one k) (one_low k h) in
      let second : bit known.transitions (tb.two k) ≡ transition tb (tb.two k) =
      transition_is (tb.two k) (two_low shown) in
      let four : tb.kind k ≡ 4 → tb.one k < 64 = λ e. transition_low (of_kind tb k 4 shown e) refl in
      let five : tb.kind k ≡ 5 → tb.one k < 64 = λ e. transition_low (of_kind tb k 5 shown e) refl in
      let seven : tb.kind k ≡ 7 → tb.one k < 64 = λ e. transition_low (of_kind tb k 7 shown e) refl in
      grind (arith, common_steps, first, second, four, five, seven, transition_is (tb.one k))

  -- A record that is kept in a row is a bit there.
  in_row : (c k : ℕ) → c < 7 → k < tb.records → kept_in tb c k ≡ true → bit (row rows c (tb.one k)) (tb.two k) ≡ true
  in_row c k low h kept =
      whole.rowed.holds c (tb.one k) (tb.two k) low (one_low k h) (two_low (whole.shown k h))
      ∙ some_intro tb.records (λ j. kept_in tb c j && joins tb (tb.one k) (tb.two k) j) k h
      (and_true kept (and_true (eq-eqb (tb.one k) (tb.one k) refl) (eq-eqb (tb.two k) (tb.two k) refl)))

  in_pairs : (k : ℕ) → k < tb.records → is tb 5 k ≡ true → bit (below rows (tb.one k)) (tb.two k) ≡ true
  in_pairs k h kept =
      whole.paired.holds (tb.one k) (tb.two k) (one_low k h) (two_low (whole.shown k h))
      ∙ some_intro tb.records (λ j. is tb 5 j && joins tb (tb.one k) (tb.two k) j) k h
      (and_true kept (and_true (eq-eqb (tb.one k) (tb.one k) refl) (eq-eqb (tb.two k) (tb.two k) refl)))

  -- An arc is a bit among the arcs of its place.
  arc_in : (k : ℕ) → k < tb.records → tb.kind k ≡ 3 → arc_bit rows (tb.one k) (tb.two k) ≡ true
  unfolding kept_in
  arc_in k h kind =
      let arc = shown_arc (of_kind tb k 3 (whole.shown k h) kind) in
      grind (arith, common_steps, or_true_left, or_true_right, in_row, arc)

  -- What is named in the rows and is not declared is unknown there.
  lost : (k : ℕ) → k < tb.records → (arc_bit rows (tb.one k) (tb.two k)
      || bit (actions rows (tb.one k)) (tb.two k)) ≡ true
      → has known (tb.one k) ≡ false → unknown_in rows known n ≡ true
  unfolding unknown_in
  lost k h named missing =
      or_true_left _
      (some_intro n (lost_place rows known) (tb.one k) (whole.below k h)
      (and_true
      (some_intro 64 (λ y. arc_bit rows (tb.one k) y || bit (actions rows (tb.one k)) y) (tb.two k)
      (two_low (whole.shown k h)) named)
      (ap not missing)))

  lost_transition : (t : ℕ) → t < 64 → transition_named rows n t ≡ true → bit known.transitions t ≡ false
      → unknown_in rows known n ≡ true
  unfolding unknown_in
  lost_transition t low named missing =
      or_true_right (some n (lost_place rows known))
      (some_intro 64 (λ t. transition_named rows n t && not (bit known.transitions t)) t low
      (and_true named (ap not missing)))

  -- A transition that names something of its own, or that another stands above.
  named_below : (u t : ℕ) → u < 64 → u < n → named_by rows t u ≡ true → transition_named rows n t ≡ true
  named_below u t low inside e =
      let under : u < transitions_below n = grind (arith, common_steps) in
      or_true_right (some n (λ p. arc_bit rows p t)) (some_intro (transitions_below n) (named_by rows t) u under e)

  own_name : (k y : ℕ) → k < tb.records → tb.one k < 64 → y < 64
      → (bit (below rows (tb.one k)) y || bit (looks rows (tb.one k)) y || bit (functions rows (tb.one k)) y) ≡ true
      → transition_named rows n (tb.one k) ≡ true
  own_name k y h low here e =
      named_below (tb.one k) (tb.one k) low (whole.below k h)
      (or_true_left _
      (and_true (eq-eqb (tb.one k) (tb.one k) refl)
      (some_intro 64 (λ y. bit (below rows (tb.one k)) y || bit (looks rows (tb.one k)) y
      || bit (functions rows (tb.one k)) y) y here e)))

  -- A record that names an unknown shows in the rows.
  pub shows_there : (k : ℕ) → k < tb.records → unknown_at tb known k ≡ true → unknown_in rows known n ≡ true
  unfolding unknown_by kept_in
  shows_there k h =
      each_kind
      (λ kind. tb.kind k ≡ kind
      → (((eqb kind 3 || eqb kind 6) && not (has known (tb.one k)))
      || ((eqb kind 4 || eqb kind 5 || eqb kind 7) && not (bit known.transitions (tb.one k)))
      || ((eqb kind 3 || eqb kind 5) && not (bit known.transitions (tb.two k))))
      ≡ true
      → unknown_in rows known n ≡ true)
      (λ e q. not_both q refl)
      (λ e q. not_both q refl)
      (λ e q.
      ⊎_elim (λ (z : (not (has known (tb.one k)) || false) ≡ true). lost k h (or_true_left _ (arc_in k h e))
      (missed (has known (tb.one k)) z))
      (λ (z : not (bit known.transitions (tb.two k)) ≡ true).
      lost_transition (tb.two k) (two_low (whole.shown k h))
      (or_true_left _ (some_intro n (λ p. arc_bit rows p (tb.two k)) (tb.one k) (whole.below k h) (arc_in k h e)))
      (back (bit known.transitions (tb.two k)) true z))
      (or_cases _ _ q))
      (λ e q.
      let low = transition_low (of_kind tb k 4 (whole.shown k h) e) refl in
      lost_transition (tb.one k) low
      (own_name k (tb.two k) h low (two_low (whole.shown k h))
      (or_true_left _ (or_true_right (bit (below rows (tb.one k)) (tb.two k))
      (in_row 4 k (omega arith) h (eq-eqb (tb.kind k) 4 e)))))
      (missed (bit known.transitions (tb.one k)) q))
      (λ e q.
      let low = transition_low (of_kind tb k 5 (whole.shown k h) e) refl in
      let pair = in_pairs k h (eq-eqb (tb.kind k) 5 e) in
      ⊎_elim
      (λ (z : not (bit known.transitions (tb.one k)) ≡ true).
      lost_transition (tb.one k) low (own_name k (tb.two k) h low (two_low (whole.shown k h))
      (or_true_left _ (or_true_left _ pair)))
      (back (bit known.transitions (tb.one k)) true z))
      (λ (z : not (bit known.transitions (tb.two k)) ≡ true).
      lost_transition (tb.two k) (two_low (whole.shown k h))
      (named_below (tb.one k) (tb.two k) low (whole.below k h)
      (or_true_right (eqb (tb.one k) (tb.two k) && own_named rows (tb.one k)) pair))
      (back (bit known.transitions (tb.two k)) true z))
      (or_cases _ _ q))
      (λ e q. lost k h (or_true_right (arc_bit rows (tb.one k) (tb.two k))
      (in_row 3 k (omega arith) h (eq-eqb (tb.kind k) 6 e))) (missed (has known (tb.one k)) (sym (or-false _) ∙ q)))
      (λ e q.
      let low = transition_low (of_kind tb k 7 (whole.shown k h) e) refl in
      lost_transition (tb.one k) low
      (own_name k (tb.two k) h low (two_low (whole.shown k h))
      (or_true_right (bit (below rows (tb.one k)) (tb.two k) || bit (looks rows (tb.one k)) (tb.two k))
      (in_row 6 k (omega arith) h (eq-eqb (tb.kind k) 7 e))))
      (missed (bit known.transitions (tb.one k)) q))
      (tb.kind k) (shown_kind (whole.shown k h)).0 (shown_kind (whole.shown k h)).1 refl
    where
      missed : (b : Bool) → (not b || false) ≡ true → b ≡ false
      missed true q = sym q
      missed false q = refl

  -- THE ISOLATED

  -- An arc stands at place p exactly if the rows have one; so of transition t.
  has_arc : (k p t : ℕ) → k < tb.records → t < 64 → (is tb 3 k && joins tb p t k) ≡ true → arc_bit rows p t ≡ true
  has_arc k p t h low e =
      let kind = eqb-true (tb.kind k) 3 (and_left (is tb 3 k) (joins tb p t k) e) in
      let j = joins_test tb p t k (and_right (is tb 3 k) (joins tb p t k) e) in
      rw (← j.0, ← j.1) (arc_in k h kind)

  arc_of : (p t : ℕ) → p < 128 → t < 64 → arc_bit rows p t ≡ true
      → (k : ℕ) × (k < tb.records) × ((is tb 3 k && joins tb p t k) ≡ true)
  unfolding kept_in
  arc_of p t h l e =
      ⊎_elim (λ (z : bit (inputs rows p) t ≡ true). found 0 (omega arith)
      (λ k. and_left (is tb 3 k) (ltb (tb.sort k) 3)) z)
      (λ (z : bit (givers rows p) t ≡ true). found 2 (omega arith) (λ k. and_left (is tb 3 k) (eqb (tb.sort k) 3)) z)
      (or_cases _ _ e)
    where
      found : (c : ℕ) → c < 7 → ((k : ℕ) → kept_in tb c k ≡ true → is tb 3 k ≡ true) → bit (row rows c p) t ≡ true
          → (k : ℕ) × (k < tb.records) × ((is tb 3 k && joins tb p t k) ≡ true)
      found c low arcs z =
          let w =
          some_elim tb.records (λ k. kept_in tb c k && joins tb p t k)
          (sym (whole.rowed.holds c p t low h l) ∙ z) in
          let kept = and_left (kept_in tb c w.0) _ w.2 in
          (w.0, w.1, and_true (arcs w.0 kept) (and_right (kept_in tb c w.0) _ w.2))

  at_place : (p : ℕ) → p < 128 → some 64 (arc_bit rows p) ≡ arc_at_place tb p
  unfolding arc_at_place
  at_place p h =
      same_test _ _
      (λ e.
      let w = some_elim 64 (arc_bit rows p) e in
      let k = arc_of p w.0 h w.1 w.2 in
      some_intro tb.records (λ r. is tb 3 r && eqb (tb.one r) p) k.0 k.1
      (and_true (and_left (is tb 3 k.0) _ k.2)
      (and_left (eqb (tb.one k.0) p) _ (and_right (is tb 3 k.0) _ k.2))))
      (λ e.
      let w = some_elim tb.records (λ r. is tb 3 r && eqb (tb.one r) p) e in
      let two = two_low (whole.shown w.0 w.1) in
      some_intro 64 (arc_bit rows p) (tb.two w.0) two
      (has_arc w.0 p (tb.two w.0) w.1 two
      (and_true (and_left (is tb 3 w.0) (eqb (tb.one w.0) p) w.2)
      (and_true (and_right (is tb 3 w.0) (eqb (tb.one w.0) p) w.2)
      (eq-eqb (tb.two w.0) (tb.two w.0) refl)))))

  at_transition : (t : ℕ) → t < 64 → some 128 (λ p. arc_bit rows p t) ≡ arc_at_transition tb t
  unfolding arc_at_transition
  at_transition t l =
      same_test _ _
      (λ e.
      let w = some_elim 128 (λ p. arc_bit rows p t) e in
      let k = arc_of w.0 t w.1 l w.2 in
      some_intro tb.records (λ r. is tb 3 r && eqb (tb.two r) t) k.0 k.1
      (and_true (and_left (is tb 3 k.0) _ k.2)
      (and_right (eqb (tb.one k.0) w.0) _ (and_right (is tb 3 k.0) _ k.2))))
      (λ e.
      let w = some_elim tb.records (λ r. is tb 3 r && eqb (tb.two r) t) e in
      some_intro 128 (λ p. arc_bit rows p t) (tb.one w.0) (one_low w.0 w.1)
      (has_arc w.0 (tb.one w.0) t w.1 l
      (and_true (and_left (is tb 3 w.0) (eqb (tb.two w.0) t) w.2)
      (and_true (eq-eqb (tb.one w.0) (tb.one w.0) refl)
      (and_right (is tb 3 w.0) (eqb (tb.two w.0) t) w.2)))))

  -- Candidate j is isolated exactly if it is so by the rows.
  pub isolated_same : (j : ℕ) → j < 192 → isolated_in rows known j ≡ isolated tb j
  unfolding isolated_in isolated
  isolated_same j h =
      grind (arith, common_steps, place_is, at_place, transition_is (j - 128), at_transition (j - 128))

  -- From place n on there is neither an arc nor a place.
  pub quiet : QuietFrom n rows known
  quiet =
      record {
        few = whole.few;
        no_arc = λ p t past h l.
            not_true_false (arc_bit rows p t)
            (λ e.
            let k = arc_of p t h l e in
            past_one k.0 p k.1 past
            (and_left (eqb (tb.one k.0) p) (eqb (tb.two k.0) t)
            (and_right (is tb 3 k.0) (joins tb p t k.0) k.2)));
        no_place = λ p past h.
            not_true_false (has known p)
            (λ e.
            let w = some_elim tb.records (declares tb 1 p) (sym (whole.known_are.places p h) ∙ e) in
            past_one w.0 p w.1 past (and_right (is tb 1 w.0) (eqb (tb.one w.0) p) w.2));
      }
    where
      past_one : (k p : ℕ) → k < tb.records → n ≤ p → eqb (tb.one k) p ≡ true → ⊥
      past_one k p h past e = omega (arith, whole.below k h, past, eqb-true (tb.one k) p e)
