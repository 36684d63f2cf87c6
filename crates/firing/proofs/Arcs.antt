-- An arc stops a transition by the rows of an accepted table exactly if it does by the table: the cells of its place
-- and transition hold it.
use mathlib.Core.Bool.{Bool, true, not, ◌&&◌}
use mathlib.Core.List.{List}
use mathlib.Core.Path.{◌≡◌, refl, sym, ap, ◌∙◌}
use Prim.Native.Nat.{ℕ, ◌<◌}
use native.Mathlib.Omega.{arith}
use lib.Dec.{eqb}
use borrow.Author.Tests.{eqb-true, eqb-false, eq-eqb, ne_eqb, lt-ltb, not-true}
use Rattle.meaning.specs.Below.{some}
use Rattle.meaning.specs.Bytes.{bit}
use Rattle.meaning.specs.Table.{Table, table, is, post}
use Rattle.meaning.specs.Cycle.{stops, enabled}
use Rattle.meaning.proofs.Bool.{and_left, and_right, and_true, same_test}
use Rattle.meaning.proofs.Below.{some_intro, some_elim}
use Rattle.rows.specs.declared.Declared.{Declared}
use Rattle.rows.specs.Rows.{inputs}
use Rattle.rows.specs.Filed.{input, joins, NetOf}
use Rattle.rows.proofs.Arcs.{at_most, Laid, accepted_laid, input_test, joins_test, ranges, inputs_are, cell_of}
use Rattle.firing.specs.Fired.{stops_with}

module _ {bs : List ℕ} {n : ℕ} {rows : List ℕ} {w s : List (List ℕ)} {heads posts times : List ℕ} {known : Declared}
    (net : NetOf bs n rows w s heads posts times known) where
  abbrev tb : Table
  tb = table bs

  laid : Laid tb rows w s heads posts times known
  laid = accepted_laid net

  -- So an input arc to t stops t by its cells exactly if it does by the table.
  stops_same : (m : ℕ → ℕ) (t r : ℕ) → r < tb.records → input tb r ≡ true → tb.two r ≡ t
      → stops_with (m (tb.one r)) w s t (tb.one r) ≡ stops tb m t r
  unfolding stops
  stops_same m t r h e to =
      let c = cell_of laid r h e in
      let x = input_test tb r e in
      rw (
        ← to,
        c.0,
        c.1,
        eq-eqb (tb.kind r) 3 x.0,
        ne_eqb (tb.sort r) 3 (λ z. omega arith),
        eq-eqb (tb.two r) (tb.two r) refl,
        at_most (tb.four r) (m (tb.one r)),
      )

  -- Whatever stops t is an input arc to t.
  stopping : (m : ℕ → ℕ) (t r : ℕ) → r < tb.records → stops tb m t r ≡ true → (input tb r ≡ true) × (tb.two r ≡ t)
  unfolding stops
  stopping m t r l e =
      let front = and_left (is tb 3 r && not (post tb r) && eqb (tb.two r) t) _ e in
      let arc = and_left (is tb 3 r && not (post tb r)) (eqb (tb.two r) t) front in
      let kind : is tb 3 r ≡ true = and_left (is tb 3 r) (not (post tb r)) arc in
      let other : ¬ (tb.sort r ≡ 3) =
      eqb-false (tb.sort r) 3 (rw kind at (not-true (post tb r) (and_right (is tb 3 r) (not (post tb r)) arc))) in
      let low = ranges laid r l (eqb-true (tb.kind r) 3 kind) in (
        and_true kind (lt-ltb (tb.sort r) 3 (omega arith)),
        eqb-true (tb.two r) t (and_right (is tb 3 r && not (post tb r)) (eqb (tb.two r) t) front),
      )

  -- Of the places whose rows have t, none stops it exactly if no arc of the table does.
  pub enabled_is : (m : ℕ → ℕ) (t : ℕ) → t < 64
      → not (some 128 (λ p. bit (inputs rows p) t && stops_with (m p) w s t p)) ≡ enabled tb m t
  unfolding enabled
  enabled_is m t h = ap not (same_test (some 128 by_place) (some tb.records (stops tb m t)) there back)
    where
      by_place : ℕ → Bool
      by_place p = bit (inputs rows p) t && stops_with (m p) w s t p

      there : some 128 by_place ≡ true → some tb.records (stops tb m t) ≡ true
      there e =
          let p = some_elim 128 by_place e in
          let has = sym (inputs_are laid p.0 t p.1 h) ∙ and_left (bit (inputs rows p.0) t) _ p.2 in
          let r = some_elim tb.records (λ r. input tb r && joins tb p.0 t r) has in
          let arc : input tb r.0 ≡ true = and_left (input tb r.0) _ r.2 in
          let j = joins_test tb p.0 t r.0 (and_right (input tb r.0) _ r.2) in
          some_intro tb.records (stops tb m t) r.0 r.1
          (sym (stops_same m t r.0 r.1 arc j.1)
          ∙ ap (λ (p : ℕ). stops_with (m p) w s t p) j.0 ∙ and_right (bit (inputs rows p.0) t) _ p.2)

      back : some tb.records (stops tb m t) ≡ true → some 128 by_place ≡ true
      back e =
          let r = some_elim tb.records (stops tb m t) e in
          let a = stopping m t r.0 r.1 r.2 in
          let low = ranges laid r.0 r.1 (input_test tb r.0 a.0).0 in
          let has = inputs_are laid (tb.one r.0) t low.0 h in
          some_intro 128 by_place (tb.one r.0) low.0
          (and_true
          (has
          ∙ some_intro tb.records _ r.0 r.1
          (and_true a.0 (and_true (eq-eqb (tb.one r.0) _ refl) (eq-eqb (tb.two r.0) t a.1))))
          (stops_same m t r.0 r.1 a.0 a.1 ∙ r.2))
