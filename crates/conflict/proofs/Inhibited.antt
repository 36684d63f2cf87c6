-- A place tells two transitions apart by its cells exactly if an inhibitor arc to the one and a basic or test arc of
-- equal weight to the other say so.
use mathlib.Core.Bool.{Bool, true, false, not, cond, ◌&&◌, ◌||◌}
use mathlib.Core.List.{List}
use mathlib.Core.Logic.{◌⊎◌, inl, inr, ⊎_elim}
use mathlib.Core.Path.{◌≡◌, refl, sym, ◌∙◌}
use Prim.Native.Nat.{ℕ, ◌<◌}
use native.Mathlib.Omega.{arith}
use lib.Dec.{eqb}
use borrow.Author.Tests.{eqb-true, eqb-false, eq-eqb, lt-ltb, not-true}
use Rattle.meaning.specs.Below.{some}
use Rattle.meaning.specs.Bytes.{bit}
use Rattle.meaning.specs.Table.{Table}
use Rattle.meaning.specs.Defined.{inhibited}
use Rattle.meaning.specs.Says.{Arc}
use Rattle.meaning.proofs.Bool.{and_left, and_right, and_true}
use Rattle.meaning.proofs.Below.{some_intro, some_elim}
use Rattle.meaning.proofs.Reflect.{or_decides}
use Rattle.meaning.proofs.Rows.{Inhibited, inhibited_decides}
use Rattle.rows.specs.declared.Declared.{Declared}
use Rattle.rows.specs.Rows.{inputs, cell}
use Rattle.rows.specs.Filed.{input, joins}
use Rattle.rows.proofs.Arcs.{input_test, joins_test, joined, ranges, inputs_are, cell_of}
use Rattle.conflict.specs.Settled.{apart_by, apart_in}
use Rattle.conflict.proofs.Whole.{Whole, same_decided}

-- An input arc that is no inhibitor arc is a basic or a test arc.
of_two : (tb : Table) {x p t v : ℕ} → Arc tb x p t v → x < 3 → ¬ (x ≡ 2) → Arc tb 0 p t v ⊎ Arc tb 1 p t v
of_two tb {x} {p} {t} {v} a low other = go (eqb x 0) refl
  where
    go : (b : Bool) → eqb x 0 ≡ b → Arc tb 0 p t v ⊎ Arc tb 1 p t v
    go true e = inl (a.0, a.1, a.2, a.3 ∙ eqb-true x 0 e, a.4, a.5, a.6)
    go false e =
        let one : x ≡ 1 = omega (arith, eqb-false x 0 e, low, other) in
        inr (a.0, a.1, a.2, a.3 ∙ one, a.4, a.5, a.6)

module _ {tb : Table} {n : ℕ} {rows : List ℕ} {w s : List (List ℕ)} {heads posts times : List ℕ} {known : Declared}
    (whole : Whole tb n rows w s heads posts times known) where
  -- Where a row has an input arc the cells hold its sort and weight, and the other way round.
  arc_there : (p t : ℕ) → p < 128 → t < 64 → bit (inputs rows p) t ≡ true
      → Arc tb (cell s p t) p t (cell w p t) × (cell s p t < 3)
  arc_there p t h l e =
      let x = some_elim tb.records (λ r. input tb r && joins tb p t r)
      (sym (inputs_are whole.laid p t h l) ∙ e) in
      let r : ℕ = x.0 in
      let arc = and_left (input tb r) (joins tb p t r) x.2 in
      let j = joins_test tb p t r (and_right (input tb r) (joins tb p t r) x.2) in
      let is = input_test tb r arc in
      let own = rw (j.0, j.1) at (cell_of whole.laid r x.1 arc) in
      ((r, x.1, is.0, sym own.1, j.0, j.1, sym own.0), omega (arith, own.1, is.1))

  cells_there : {x p t v : ℕ} → Arc tb x p t v → x < 3
      → (bit (inputs rows p) t ≡ true) × (cell w p t ≡ v) × (cell s p t ≡ x)
  cells_there {x} {p} {t} {v} a low =
      let r : ℕ = a.0 in
      let arc : input tb r ≡ true = and_true (eq-eqb (tb.kind r) 3 a.2)
      (lt-ltb (tb.sort r) 3 (omega (arith, a.3, low))) in
      let range = ranges whole.laid r a.1 a.2 in
      let own = rw (a.4, a.5) at (cell_of whole.laid r a.1 arc) in (
        inputs_are whole.laid p t (omega (arith, range.0, a.4)) (omega (arith, range.1, a.5))
            ∙ some_intro tb.records (λ r. input tb r && joins tb p t r) r a.1
            (and_true arc (joined tb p t r a.4 a.5)),
        own.0 ∙ a.6,
        own.1 ∙ a.3,
      )

  -- Place p tells i and j apart, by an inhibitor arc to j or to i.
  apart_by_arcs : (i j p : ℕ) → i < 64 → j < 64 → p < 128 → apart_in rows w s i j p ≡ true
      → Inhibited tb i j ⊎ Inhibited tb j i
  unfolding apart_by
  apart_by_arcs i j p hi hj h e =
      let front = and_left ((bit (inputs rows p) i && bit (inputs rows p) j) && eqb (cell w p i) (cell w p j)) _ e in
      let both = and_left (bit (inputs rows p) i && bit (inputs rows p) j) (eqb (cell w p i) (cell w p j)) front in
      let a = arc_there p i h hi (and_left (bit (inputs rows p) i) (bit (inputs rows p) j) both) in
      let b = arc_there p j h hj (and_right (bit (inputs rows p) i) (bit (inputs rows p) j) both) in
      let equal = eqb-true (cell w p i) (cell w p j)
      (and_right (bit (inputs rows p) i && bit (inputs rows p) j) _ front) in
      go a b equal (eqb (cell s p i) 2) refl
      (and_right ((bit (inputs rows p) i && bit (inputs rows p) j) && eqb (cell w p i) (cell w p j)) _ e)
    where
      go : Arc tb (cell s p i) p i (cell w p i) × (cell s p i < 3)
          → Arc tb (cell s p j) p j (cell w p j) × (cell s p j < 3)
          → cell w p i ≡ cell w p j → (x : Bool) → eqb (cell s p i) 2 ≡ x
          → cond x (not (eqb (cell s p j) 2)) (eqb (cell s p j) 2) ≡ true → Inhibited tb i j ⊎ Inhibited tb j i
      go a b equal true e q =
          let i_arc = a.0 in
          let other = eqb-false (cell s p j) 2 (not-true (eqb (cell s p j) 2) q) in
          inr (
            p,
            cell w p j,
            of_two tb b.0 b.1 other,
            (i_arc.0, i_arc.1, i_arc.2, i_arc.3 ∙ eqb-true (cell s p i) 2 e, i_arc.4, i_arc.5, i_arc.6 ∙ equal),
          )
      go a b equal false e q =
          let j_arc = b.0 in
          inl (
            p,
            cell w p i,
            of_two tb a.0 a.1 (eqb-false (cell s p i) 2 e),
            (
              j_arc.0,
              j_arc.1,
              j_arc.2,
              j_arc.3 ∙ eqb-true (cell s p j) 2 q,
              j_arc.4,
              j_arc.5,
              j_arc.6 ∙ sym equal,
            ),
          )

  -- Two input arcs of equal weight from one place, of which one alone is an inhibitor arc, show in the rows.
  shows : {x y p i j v : ℕ} → Arc tb x p i v → Arc tb y p j v → x < 3 → y < 3
      → cond (eqb x 2) (not (eqb y 2)) (eqb y 2) ≡ true
      → some n (apart_in rows w s i j) ≡ true
  unfolding apart_by
  shows {x} {y} {p} {i} {j} {v} a b low low' one =
      let c = cells_there a low in
      let d = cells_there b low' in
      some_intro n (apart_in rows w s i j) p (omega (arith, whole.below a.0 a.1, a.4))
      (and_true (and_true (and_true c.0 d.0) (eq-eqb (cell w p i) (cell w p j) (c.1 ∙ sym d.1)))
      (rw (c.2, d.2) one))

  pub apart_same : (i j : ℕ) → i < 64 → j < 64 → some n (apart_in rows w s i j) ≡ (inhibited tb i j || inhibited tb j i)
  apart_same i j hi hj = same_decided (there, back) (or_decides (inhibited_decides tb i j) (inhibited_decides tb j i))
    where
      there : some n (apart_in rows w s i j) ≡ true → Inhibited tb i j ⊎ Inhibited tb j i
      there e =
          let x = some_elim n (apart_in rows w s i j) e in
          apart_by_arcs i j x.0 hi hj (omega (arith, x.1, whole.few)) x.2

      back : Inhibited tb i j ⊎ Inhibited tb j i → some n (apart_in rows w s i j) ≡ true
      back (inl x) =
          ⊎_elim (λ a. shows a x.3 (omega arith) (omega arith) refl)
          (λ a. shows a x.3 (omega arith) (omega arith) refl) x.2
      back (inr x) =
          ⊎_elim (λ a. shows x.3 a (omega arith) (omega arith) refl)
          (λ a. shows x.3 a (omega arith) (omega arith) refl) x.2
