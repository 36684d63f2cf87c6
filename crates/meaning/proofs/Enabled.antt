-- What an enabled transition's arcs have found: an arc of the transition that is not met would stop it.
use mathlib.Core.Bool.{true, false, not}
use mathlib.Core.Path.{◌≡◌, sym, ◌∙◌}
use Prim.Native.Nat.{ℕ, ◌≤◌, ◌<◌}
use lib.Dec.{ltb, eqb}
use borrow.Author.Tests.{ltb-true, ltb-false, eq-eqb, eqb-true, not-true, not-false}
use Rattle.meaning.specs.Below.{some}
use Rattle.meaning.specs.Table.{Table, is, arc, basic, test, inhibitor}
use Rattle.meaning.specs.Cycle.{stops, enabled}
use Rattle.meaning.proofs.Bool.{and_left, and_right}
use Rattle.meaning.proofs.Below.{none_elim}

-- An arc of a sort has kind 3 and that sort.
pub arc_is : (tb : Table) (s r : ℕ) → arc tb s r ≡ true → (tb.kind r ≡ 3) × (tb.sort r ≡ s)
arc_is tb s r e = (
  eqb-true (tb.kind r) 3 (and_left (is tb 3 r) (eqb (tb.sort r) s) e),
  eqb-true (tb.sort r) s (and_right (is tb 3 r) (eqb (tb.sort r) s) e),
)

-- Of an enabled transition no record stops it.
pub nothing_stops : (tb : Table) (m : ℕ → ℕ) (t : ℕ) → enabled tb m t ≡ true → (r : ℕ) → r < tb.records
    → stops tb m t r ≡ false
unfolding enabled
nothing_stops tb m t e = none_elim tb.records (stops tb m t) (not-true (some tb.records (stops tb m t)) e)

-- What an input arc asks: a basic or a test arc stops its transition exactly where it finds less than its weight, an
-- inhibitor arc where it does not.
pub stops_basic : (tb : Table) (m : ℕ → ℕ) (t r : ℕ) → tb.kind r ≡ 3 → tb.sort r ≡ 0 → tb.two r ≡ t
    → stops tb m t r ≡ ltb (m (tb.one r)) (tb.four r)
unfolding stops
stops_basic tb m t r k s e = rw (k, s, eq-eqb (tb.two r) t e)

pub stops_test : (tb : Table) (m : ℕ → ℕ) (t r : ℕ) → tb.kind r ≡ 3 → tb.sort r ≡ 1 → tb.two r ≡ t
    → stops tb m t r ≡ ltb (m (tb.one r)) (tb.four r)
unfolding stops
stops_test tb m t r k s e = rw (k, s, eq-eqb (tb.two r) t e)

pub stops_inhibitor : (tb : Table) (m : ℕ → ℕ) (t r : ℕ) → tb.kind r ≡ 3 → tb.sort r ≡ 2 → tb.two r ≡ t
    → stops tb m t r ≡ not (ltb (m (tb.one r)) (tb.four r))
unfolding stops
stops_inhibitor tb m t r k s e = rw (k, s, eq-eqb (tb.two r) t e)

module _ (tb : Table) (m : ℕ → ℕ) (t : ℕ) (on : enabled tb m t ≡ true) (r : ℕ) (here : r < tb.records) where
  -- A basic arc of an enabled transition finds its weight.
  pub finds_basic : basic tb r ≡ true → tb.two r ≡ t → tb.four r ≤ m (tb.one r)
  finds_basic b e =
      let a = arc_is tb 0 r b in
      ltb-false (m (tb.one r)) (tb.four r) (sym (stops_basic tb m t r a.0 a.1 e) ∙ nothing_stops tb m t on r here)

  -- So does a test arc.
  pub finds_test : test tb r ≡ true → tb.two r ≡ t → tb.four r ≤ m (tb.one r)
  finds_test b e =
      let a = arc_is tb 1 r b in
      ltb-false (m (tb.one r)) (tb.four r) (sym (stops_test tb m t r a.0 a.1 e) ∙ nothing_stops tb m t on r here)

  -- An inhibitor arc of an enabled transition finds less than its weight.
  pub finds_inhibitor : inhibitor tb r ≡ true → tb.two r ≡ t → m (tb.one r) < tb.four r
  finds_inhibitor b e =
      let a = arc_is tb 2 r b in
      ltb-true (m (tb.one r)) (tb.four r)
      (not-false (ltb (m (tb.one r)) (tb.four r)) (sym (stops_inhibitor tb m t r a.0 a.1 e) ∙ nothing_stops tb m t on r here))
