-- Who takes from a place by the rows takes by the table; so the pairs of the rows are the table's pairs in conflict,
-- and their numbers are below n.
use mathlib.Core.Bool.{Bool, true, false, cond, ◌&&◌}
use mathlib.Core.List.{List}
use mathlib.Core.Path.{◌≡◌, refl, sym, ◌∙◌}
use Prim.Native.Nat.{ℕ, ◌*◌, ◌≤◌, ◌<◌}
use native.Mathlib.Omega.{arith}
use lib.Dec.{ltb}
use lib.ListN.{length}
use Rattle.meaning.specs.Below.{some}
use Rattle.meaning.specs.Bytes.{bit}
use Rattle.meaning.specs.Table.{Table}
use Rattle.meaning.specs.Defined.{conflict, unknown}
use Rattle.meaning.specs.Says.{Arc}
use Rattle.meaning.proofs.Bool.{and_right, same_test}
use Rattle.meaning.proofs.Below.{some_intro, some_elim}
use Rattle.meaning.proofs.Reflect.{Decides, recast, eq_decides, and_decides, some_decides, not_true_false}
use Rattle.meaning.proofs.Rows.{conflict_decides}
use Rattle.meaning.proofs.Tables.{arc_transition}
use Rattle.rows.specs.declared.Declared.{Declared}
use Rattle.rows.specs.Rows.{takers, transitions_below}
use Rattle.rows.specs.Filed.{Closed}
use Rattle.rows.proofs.Arcs.{Laid, ranges, takers_are}
use Rattle.conflict.specs.Pairs.{TakerlessFrom, Conflicts}
use Rattle.conflict.specs.Settled.{LeastAsks}

-- The rows hold a table whose records are shown, each said once and with all names declared, the pairs closed; each
-- byte 1 is below n.
pub record Whole (tb : Table) (n : ℕ) (rows : List ℕ) (w s : List (List ℕ)) (heads posts times : List ℕ)
    (known : Declared) : Type 0 where
  pub laid : Laid tb rows w s heads posts times known
  pub closed : Closed tb rows
  pub declared : (r : ℕ) → r < tb.records → unknown tb r ≡ false
  pub few : n ≤ 128
  pub below : (r : ℕ) → r < tb.records → tb.one r < n

-- Two tests that decide one thing are the same; a test decides what an equal test decides.
pub same_decided : {a b : Bool} {A : Type 0} → Decides a A → Decides b A → a ≡ b
same_decided {a} {b} d e = same_test a b (λ z. e.1 (d.0 z)) (λ z. d.1 (e.0 z))

pub decides_by : {a b : Bool} {A : Type 0} → a ≡ b → Decides b A → Decides a A
decides_by e d = (λ z. d.0 (sym e ∙ z), λ x. e ∙ d.1 x)

-- Whether some number below n passes, where each test is right below n.
pub some_below : (n : ℕ) (p : ℕ → Bool) {P : ℕ → Type 0} → ((k : ℕ) → k < n → Decides (p k) (P k))
    → Decides (some n p) ((k : ℕ) × (k < n) × P k)
some_below n p d = (
  λ e.
      let x = some_elim n p e in
      (x.0, x.1, (d x.0 x.1).0 x.2),
  λ x. some_intro n p x.0 x.1 ((d x.0 x.1).1 x.2),
)

-- A number below 64 and below n is a transition's below n.
under : (n i : ℕ) → i < 64 → i < n → i < transitions_below n
under n i h l = go (ltb n 64)
  where
    go : (b : Bool) → i < cond b n 64
    go true = l
    go false = h

module _ {tb : Table} {n : ℕ} {rows : List ℕ} {w s : List (List ℕ)} {heads posts times : List ℕ} {known : Declared}
    (whole : Whole tb n rows w s heads posts times known) where
  -- Transition t takes from place p by the rows exactly if it has a basic arc from it.
  pub takes_decides : (p t : ℕ) → p < 128 → t < 64 → Decides (bit (takers rows p) t) ((v : ℕ) × Arc tb 0 p t v)
  takes_decides p t h l =
      decides_by (takers_are whole.laid p t h l)
      (recast
      (some_decides tb.records
      (λ r.
      and_decides (and_decides (eq_decides (tb.kind r) 3) (eq_decides (tb.sort r) 0))
      (and_decides (eq_decides (tb.one r) p) (eq_decides (tb.two r) t))))
      (λ x. (tb.four x.0, (x.0, x.1, x.2.0.0, x.2.0.1, x.2.1.0, x.2.1.1, refl)))
      (λ x.
      let a = x.1 in
      (a.0, a.1, ((a.2, a.3), (a.4, a.5)))))

  -- So two are in conflict by the rows exactly if they are by the table.
  pub conflict_same : (i j : ℕ) → i < 64 → j < 64
      → some 128 (λ p. bit (takers rows p) i && bit (takers rows p) j) ≡ conflict tb i j
  conflict_same i j hi hj =
      same_decided
      (recast
      (some_below 128 (λ p. bit (takers rows p) i && bit (takers rows p) j)
      (λ p h. and_decides (takes_decides p i h hi) (takes_decides p j h hj)))
      (λ x. (x.0, x.2.0.0, x.2.1.0, x.2.0.1, x.2.1.1))
      (λ x.
      let a = x.3 in
      (x.0, omega (arith, (ranges whole.laid a.0 a.1 a.2).0, a.4), ((x.1, a), (x.2, x.4)))))
      (conflict_decides tb i j)

  -- A taker's number and its place are below n: both are byte 1 of a record, the transition's of the one that declares
  -- it.
  taker_low : {s p t v : ℕ} → Arc tb s p t v → t < n
  taker_low a =
      let d = arc_transition tb whole.declared a in
      omega (arith, whole.below d.0 d.1, d.3)

  -- From place n on nobody takes.
  pub takerless : 8 * n ≤ length rows → TakerlessFrom n rows
  takerless size =
      record {
        few = whole.few;
        there = size;
        no_taker =
            λ p t past h l.
            not_true_false (bit (takers rows p) t)
            (λ e.
            let a = ((takes_decides p t h l).0 e).1 in
            omega (arith, whole.below a.0 a.1, a.4, past));
      }

  -- The two of a pair are transitions below n.
  pub least_asks : {pairs : List ℕ} → Conflicts rows pairs → 8 * n ≤ length rows → n ≤ length w → n ≤ length s
      → LeastAsks n pairs rows w s
  least_asks {pairs} conflicts size weights sorts =
      record {
        rows_there = size;
        weights_there = weights;
        sorts_there = sorts;
        pairs_low =
            λ i j h l e.
            let both = and_right (ltb i j) _ (sym (conflicts.holds i j h l) ∙ e) in
            let c = (conflict_decides tb i j).0 (sym (conflict_same i j h l) ∙ both) in
            (under n i h (taker_low c.3), under n j l (taker_low c.4));
      }
