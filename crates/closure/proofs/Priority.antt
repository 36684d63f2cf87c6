-- The closed rows of a table's pairs are its priority: a chain of written pairs is a chain of kind 5 records, and the
-- other way round.
use mathlib.Core.Bool.{Bool, true, false, cond, ◌&&◌}
use mathlib.Core.List.{List}
use mathlib.Core.Logic.{⊎_elim}
use mathlib.Core.Path.{◌≡◌, refl, sym, ap, ◌∙◌}
use Prim.Native.Nat.{ℕ, ◌*◌, ◌≤◌, ◌<◌}
use native.Mathlib.Omega.{arith}
use lib.Dec.{eqb, ltb}
use lib.ListN.{length}
use borrow.Author.Tests.{eqb-true, eq-eqb}
use Rattle.meaning.specs.Below.{first}
use Rattle.meaning.specs.Bytes.{bit}
use Rattle.meaning.specs.Table.{Table, is}
use Rattle.meaning.specs.Priority.{above}
use Rattle.meaning.specs.Defined.{unknown, circle}
use Rattle.meaning.specs.Says as says
use Rattle.meaning.specs.Says.{Transition, NamesUnknown, Above}
use Rattle.meaning.proofs.Bool.{not_both, and_left, and_right, and_true, same_test}
use Rattle.meaning.proofs.Below.{some_intro, some_elim, first_same}
use Rattle.meaning.proofs.Closure as meant
use Rattle.meaning.proofs.Reflect.{not_true_false, refutes, decided}
use Rattle.meaning.proofs.Rows.{transition_decides, unknown_decides}
use Rattle.rows.specs.declared.Declared.{Declared}
use Rattle.rows.specs.Rows.{below, transitions_below}
use Rattle.rows.specs.Filed.{joins, Rowed, Paired, Closed, Filed}
use Rattle.rows.proofs.Few.{transitions_le}
use Rattle.closure.specs.Closure.{Chain, pair, chain, LowPairs, Closes}
use Rattle.closure.proofs.Chains.{begins, ends_low}

-- The kind 5 records name transitions below 64.
abbrev pub LowNumbers : Table → Type 0
LowNumbers tb = (r : ℕ) → r < tb.records → tb.kind r ≡ 5 → (tb.one r < 64) × (tb.two r < 64)

-- Where no record names an unknown, who stands below another is declared.
lower_declared : (tb : Table) → ((r : ℕ) → r < tb.records → unknown tb r ≡ false) → (r : ℕ) → r < tb.records
    → tb.kind r ≡ 5 → Transition tb (tb.two r)
lower_declared tb declared r h k =
    ⊎_elim (λ (d : Transition tb (tb.two r)). d)
    (λ (n : ¬ Transition tb (tb.two r)).
    absurd (refutes (unknown_decides tb r) (declared r h) (NamesUnknown.lower k n)))
    (decided (transition_decides tb (tb.two r)))

-- Where rows hold the pairs of a table, a written pair is a record of kind 5.
module _ {tb : Table} {rows : List ℕ} (paired : Paired tb tb.records rows) where
  written : (u t : ℕ) → u < 128 → t < 64 → bit (below rows u) t ≡ true
      → (r : ℕ) × (r < tb.records) × (tb.kind r ≡ 5) × (tb.one r ≡ u) × (tb.two r ≡ t)
  written u t h i e =
      let w = some_elim tb.records (λ k. is tb 5 k && joins tb u t k) (sym (paired.holds u t h i) ∙ e) in
      let r : ℕ = w.0 in
      let both = and_right (is tb 5 r) (joins tb u t r) w.2 in (
        r,
        w.1,
        eqb-true (tb.kind r) 5 (and_left (is tb 5 r) (joins tb u t r) w.2),
        eqb-true (tb.one r) u (and_left (eqb (tb.one r) u) (eqb (tb.two r) t) both),
        eqb-true (tb.two r) t (and_right (eqb (tb.one r) u) (eqb (tb.two r) t) both),
      )

  -- A chain of written pairs is a chain of records.
  to_records : {u t : ℕ} → Chain rows u t → Above tb u t
  to_records (pair {u} {t} h i e) =
      let w = written u t (omega arith) i e in
      of_pair w.0 w.1 w.2 w.3 w.4
    where
      of_pair : (r : ℕ) → r < tb.records → tb.kind r ≡ 5 → tb.one r ≡ u → tb.two r ≡ t → Above tb u t
      of_pair r h k p q = rw (← p, ← q) (says.pair r h k)
  to_records (chain a b) = says.chain (to_records a) (to_records b)

  -- From n on none stands above or below another, where each byte 1 is below n and no record names an unknown: who
  -- stands below another is declared, and so byte 1 of a record.
  pub low_from : (n : ℕ) → 8 * n ≤ length rows → ((r : ℕ) → r < tb.records → tb.one r < n)
      → ((r : ℕ) → r < tb.records → unknown tb r ≡ false) → LowPairs (transitions_below n) rows
  low_from n size under declared =
      let most = transitions_le n in
      record {
        few = most.0;
        there = omega (arith, most.1, size);
        none =
            λ u t past h i.
            not_true_false (bit (below rows u) t)
            (λ e.
            let w = written u t (omega arith) i e in
            let low = inside u h (omega (arith, under w.0 w.1, w.3)) in
            omega (arith, past, low));
        lower =
            λ u t h i e.
            let w = written u t (omega arith) i e in
            let d = lower_declared tb declared w.0 w.1 w.2 in
            inside t i (omega (arith, under d.0 d.1, d.3, w.4));
      }
    where
      inside : (i : ℕ) → i < 64 → i < n → i < transitions_below n
      inside i h l = go (ltb n 64)
        where
          go : (b : Bool) → i < cond b n 64
          go true = l
          go false = h

  module _ (low : LowNumbers tb) where
    -- A chain of records is a chain of written pairs.
    of_records : {u t : ℕ} → Above tb u t → Chain rows u t
    of_records (says.pair r h k) =
        let l = low r h k in
        pair l.0 l.1
        (paired.holds (tb.one r) (tb.two r) (omega (arith, l.0)) l.1
        ∙ some_intro tb.records (λ s. is tb 5 s && joins tb (tb.one r) (tb.two r) s) r h
        (and_true (eq-eqb (tb.kind r) 5 k)
        (and_true (eq-eqb (tb.one r) (tb.one r) refl) (eq-eqb (tb.two r) (tb.two r) refl))))
    of_records (says.chain a b) = chain (of_records a) (of_records b)

    -- The closed rows are the table's priority.
    pub closed_is : {rows' : List ℕ} → Closes rows rows' → Closed tb rows'
    closed_is {rows'} c =
        record {
          holds =
              λ u t h i.
              same_test (bit (below rows' u) t) (above tb u t)
              (λ e. (meant.closed tb u t).1 (to_records ((c.closed u t h i).0 e)))
              (λ e. (c.closed u t h i).1 (of_records ((meant.closed tb u t).0 e)));
        }

-- The other rows are filed as before.
pub rowed_kept : {tb : Table} {r : ℕ} {rows rows' : List ℕ} → Rowed tb r rows → Closes rows rows' → Rowed tb r rows'
rowed_kept rowed c =
    record { holds = λ d i y h l m. ap (λ (x : ℕ). bit x y) (c.others d i h) ∙ rowed.holds d i y h l m }

pub filed_kept : {tb : Table} {r : ℕ} {rows rows' : List ℕ} {w s : List (List ℕ)} {heads posts times : List ℕ}
    {known : Declared}
    → Filed tb r rows w s heads posts times known → Closes rows rows' → Filed tb r rows' w s heads posts times known
filed_kept filed c =
    record {
      rowed = rowed_kept filed.rowed c;
      weights = filed.weights;
      sorts = filed.sorts;
      posted = filed.posted;
      descends = filed.descends;
      timed = filed.timed;
      known_are = filed.known_are;
    }

-- A chain begins at a written pair and ends at one: from m on still none stands above or below another.
pub low_kept : {m : ℕ} {rows rows' : List ℕ} → LowPairs m rows → Closes rows rows' → LowPairs m rows'
low_kept {m} {rows} {rows'} low c =
    record {
      few = low.few;
      there = rw c.size low.there;
      none =
          λ u t past h i.
          not_true_false (bit (below rows' u) t)
          (λ e.
          let w = begins ((c.closed u t h i).0 e) in
          not_both w.2 (low.none u w.0 past h w.1));
      lower = λ u t h i e. ends_low low ((c.closed u t h i).0 e);
    }

-- The first that stands above itself by the rows is the first of the table's.
pub circle_same : {tb : Table} {rows : List ℕ} → Closed tb rows
    → first 64 (λ t. bit (below rows t) t) ≡ first 64 (circle tb)
unfolding circle
circle_same {tb} {rows} closed = first_same 64 (λ t. bit (below rows t) t) (circle tb) (λ t h. closed.holds t t h h)
