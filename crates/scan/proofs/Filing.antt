-- One more record is filed: what is kept of it is added in its rows, and everything else stays as it was.
use mathlib.Core.Bool.{true, false, cond, ◌&&◌, ◌||◌, or-false}
use mathlib.Core.List.{List, []}
use mathlib.Core.Path.{◌≡◌, sym, ◌∙◌}
use Prim.Native.Nat.{ℕ, suc, ◌<◌}
use native.Mathlib.Omega.{arith}
use lib.Dec.{eqb}
use lib.ListN.{length, get_or, set, length-set}
use Rattle.std.proofs.lemmas.Grind.{common_steps}
use Rattle.meaning.specs.Below.{some}
use Rattle.meaning.specs.Bytes.{bit}
use Rattle.meaning.specs.Table.{Table, is}
use Rattle.records.specs.declared.Rec.{Rec}
use Rattle.records.specs.Record.{Reads, alone}
use Rattle.rows.specs.declared.Declared.{Declared}
use Rattle.rows.specs.Rows.{row, has, cell}
use Rattle.rows.specs.Filed.{input, kept_in, joins, declares, latest, Rowed, Paired, Cells, Timed, Known}
use Rattle.scan.specs.Scan.{Kept, TimesKept}

-- The record as it was read is kept by the rows that keep it in the table.
kept_reads : {tb : Table} {r : ℕ} {x : Rec} → Reads tb r x → (c : ℕ) → kept_in (alone x) c 0 ≡ kept_in tb c r
unfolding kept_in
kept_reads reads c = rw (reads.kind, reads.sort)

module _ {tb : Table} {r : ℕ} {x : Rec} (reads : Reads tb r x) {rows after : List ℕ} (kept : Kept x rows after) where
  added : (c i y : ℕ) → c < 8 → bit (row after c i) y ≡ (bit (row rows c i) y || (kept_in tb c r && joins tb i y r))
  added c i y h = kept.holds c i y h ∙ rw (kept_reads reads c, reads.one, reads.two)

  pub rowed_next : Rowed tb r rows → Rowed tb (suc r) after
  unfolding some
  rowed_next g = record { holds = λ c i y h k l. added c i y (omega arith) ∙ rw (g.holds c i y h k l) }

  pub paired_next : Paired tb r rows → Paired tb (suc r) after
  unfolding some kept_in
  paired_next g = record { holds = λ u t h l. added 7 u t (omega arith) ∙ rw (g.holds u t h l) }

-- WEIGHTS AND SORTS

module _ {tb : Table} {r : ℕ} {f : ℕ → ℕ} {m : List (List ℕ)} (g : Cells tb r f m) where
  -- The record is no input arc.
  pub cells_same : input tb r ≡ false → Cells tb (suc r) f m
  unfolding latest
  cells_same e = record { wide = g.wide; holds = λ p t h l. g.holds p t h l ∙ rw e }

  -- It is one, and its cell is stored.
  pub cells_more : input tb r ≡ true → tb.one r < length m → tb.two r < 64
      → Cells tb (suc r) f (set m (tb.one r) (set (get_or m (tb.one r) []) (tb.two r) (f r)))
  unfolding latest
  cells_more e there low =
      record {
        wide = λ p h. width p (omega (arith, h, length-set m o (set (get_or m o []) u (f r))));
        holds = λ p t h l. rw (e, ← g.holds p t h l) (at p t l);
      }
    where
      o : ℕ
      o = tb.one r

      u : ℕ
      u = tb.two r

      line : List ℕ
      line = set (get_or m o []) u (f r)

      width : (p : ℕ) → p < length m → length (get_or (set m o line) p []) ≡ 64
      width p h = grind (arith, common_steps, g.wide)

      at : (p t : ℕ) → t < 64 → cell (set m o line) p t ≡ cond (eqb o p && eqb u t) (f r) (cell m p t)
      at p t l = let wide = g.wide o there in grind (arith, common_steps)

-- TIMES

module _ {tb : Table} {r : ℕ} {times : List ℕ} (g : Timed tb r times) where
  -- The record declares no transition.
  pub timed_same : is tb 2 r ≡ false → Timed tb (suc r) times
  unfolding latest
  timed_same e =
      record {
        first_is = λ t h. g.first_is t h ∙ rw e;
        limit_is = λ t h. g.limit_is t h ∙ rw e;
        last_is = λ t h. g.last_is t h ∙ rw e;
      }

  -- It declares one.
  pub timed_more : {x : Rec} → Reads tb r x → is tb 2 r ≡ true → {after : List ℕ} → TimesKept x times after
      → Timed tb (suc r) after
  unfolding latest
  timed_more {x} reads e kept =
      record {
        first_is = λ t h.
            let stored = kept.holds t 0 h (omega arith) in
            let before = g.first_is t h in
            grind (arith, common_steps);
        limit_is = λ t h.
            let stored = kept.holds t 1 h (omega arith) in
            let before = g.limit_is t h in
            grind (arith, common_steps);
        last_is = λ t h.
            let stored = kept.holds t 2 h (omega arith) in
            let before = g.last_is t h in
            grind (arith, common_steps);
      }

-- WHAT IS DECLARED

module _ {tb : Table} {r : ℕ} {known : Declared} (g : Known tb r known) where
  -- The record declares neither.
  pub known_same : is tb 1 r ≡ false → is tb 2 r ≡ false → Known tb (suc r) known
  unfolding some
  known_same e f =
      record {
        places = λ p h. let before = g.places p h in grind (arith, common_steps);
        transitions = λ t h. let before = g.transitions t h in grind (arith, common_steps);
      }

  -- It declares a place.
  pub known_place : {after : Declared} {p : ℕ} → is tb 1 r ≡ true → is tb 2 r ≡ false → p ≡ tb.one r
      → ((q : ℕ) → q < 128 → has after q ≡ (has known q || eqb p q)) → after.transitions ≡ known.transitions
      → Known tb (suc r) after
  unfolding some
  known_place e f p_is gains same =
      record {
        places = λ q h. gains q h ∙ rw (e, p_is, g.places q h);
        transitions = λ t h. let before = g.transitions t h in grind (arith, common_steps);
      }

  -- It declares a transition.
  pub known_transition : {after : Declared} {t : ℕ} → is tb 1 r ≡ false → is tb 2 r ≡ true → t ≡ tb.one r
      → ((u : ℕ) → bit after.transitions u ≡ (bit known.transitions u || eqb t u))
      → ((q : ℕ) → has after q ≡ has known q)
      → Known tb (suc r) after
  unfolding some
  known_transition e f t_is gains same =
      record {
        places = λ p h. same p ∙ g.places p h ∙ rw e (sym (or-false (some r (declares tb 1 p))));
        transitions = λ u h. gains u ∙ rw (f, t_is, g.transitions u h);
      }
