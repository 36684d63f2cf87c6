-- What the filed rows of a table say of its arcs: each place and transition are joined by at most one input arc, which
-- their cells hold.
use mathlib.Core.Bool.{Bool, true, false, cond, not, ◌&&◌}
use mathlib.Core.List.{List}
use mathlib.Core.Logic.{inl, inr, ⊎_elim}
use mathlib.Core.Path.{◌≡◌, refl, sym, ap, ◌∙◌}
use Prim.Native.Nat.{ℕ, zero, suc, ◌≤◌, ◌<◌}
use native.Mathlib.Nat.{not-suc-le-zero}
use native.Mathlib.Omega.{arith}
use lib.Dec.{leb, ltb, eqb}
use borrow.Author.Tests.{eqb-true, eq-eqb, ltb-true, ltb-false, lt-leb, le-leb}
use Rattle.meaning.specs.Below.{some}
use Rattle.meaning.specs.Bytes.{bit}
use Rattle.meaning.specs.Answer.{Answer, accepted}
use Rattle.meaning.specs.Table.{Table, table, is, basic}
use Rattle.meaning.specs.Defined.{same, check}
use Rattle.meaning.specs.Says.{Same}
use Rattle.meaning.proofs.Bool.{not_both, and_left, and_right, and_true}
use Rattle.meaning.proofs.Below.{last}
use Rattle.meaning.proofs.Reflect.{refutes}
use Rattle.meaning.proofs.Same.{same_decides, of_kind, shown_arc}
use Rattle.meaning.proofs.Shows.{Shows}
use Rattle.meaning.proofs.Sound.{SoundTable, check_sound}
use Rattle.meaning.proofs.Walk.{compared}
use Rattle.rows.specs.declared.Declared.{Declared}
use Rattle.rows.specs.Rows.{inputs, takers, cell}
use Rattle.rows.specs.Filed.{input, kept_in, joins, latest, link, Filed, NetOf}

-- Where one record alone passes, it is the last that does.
pub latest_is : (n : ℕ) (p : ℕ → Bool) (f : ℕ → ℕ) (r : ℕ) → r < n → p r ≡ true → ((q : ℕ) → q < n → p q ≡ true → q ≡ r)
    → latest n p f ≡ f r
unfolding latest
latest_is zero p f r h e single = absurd (not-suc-le-zero h)
latest_is (suc n) p f r h e single = go (λ l. latest_is n p f r l e (λ q hq eq. single q (omega arith) eq)) (p n) refl
  where
    go : (r < n → latest n p f ≡ f r) → (b : Bool) → p n ≡ b → cond b (f n) (latest n p f) ≡ f r
    go below true q = ap f (single n (omega arith) q)
    go below false q = ⊎_elim (λ (z : r ≡ n). not_both e (ap p z ∙ q)) below (last h)

-- A link is to a number below n.
pub link_le : (n : ℕ) (p : ℕ → Bool) → link n p ≤ n
unfolding link
link_le zero p = omega arith
link_le (suc n) p = go (p n) (link_le n p)
  where
    go : (b : Bool) → link n p ≤ n → cond b (suc n) (link n p) ≤ suc n
    go true h = omega arith
    go false h = omega arith

-- At most is not above.
pub at_most : (a b : ℕ) → leb a b ≡ not (ltb b a)
at_most a b = go (ltb b a) refl
  where
    go : (x : Bool) → ltb b a ≡ x → leb a b ≡ not x
    go true e = lt-leb a b (ltb-true b a e)
    go false e = le-leb a b (ltb-false b a e)

-- What the tests of a record say.
pub input_test : (tb : Table) (r : ℕ) → input tb r ≡ true → (tb.kind r ≡ 3) × (tb.sort r < 3)
input_test tb r e = (
  eqb-true (tb.kind r) 3 (and_left (is tb 3 r) _ e),
  ltb-true (tb.sort r) 3 (and_right (is tb 3 r) _ e),
)

pub joins_test : (tb : Table) (p t r : ℕ) → joins tb p t r ≡ true → (tb.one r ≡ p) × (tb.two r ≡ t)
joins_test tb p t r e = (
  eqb-true (tb.one r) p (and_left (eqb (tb.one r) p) _ e),
  eqb-true (tb.two r) t (and_right (eqb (tb.one r) p) _ e),
)

pub joined : (tb : Table) (p t r : ℕ) → tb.one r ≡ p → tb.two r ≡ t → joins tb p t r ≡ true
joined tb p t r o e = and_true (eq-eqb (tb.one r) p o) (eq-eqb (tb.two r) t e)

-- All records of a table are shown, no two say the same, and they are filed.
pub record Laid (tb : Table) (rows : List ℕ) (w s : List (List ℕ)) (heads posts times : List ℕ)
    (known : Declared) : Type 0 where
  pub shown : (r : ℕ) → r < tb.records → Shows tb r
  pub single : (s r : ℕ) → s < r → r < tb.records → same tb r s ≡ false
  pub filed : Filed tb tb.records rows w s heads posts times known

-- The records of an accepted table are sound.
pub accepted_sound : (bs : List ℕ) → check bs ≡ accepted 0 → SoundTable (table bs)
accepted_sound bs e = check_sound bs (ap (λ (a : Answer). a.number) e)

-- All of them are laid.
pub accepted_laid : {bs : List ℕ} {n : ℕ} {rows : List ℕ} {w s : List (List ℕ)} {heads posts times : List ℕ}
    {known : Declared}
    → NetOf bs n rows w s heads posts times known → Laid (table bs) rows w s heads posts times known
accepted_laid {bs} net =
    let sound = accepted_sound bs net.sound in
    record { shown = sound.shown; single = sound.single; filed = net.filed }

module _ {tb : Table} {rows : List ℕ} {w s : List (List ℕ)} {heads posts times : List ℕ} {known : Declared}
    (laid : Laid tb rows w s heads posts times known) where
  -- Two records that say the same thing are one.
  pub one_record : (q r : ℕ) → q < tb.records → r < tb.records → Same tb q r → Same tb r q → q ≡ r
  one_record q r l m a b =
      elim (compared q r) [
        | inl k ↦ absurd (again q r k l m a)
        | inr (inl e) ↦ e
        | inr (inr k) ↦ absurd (again r q k m l b)
      ]
    where
      again : (q r : ℕ) → q < r → q < tb.records → r < tb.records → Same tb q r → ⊥
      again q r k l m a = refutes (same_decides tb q r (laid.shown q l) (laid.shown r m)) (laid.single q r k m) a

  -- An arc's place, transition and sort are in range.
  pub ranges : (r : ℕ) → r < tb.records → tb.kind r ≡ 3 → (tb.one r < 128) × (tb.two r < 64) × (tb.sort r ≤ 3)
  ranges r h k =
      let range = shown_arc (of_kind tb r 3 (laid.shown r h) k) in
      (omega (arith, range.0), omega (arith, range.1), range.2)

  -- No two input arcs join one place and one transition.
  pub once : (r q : ℕ) → r < tb.records → q < tb.records → input tb r ≡ true → input tb q ≡ true
      → tb.one r ≡ tb.one q
      → tb.two r ≡ tb.two q → r ≡ q
  once r q h l a b o t =
      let x = input_test tb r a in
      let y = input_test tb q b in
      one_record r q h l (Same.input_arc x.0 y.0 (omega arith) (omega arith) o t)
      (Same.input_arc y.0 x.0 (omega arith) (omega arith) (sym o) (sym t))

  -- The rows of a place have the transitions of its input arcs, and those of its basic arcs.
  pub inputs_are : (p t : ℕ) → p < 128 → t < 64
      → bit (inputs rows p) t ≡ some tb.records (λ r. input tb r && joins tb p t r)
  unfolding kept_in
  inputs_are p t h l = laid.filed.rowed.holds 0 p t (omega arith) h l

  pub takers_are : (p t : ℕ) → p < 128 → t < 64
      → bit (takers rows p) t ≡ some tb.records (λ r. basic tb r && joins tb p t r)
  unfolding kept_in
  takers_are p t h l = laid.filed.rowed.holds 1 p t (omega arith) h l

  -- The cells of an input arc's place and transition hold its weight and its sort.
  pub cell_of : (r : ℕ) → r < tb.records → input tb r ≡ true
      → (cell w (tb.one r) (tb.two r) ≡ tb.four r) × (cell s (tb.one r) (tb.two r) ≡ tb.sort r)
  cell_of r h e = (
    laid.filed.weights.holds (tb.one r) (tb.two r) low.0 low.1
        ∙ latest_is tb.records _ tb.four r h passes alone,
    laid.filed.sorts.holds (tb.one r) (tb.two r) low.0 low.1
        ∙ latest_is tb.records _ tb.sort r h passes alone,
  )
    where
      low : (tb.one r < 128) × (tb.two r < 64) × (tb.sort r ≤ 3)
      low = ranges r h (input_test tb r e).0

      passes : (input tb r && joins tb (tb.one r) (tb.two r) r) ≡ true
      passes = and_true e (joined tb (tb.one r) (tb.two r) r refl refl)

      alone : (q : ℕ) → q < tb.records → (input tb q && joins tb (tb.one r) (tb.two r) q) ≡ true → q ≡ r
      alone q l a =
          let j = joins_test tb (tb.one r) (tb.two r) q (and_right (input tb q) _ a) in
          once q r l h (and_left (input tb q) _ a) e j.0 j.1
