-- What the rows say of actions, functions and starved transitions is what the records say: a bit of a row is a record
-- that is kept there.
use mathlib.Core.Bool.{Bool, true, false, cond, not, ◌&&◌, ◌||◌, and-true, and-false}
use mathlib.Core.List.{List}
use mathlib.Core.Path.{◌≡◌, refl, sym, ap, ap₂, ◌∙◌}
use Prim.Native.Nat.{ℕ, ◌-◌, ◌%◌, ◌≤◌, ◌<◌}
use native.Mathlib.Omega.{arith}
use lib.Dec.{ltb, eqb}
use lib.ListN.{length}
use borrow.Author.Tests.{eqb-true, eq-eqb, ltb-false, lt-ltb}
use Rattle.meaning.specs.Below.{some}
use Rattle.std.proofs.lemmas.Bool.Decides.{nat_tests}
use Rattle.meaning.specs.Bytes.{bit}
use Rattle.meaning.specs.Table.{Table, table, is, basic, test}
use Rattle.meaning.specs.Answer.{Answer, accepted}
use Rattle.meaning.specs.Says.{Shown}
use Rattle.meaning.specs.Defined.{bad_length, table_checks, check}
use Rattle.meaning.proofs.Decide.{accepted_clean}
use Rattle.meaning.proofs.Tables.{table_refusing}
use Rattle.meaning.proofs.Accepted.{accepted_well}
use Rattle.meaning.specs.Cycle.{active, executed, starved, withdrawn}
use Rattle.meaning.proofs.Bool.{and_left, and_right, and_true as both, or_false_right, same_test}
use Rattle.meaning.proofs.Below.{some_intro, some_elim, some_same}
use Rattle.meaning.proofs.Reflect.{not_true_false}
use Rattle.meaning.proofs.Same.{of_kind}
use Rattle.meaning.proofs.Sound.{SoundTable}
use Rattle.sets.proofs.Bits.{bit_zero}
use Rattle.rows.specs.declared.Declared.{Declared}
use Rattle.rows.specs.Rows.{row, inputs, takers, actions, functions, cell}
use Rattle.rows.specs.Filed.{input, kept_in, joins, NetOf}
use Rattle.rows.proofs.Shown.{transition_low}
use Rattle.levels.specs.Levels.{lacks}
use Rattle.rows.proofs.Arcs.{accepted_sound, accepted_laid, joins_test, input_test, ranges, cell_of, takers_are}

module _ {bs : List ℕ} {n : ℕ} {rows : List ℕ} {w s : List (List ℕ)} {heads posts times : List ℕ} {known : Declared}
    (net : NetOf bs n rows w s heads posts times known) where
  abbrev tb : Table
  tb = table bs

  sound : SoundTable tb
  sound = accepted_sound bs net.sound

  -- A number from n on has no bit in any row.
  pub no_bit : (c i y : ℕ) → c < 7 → n ≤ i → i < 128 → y < 64 → bit (row rows c i) y ≡ false
  no_bit c i y low past h l =
      net.filed.rowed.holds c i y low h l
      ∙ not_true_false _
      (λ e.
      let k = some_elim tb.records (λ k. kept_in tb c k && joins tb i y k) e in
      let j = joins_test tb i y k.0 (and_right (kept_in tb c k.0) _ k.2) in
      omega (arith, net.below k.0 k.1, j.0, past))

  -- Some number below m has y in its row and passes exactly if some record that is kept there does.
  by_records : (c m y : ℕ) → c < 7 → m ≤ 128 → y < 64
      → ((r : ℕ) → r < tb.records → kept_in tb c r ≡ true → tb.one r < m) → (g : ℕ → Bool)
      → some m (λ i. bit (row rows c i) y && g i)
      ≡ some tb.records (λ r. kept_in tb c r && eqb (tb.two r) y && g (tb.one r))
  by_records c m y low few l inside g =
      same_test _ _
      (λ e.
      let i = some_elim m (λ i. bit (row rows c i) y && g i) e in
      let k =
      some_elim tb.records (λ k. kept_in tb c k && joins tb i.0 y k)
      (sym (net.filed.rowed.holds c i.0 y low (omega (arith, i.1, few)) l)
      ∙ and_left (bit (row rows c i.0) y) (g i.0) i.2) in
      let j = joins_test tb i.0 y k.0 (and_right (kept_in tb c k.0) _ k.2) in
      some_intro tb.records (λ r. kept_in tb c r && eqb (tb.two r) y && g (tb.one r)) k.0 k.1
      (both (both (and_left (kept_in tb c k.0) _ k.2) (eq-eqb _ _ j.1))
      (ap g j.0 ∙ and_right (bit (row rows c i.0) y) (g i.0) i.2)))
      (λ e.
      let k = some_elim tb.records (λ r. kept_in tb c r && eqb (tb.two r) y && g (tb.one r)) e in
      let front = and_left (kept_in tb c k.0 && eqb (tb.two k.0) y) (g (tb.one k.0)) k.2 in
      let kept = and_left (kept_in tb c k.0) (eqb (tb.two k.0) y) front in
      let here = inside k.0 k.1 kept in
      some_intro m (λ i. bit (row rows c i) y && g i) (tb.one k.0) here
      (both
      (net.filed.rowed.holds c (tb.one k.0) y low (omega (arith, here, few)) l
      ∙ some_intro tb.records (λ r. kept_in tb c r && joins tb (tb.one k.0) y r) k.0 k.1
      (both kept (both (eq-eqb (tb.one k.0) _ refl)
      (and_right (kept_in tb c k.0) (eqb (tb.two k.0) y) front))))
      (and_right (kept_in tb c k.0 && eqb (tb.two k.0) y) (g (tb.one k.0)) k.2)))

  -- ACTIONS

  pub actions_is : (m : ℕ → ℕ) (k : ℕ) → k < 64 → some 128 (λ p. bit (actions rows p) k && ltb 0 (m p)) ≡ active tb m k
  unfolding active kept_in
  actions_is m k l =
      by_records 3 128 k (omega arith) (omega arith) l (λ r h e. omega (arith, net.below r h, net.few))
      (λ p. ltb 0 (m p))

  -- What a place activates, by its tokens.
  pub active_bit : (v k : ℕ) (p : ℕ) {set : ℕ} → set ≡ cond (eqb v 0) 0 (actions rows p)
      → bit set k ≡ (bit (actions rows p) k && ltb 0 v)
  active_bit v k p {set} e = grind (arith, nat_tests, bit_zero k)

  -- FUNCTIONS

  pub functions_is : (F : ℕ → Bool) (k : ℕ) → k < 64 → some 64 (λ t. F t && bit (functions rows t) k) ≡ executed tb F k
  unfolding executed kept_in
  functions_is F k l =
      some_same 64 _ _ (λ t h. grind arith)
      ∙ by_records 6 64 k (omega arith) (omega arith) l
      (λ r h e. transition_low (of_kind tb r 7 (sound.shown r h) (eqb-true (tb.kind r) 7 e)) refl) F

  -- STARVED TRANSITIONS

  -- An input arc that is no inhibitor is a basic or a test arc.
  asking : (r : ℕ) → (input tb r && not (eqb (tb.sort r) 2)) ≡ (basic tb r || test tb r)
  asking r = grind (arith, nat_tests)

  pub starved_is : (m : ℕ → ℕ) (F : ℕ → Bool) (taken : ℕ → ℕ) → ((p : ℕ) → p < 128 → taken p ≡ withdrawn tb F p)
      → (t : ℕ) → t < 64
      → some 128 (λ p. ltb 0 (taken p) && (bit (inputs rows p) t && lacks (cell w p t) (cell s p t) (m p - taken p)))
      ≡ starved tb m F t
  unfolding starved kept_in
  starved_is m F taken taken_is t l =
      some_same 128 _ _ (λ p h. grind arith)
      ∙ by_records 0 128 t (omega arith) (omega arith) l (λ r h e. omega (arith, net.below r h, net.few)) g
      ∙ some_same tb.records _ _ (λ r h. arc r h (input tb r) (eqb (tb.two r) t) refl refl)
    where
      g : ℕ → Bool
      g p = ltb 0 (taken p) && lacks (cell w p t) (cell s p t) (m p - taken p)

      -- A test that fails leaves nothing of an arc, and one that passes has the arc's weight and sort in its cells.
      arc : (r : ℕ) → r < tb.records → (a b : Bool) → input tb r ≡ a → eqb (tb.two r) t ≡ b
          → (a && b && g (tb.one r))
          ≡ ((basic tb r || test tb r) && b && (ltb 0 (withdrawn tb F (tb.one r))
          && ltb (m (tb.one r) - withdrawn tb F (tb.one r)) (tb.four r)))
      arc r h true true x y =
          let c = cell_of (accepted_laid net) r h x in
          let low = ranges (accepted_laid net) r h (input_test tb r x).0 in
          let two = eqb-true (tb.two r) t y in
          rw (← taken_is (tb.one r) low.0, ← two, c.0, c.1, ← asking r, x, and-true (not (eqb (tb.sort r) 2)))
          (grind arith)
      arc r h true false x y = rw (and-false (basic tb r || test tb r))
      arc r h false b x y = grind (arith, x, asking r)

  -- Whoever takes from a place takes something.
  pub weighty : (p t : ℕ) → p < 128 → t < 64 → bit (takers rows p) t ≡ true → 1 ≤ cell w p t
  weighty p t h l e =
      let k =
      some_elim tb.records (λ r. basic tb r && joins tb p t r)
      (sym (takers_are (accepted_laid net) p t h l) ∙ e) in
      let arc = and_left (basic tb k.0) (joins tb p t k.0) k.2 in
      let j = joins_test tb p t k.0 (and_right (basic tb k.0) (joins tb p t k.0) k.2) in
      let kind = eqb-true (tb.kind k.0) 3 (and_left (is tb 3 k.0) _ arc) in
      let sort = eqb-true (tb.sort k.0) 0 (and_right (is tb 3 k.0) _ arc) in
      let weight : cell w p t ≡ tb.four k.0 =
      ap₂ (cell w) (sym j.0) (sym j.1) ∙ (cell_of (accepted_laid net) k.0 k.1
      (both (eq-eqb (tb.kind k.0) 3 kind) (lt-ltb (tb.sort k.0) 3 (omega (arith, sort))))).0 in
      omega (arith, weight, (accepted_well bs net.sound).arc_weight k.0 k.1 kind)

-- At most 1,024 records, and no weight above 65,535.
pub few_records : (bs : List ℕ) → check bs ≡ accepted 0 → (table bs).records ≤ 1024
unfolding table check table_checks bad_length
few_records bs e =
    let short =
    (accepted_clean (table_checks bs) (accepted 0) (table_refusing bs) (ap (λ (a : Answer). a.number) e)).0 0
    (omega arith) in
    omega (
      arith,
      ltb-false 8192 (length bs) (or_false_right (not (eqb (length bs % 8) 0)) (ltb 8192 (length bs))
          short),
    )

pub weight_low : (bs : List ℕ) → check bs ≡ accepted 0 → (r : ℕ) → r < (table bs).records → (table bs).kind r ≡ 3
    → (table bs).four r ≤ 65535
weight_low bs e r h kind = shown_weight (of_kind (table bs) r 3 ((accepted_sound bs e).shown r h) kind)
  where
    shown_weight : {o t s f x : ℕ} → Shown 3 o t s f x → f ≤ 65535
    shown_weight (Shown.arc a b c d e) = e
