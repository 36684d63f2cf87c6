-- What each stage finds is what the meaning's check finds: the rows say what the table says, so the first of the one is
-- the first of the other.
use mathlib.Core.Bool.{Bool, true, false, cond, not}
use mathlib.Core.List.{List}
use mathlib.Core.Path.{◌≡◌, refl, sym, ap, ◌∙◌}
use Prim.Native.Nat.{ℕ, zero, suc, ◌*◌, ◌≤◌, ◌<◌}
use native.Mathlib.Omega.{arith}
use lib.ListN.{length, replicate, length-replicate}
use borrow.Author.Tests.{eqb-true, eq-eqb}
use Rattle.std.proofs.Common.{Err}
use Rattle.std.proofs.lemmas.Grind.{common_steps}
use Rattle.meaning.specs.Below.{some, first}
use Rattle.meaning.specs.Bytes.{bit}
use Rattle.meaning.specs.Table.{Table, table, is}
use Rattle.meaning.specs.Answer.{refused}
use Rattle.meaning.specs.Defined.{bad_length, faulty, unknown, empty, isolated, check}
use Rattle.meaning.proofs.Bool.{and_left, and_true, same_test, not_both}
use Rattle.meaning.proofs.Reflect.{not_true_false}
use Rattle.meaning.proofs.Below.{some_intro, some_elim, first_le, first_before, first_same, first_none}
use Rattle.meaning.proofs.Same.{of_kind, shown_transition}
use Rattle.meaning.proofs.Faults.{faultless}
use Rattle.rows.specs.declared.Declared.{Declared}
use Rattle.rows.specs.Extent.{Roomy}
use Rattle.rows.specs.Rows.{has}
use Rattle.rows.specs.Filed.{declares, Paired, Filed}
use Rattle.rows.proofs.Shown.{one_low}
use Rattle.named.specs.Named.{unknown_in, unknown_at, isolated_in}
use Rattle.named.proofs.Says.{Whole, unknown_same, shows_there, isolated_same}
use Rattle.answers.specs.declared.Refusal.{Refusal}
use Rattle.answers.specs.Numbered.{refusal_told}
use Rattle.scan.specs.Scan.{FirstFault, AllFiled}
use Rattle.judge.specs.Judged.{unknown_first, none_of, JudgeAsks, Judges}
use Rattle.judge.proofs.Stages.{from_5, from_6, from_7, from_8, Left, past_1, stops, passes}

-- A search that comes to its end.
pub reached : (n : ℕ) (p : ℕ → Bool) {k : ℕ} → k ≡ first n p → n ≤ k → first n p ≡ n
reached n p e l = omega (arith, first_le n p)

-- A table whose length is right has at most 8,192 bytes.
pub few_bytes : (bs : List ℕ) → bad_length bs ≡ false → length bs ≤ 8192
unfolding bad_length
few_bytes bs e = grind (arith, common_steps)

-- A refusal says nothing of the rows.
pub refusal : {bs : List ℕ} {n : ℕ} {e : Refusal} {rows : List ℕ} {w s : List (List ℕ)} {heads posts times : List ℕ}
    → refusal_told e ≡ check bs → Judges bs n (Err e) rows w s heads posts times
refusal e = record { answer = e; net_of = tt; lengths = tt }

-- There are rows and sorts for n numbers.
module _ {tb : Table} {n : ℕ} {rows : List ℕ} {w s : List (List ℕ)} {heads posts times : List ℕ}
    (asks : JudgeAsks tb n rows w s heads posts times) where
  pub rows_there : 8 * n ≤ length rows
  rows_there = omega (arith, asks.enough, ap length asks.blank.no_rows, length-replicate {A = ℕ} (8 * length w) 0)

  pub sorts_there : n ≤ length s
  sorts_there =
      omega
      (arith, asks.enough, ap length asks.blank.no_sorts, length-replicate (length w) (replicate {A = ℕ} 64 0))

-- Behind 2 to 4: no record has a fault, and all are filed; no byte 1 is at n or past it.
pub record Faultless (bs : List ℕ) (n : ℕ) (known : Declared) (rows : List ℕ) (w s : List (List ℕ))
    (heads posts times : List ℕ) : Type 0 where
  pub left : Left bs (from_5 bs)
  pub fine : (r : ℕ) → r < (table bs).records → faulty (table bs) r ≡ false
  pub few : n ≤ 128
  pub below : (r : ℕ) → r < (table bs).records → (table bs).one r < n
  pub filed : Filed (table bs) (table bs).records rows w s heads posts times known
  pub paired : Paired (table bs) (table bs).records rows

-- The answers 2, 3 and 4: the pass stops at the first record that meets one, or comes to the end.
module _ (bs : List ℕ) (right : bad_length bs ≡ false) where
  pub verdict_2 : {e : Refusal} → FirstFault (table bs) e → refusal_told e ≡ check bs
  verdict_2 fault = fault.told ∙ stops bs _ (from_5 bs) (past_1 bs right) fault.some refl

  pub no_fault : {n : ℕ} {known : Declared} {rows : List ℕ} {w s : List (List ℕ)} {heads posts times : List ℕ}
      → n ≤ 128 → Roomy (table bs) n → AllFiled (table bs) known rows w s heads posts times
      → Faultless bs n known rows w s heads posts times
  no_fault few roomy all =
      record {
        left = passes bs _ (from_5 bs) (past_1 bs right) all.none;
        fine = fine;
        few = few;
        below = λ r h. roomy r h (one_low (faultless (table bs) r (fine r h)).0);
        filed = all.filed;
        paired = all.paired;
      }
    where
      fine : (r : ℕ) → r < (table bs).records → faulty (table bs) r ≡ false
      fine r h = first_before (table bs).records (faulty (table bs)) r (rw all.none h)

  -- The same by all that judge asks.
  pub no_fault_asked : {n : ℕ} {known : Declared} {rows rows' : List ℕ} {w s w' s' : List (List ℕ)}
      {heads posts times heads' posts' times' : List ℕ}
      → JudgeAsks (table bs) n rows w s heads posts times → AllFiled (table bs) known rows' w' s' heads' posts' times'
      → Faultless bs n known rows' w' s' heads' posts' times'
  no_fault_asked asks = no_fault asks.few asks.roomy

module _ {bs : List ℕ} {n : ℕ} {known : Declared} {rows : List ℕ} {w s : List (List ℕ)} {heads posts times : List ℕ}
    (f : Faultless bs n known rows w s heads posts times) where
  pub whole : Whole (table bs) n rows known
  whole =
      record {
        shown = λ r h. (faultless (table bs) r (f.fine r h)).0;
        few = f.few;
        below = f.below;
        rowed = f.filed.rowed;
        paired = f.paired;
        known_are = f.filed.known_are;
      }

  -- Answer 5: the rows show an unknown where a record names one.
  unknowns : unknown_first (table bs) rows known n ≡ first (table bs).records (unknown (table bs))
  unfolding unknown_first
  unknowns = go (unknown_in rows known n) refl
    where
      go : (b : Bool) → unknown_in rows known n ≡ b
          → cond b (first (table bs).records (unknown_at (table bs) known)) (table bs).records
          ≡ first (table bs).records (unknown (table bs))
      go true e = first_same (table bs).records _ _ (unknown_same whole)
      go false e =
          sym
          (first_none (table bs).records (unknown_at (table bs) known)
          (λ r h. not_true_false (unknown_at (table bs) known r) (λ q. not_both (shows_there whole r h q) e)))
          ∙ first_same (table bs).records _ _ (unknown_same whole)

  pub verdict_5 : {u : ℕ} → (u < (table bs).records) × (unknown_first (table bs) rows known n ≡ u)
      → refused 5 u ≡ check bs
  verdict_5 found = stops bs _ (from_6 bs) f.left found.0 (sym unknowns ∙ found.1)

  module _ (none : unknown_first (table bs) rows known n ≡ (table bs).records) where
    pub none_unknown : (r : ℕ) → r < (table bs).records → unknown (table bs) r ≡ false
    none_unknown r l = first_before (table bs).records (unknown (table bs)) r (rw (← unknowns, none) l)

    pub past_5 : Left bs (from_6 bs)
    past_5 = passes bs _ (from_6 bs) f.left (sym unknowns ∙ none)

  -- Answer 6: something is declared exactly if some record declares it.
  some_places : some 128 (has known) ≡ some (table bs).records (is (table bs) 1)
  some_places =
      same_test _ _
      (λ e.
      let p = some_elim 128 (has known) e in
      let known_by_lem = sym (f.filed.known_are.places p.0 p.1) ∙ p.2 in
      let r = some_elim (table bs).records (declares (table bs) 1 p.0) known_by_lem in
      some_intro (table bs).records (is (table bs) 1) r.0 r.1 (and_left (is (table bs) 1 r.0) _ r.2))
      (λ e.
      let r = some_elim (table bs).records (is (table bs) 1) e in
      let low : (table bs).one r.0 < 128 = omega (arith, f.below r.0 r.1, f.few) in
      some_intro 128 (has known) ((table bs).one r.0) low
      (f.filed.known_are.places _ low
      ∙ some_intro (table bs).records (declares (table bs) 1 ((table bs).one r.0)) r.0 r.1
      (and_true r.2 (eq-eqb ((table bs).one r.0) _ refl))))

  some_transitions : some 64 (bit known.transitions) ≡ some (table bs).records (is (table bs) 2)
  some_transitions =
      same_test _ _
      (λ e.
      let t = some_elim 64 (bit known.transitions) e in
      let known_by_lem = sym (f.filed.known_are.transitions t.0 t.1) ∙ t.2 in
      let r = some_elim (table bs).records (declares (table bs) 2 t.0) known_by_lem in
      some_intro (table bs).records (is (table bs) 2) r.0 r.1 (and_left (is (table bs) 2 r.0) _ r.2))
      (λ e.
      let r = some_elim (table bs).records (is (table bs) 2) e in
      let kind = eqb-true ((table bs).kind r.0) 2 r.2 in
      let range = shown_transition (of_kind (table bs) r.0 2 (whole.shown r.0 r.1) kind) in
      let low : (table bs).one r.0 < 64 = omega (arith, range.0) in
      some_intro 64 (bit known.transitions) ((table bs).one r.0) low
      (f.filed.known_are.transitions _ low
      ∙ some_intro (table bs).records (declares (table bs) 2 ((table bs).one r.0)) r.0 r.1
      (and_true r.2 (eq-eqb ((table bs).one r.0) _ refl))))

  none_same : (k : ℕ) → k < 2 → none_of known k ≡ empty (table bs) k
  unfolding none_of empty
  none_same zero h = ap not some_places
  none_same (suc zero) h = ap not some_transitions
  none_same (suc (suc k)) h = absurd (omega arith)

  none_is : first 2 (none_of known) ≡ first 2 (empty (table bs))
  none_is = first_same 2 _ _ none_same

  module _ (left : Left bs (from_6 bs)) where
    pub verdict_6 : first 2 (none_of known) < 2 → refused 6 (first 2 (none_of known)) ≡ check bs
    verdict_6 found = stops bs _ (from_7 bs) left found (sym none_is)

    pub past_6 : first 2 (none_of known) ≡ 2 → Left bs (from_7 bs)
    past_6 none = passes bs _ (from_7 bs) left (sym none_is ∙ none)

  -- Answer 7: who is isolated by the rows is so by the table.
  isolated_is : first 192 (isolated_in rows known) ≡ first 192 (isolated (table bs))
  isolated_is = first_same 192 _ _ (isolated_same whole)

  module _ (left : Left bs (from_7 bs)) where
    pub verdict_7 : {k : ℕ} → (k < 192) × (first 192 (isolated_in rows known) ≡ k) → refused 7 k ≡ check bs
    verdict_7 found = stops bs _ (from_8 bs) left found.0 (sym isolated_is ∙ found.1)

    pub past_7 : first 192 (isolated_in rows known) ≡ 192 → Left bs (from_8 bs)
    past_7 none = passes bs _ (from_8 bs) left (sym isolated_is ∙ none)
