-- Answers 2, 3 and 4: the first record with a fault is the first of which 2, 3 or 4 is said, and its fault is the
-- lowest of them.
use mathlib.Core.Bool.{Bool, true, false, cond, not}
use mathlib.Core.List.{List, ◌∷◌}
use mathlib.Core.Path.{◌≡◌, refl, sym, ◌∙◌, subst}
use mathlib.Core.Logic.{inl, inr, ⊎_elim}
use Prim.Native.Nat.{ℕ, ◌≤◌, ◌<◌}
use native.Mathlib.Omega.{arith}
use lib.Dec.{eqb}
use Rattle.meaning.specs.Table.{Table, table}
use Rattle.meaning.specs.Answer.{Check, check_of, refused}
use Rattle.meaning.specs.Defined.{bad_kind, bad_field, same, twice, fault, faulty}
use Rattle.meaning.specs.Says.{Sort, Same, TableSays, stage, Earlier}
use Rattle.meaning.proofs.Bool.{either, not_both}
use Rattle.meaning.proofs.Below.{some_elim, none_elim}
use Rattle.meaning.proofs.Shows.{Shows, kind_decides, shows, shows_field}
use Rattle.meaning.proofs.Same.{same_decides}
use Rattle.meaning.proofs.Decide.{Found}
use Rattle.meaning.proofs.Walk.{Caught, compared, later_where, not_lower}

-- The check for 2, 3 and 4.
abbrev pub faults : Table → Check
faults tb = check_of tb.records (faulty tb) (λ r. refused (fault tb r) r)

-- A record's fault, and why.
pub data Fault (tb : Table) (r : ℕ) : ℕ → Type 0 where
  none : bad_kind tb r ≡ false → bad_field tb r ≡ false → twice tb r ≡ false → Fault tb r 0
  kind : bad_kind tb r ≡ true → Fault tb r 2
  field : bad_kind tb r ≡ false → bad_field tb r ≡ true → Fault tb r 3
  again : bad_kind tb r ≡ false → bad_field tb r ≡ false → twice tb r ≡ true → Fault tb r 4

pub fault_of : (tb : Table) (r : ℕ) → Fault tb r (fault tb r)
unfolding fault
fault_of tb r = go (bad_kind tb r) (bad_field tb r) (twice tb r) refl refl refl
  where
    go : (a b c : Bool) → bad_kind tb r ≡ a → bad_field tb r ≡ b → twice tb r ≡ c
        → Fault tb r (cond a 2 (cond b 3 (cond c 4 0)))
    go true b c e f g = Fault.kind e
    go false true c e f g = Fault.field e f
    go false false true e f g = Fault.again e f g
    go false false false e f g = Fault.none e f g

-- A record with no fault is shown, and no record before it is the same.
pub faultless : (tb : Table) (r : ℕ) → faulty tb r ≡ false → Shows tb r × (twice tb r ≡ false)
unfolding faulty
faultless tb r = go (fault tb r) (fault_of tb r)
  where
    go : (n : ℕ) → Fault tb r n → not (eqb n 0) ≡ false → Shows tb r × (twice tb r ≡ false)
    go n (Fault.none e f g) h = (shows tb r e f, g)
    go n (Fault.kind e) h = not_both refl h
    go n (Fault.field e f) h = not_both refl h
    go n (Fault.again e f g) h = not_both refl h

-- A fault is a number from 2 to 4, and all three are of one stage.
pub fault_range : (tb : Table) (r : ℕ) → faulty tb r ≡ true
    → (0 < fault tb r) × (fault tb r ≤ 4) × (stage (fault tb r) ≡ 2)
unfolding faulty stage
fault_range tb r = go (fault tb r) (fault_of tb r)
  where
    go : (n : ℕ) → Fault tb r n → not (eqb n 0) ≡ true → (0 < n) × (n ≤ 4) × (stage n ≡ 2)
    go n (Fault.none e f g) h = not_both h refl
    go n (Fault.kind e) h = (omega arith, omega arith, refl)
    go n (Fault.field e f) h = (omega arith, omega arith, refl)
    go n (Fault.again e f g) h = (omega arith, omega arith, refl)

-- A record whose sort does not exist has fault 2; one that is not shown has fault 2 or 3.
kind_fault : (tb : Table) (r : ℕ) → ¬ Sort (tb.kind r) (tb.sort r) → (faulty tb r ≡ true) × (fault tb r ≤ 2)
unfolding faulty
kind_fault tb r no_sort = go (fault tb r) (fault_of tb r)
  where
    bad : bad_kind tb r ≡ true
    bad = (kind_decides tb r).1 no_sort

    go : (n : ℕ) → Fault tb r n → (not (eqb n 0) ≡ true) × (n ≤ 2)
    go n (Fault.none e f g) = not_both bad e
    go n (Fault.kind e) = (refl, omega arith)
    go n (Fault.field e f) = not_both bad e
    go n (Fault.again e f g) = not_both bad e

field_fault : (tb : Table) (r : ℕ) → ¬ Shows tb r → (faulty tb r ≡ true) × (fault tb r ≤ 3)
unfolding faulty
field_fault tb r not_shown = go (fault tb r) (fault_of tb r)
  where
    go : (n : ℕ) → Fault tb r n → (not (eqb n 0) ≡ true) × (n ≤ 3)
    go n (Fault.none e f g) = absurd (not_shown (shows tb r e f))
    go n (Fault.kind e) = (refl, omega arith)
    go n (Fault.field e f) = (refl, omega arith)
    go n (Fault.again e f g) = absurd (not_shown (shows tb r e f))

-- A faulty record up to r, with no higher number at r itself, catches an answer at r.
caught_at : (tb : Table) (n r r' : ℕ) (cs : List Check) → stage n ≡ 2 → r < tb.records → r' ≤ r → faulty tb r' ≡ true
    → (r' ≡ r → fault tb r ≤ n) → Caught n r (faults tb ∷ cs)
caught_at tb n r r' cs s l m e f =
    let there : r' < tb.records = omega arith in
    Caught.here r' there e before
  where
    before : (j : ℕ) → j ≤ r' → faulty tb j ≡ true → ¬ Earlier n r (fault tb j) j
    before j h b =
        let here : stage (fault tb j) ≡ stage n = (fault_range tb j b).2 ∙ sym s in
        elim (compared j r) [
          | inl k ↦ later_where here k
          | inr (inl q) ↦ not_lower here (omega arith) (subst (λ (x : ℕ). fault tb x ≤ n) (sym q) (f (omega arith)))
          | inr (inr k) ↦ absurd (omega arith)
        ]

-- What 2, 3 and 4 say of record r is caught.
pub kind_caught : (tb : Table) (r : ℕ) (cs : List Check) → r < tb.records → ¬ Sort (tb.kind r) (tb.sort r)
    → Caught 2 r (faults tb ∷ cs)
unfolding stage
kind_caught tb r cs l n =
    let f = kind_fault tb r n in
    caught_at tb 2 r r cs refl l (omega arith) f.0 (λ e. f.1)

pub field_caught : (tb : Table) (r : ℕ) (cs : List Check) → r < tb.records → ¬ Shows tb r → Caught 3 r (faults tb ∷ cs)
unfolding stage
field_caught tb r cs l n =
    let f = field_fault tb r n in
    caught_at tb 3 r r cs refl l (omega arith) f.0 (λ e. f.1)

pub again_caught : (tb : Table) (s r : ℕ) (cs : List Check) → s < r → r < tb.records → Same tb s r
    → Caught 4 r (faults tb ∷ cs)
unfolding stage twice
again_caught tb s r cs m l q =
    ⊎_elim (λ (b : faulty tb r ≡ true). caught_at tb 4 r r cs refl l (omega arith) b (λ e. (fault_range tb r b).1))
    (λ (b : faulty tb r ≡ false).
    ⊎_elim (λ (c : faulty tb s ≡ true). caught_at tb 4 r s cs refl l (omega arith) c (λ e. absurd (omega arith)))
    (λ (c : faulty tb s ≡ false).
    let fine_r = faultless tb r b in
    let fine_s = faultless tb s c in
    not_both ((same_decides tb s r fine_s.0 fine_r.0).1 q) (none_elim r (same tb r) fine_r.1 s m))
    (either (faulty tb s)))
    (either (faulty tb r))

-- What the check answers is said.
pub fault_said : (bs : List ℕ) (r : ℕ) → Found (faults (table bs)) r → TableSays bs (fault (table bs) r) r
unfolding twice faulty
fault_said bs r h = go (fault (table bs) r) (fault_of (table bs) r) h.1
  where
    go : (n : ℕ) → Fault (table bs) r n → not (eqb n 0) ≡ true → TableSays bs n r
    go n (Fault.none e f g) b = not_both b refl
    go n (Fault.kind e) b = TableSays.kind h.0 ((kind_decides (table bs) r).0 e)
    go n (Fault.field e f) b = TableSays.field h.0 (λ s. not_both f (shows_field (table bs) r s))
    go n (Fault.again e f g) b =
        let w = some_elim r (same (table bs) r) g in
        TableSays.twice w.0 w.1 h.0
        ((same_decides (table bs) w.0 r (faultless (table bs) w.0 (h.2 w.0 w.1)).0 (shows (table bs) r e f)).0 w.2)
