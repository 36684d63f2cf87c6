-- What the pass over the records keeps: those passed have no fault and are filed, so the next one's fault is that of
-- its own columns or, where these are in order, whether an earlier one says the same.
use mathlib.Core.Bool.{Bool, true, false, cond}
use mathlib.Core.List.{List, []}
use mathlib.Core.Logic.{⊎_elim}
use mathlib.Core.Path.{◌≡◌, refl, sym, ap, ◌∙◌, subst}
use Prim.Native.Nat.{ℕ, suc, ◌+◌, ◌*◌, ◌-◌, ◌<◌}
use native.Mathlib.Nat.{not-suc-le-zero}
use native.Mathlib.Omega.{arith}
use lib.Dec.{ltb}
use lib.ListN.{length, get_or, replicate, length-replicate, get_or-replicate}
use borrow.Author.Tests.{ne_eqb}
use Rattle.std.proofs.lemmas.Grind.{common_steps}
use Rattle.meaning.specs.Below.{some}
use Rattle.meaning.specs.Bytes.{bit}
use Rattle.meaning.specs.Table.{Table}
use Rattle.meaning.specs.Answer.{refused}
use Rattle.meaning.specs.Defined.{fault, faulty}
use Rattle.meaning.proofs.Below.{last, first_is, first_none}
use Rattle.meaning.proofs.Faults.{faultless}
use Rattle.sets.proofs.Bits.{bit_zero}
use Rattle.sets.proofs.Rows.{all_zero}
use Rattle.answers.specs.declared.Refusal.{Refusal}
use Rattle.answers.specs.declared.Refusal.TheVariants as refusal
use Rattle.answers.specs.Numbered.{refusal_told}
use Rattle.records.specs.declared.Rec.{Rec}
use Rattle.records.specs.Record.{Reads, fault_of}
use Rattle.rows.specs.declared.Declared.{Declared}
use Rattle.rows.specs.Rows.{has}
use Rattle.rows.specs.Filed.{latest, link, Paired, Cells, Filed}
use Rattle.scan.specs.Scan.{again_by, Adds, SameRoom, Blank, FirstFault, AllFiled}
use Rattle.scan.proofs.Sound.{own_fault, in_order, one_low, two_low}
use Rattle.scan.proofs.Twice.{again_twice}

pub record Passed (tb : Table) (r : ℕ) (rows : List ℕ) (w s : List (List ℕ)) (heads posts times : List ℕ)
    (known : Declared) : Type 0 where
  pub before : (k : ℕ) → k < r → faulty tb k ≡ false
  pub filed : Filed tb r rows w s heads posts times known
  pub paired : Paired tb r rows
  pub heads_size : length heads ≡ 64
  pub times_size : length times ≡ 192

-- A list of zeros has 0 everywhere.
zeros : (n : ℕ) (xs : List ℕ) → xs ≡ replicate n 0 → (q : ℕ) → get_or xs q 0 ≡ 0
zeros n xs e = all_zero xs (e ∙ ap (λ (m : ℕ). replicate m 0) (sym (length-replicate {A = ℕ} n 0) ∙ ap length (sym e)))

-- Cells of which none is stored yet.
unset : (line : List ℕ) (n p t : ℕ) → get_or line t 0 ≡ 0 → get_or (get_or (replicate n line) p []) t 0 ≡ 0
unset line n p t e = grind (arith, common_steps)

blank_cells : (tb : Table) (f : ℕ → ℕ) (n : ℕ) {m : List (List ℕ)} → m ≡ replicate n (replicate 64 0) → Cells tb 0 f m
unfolding latest
blank_cells tb f n {m} e =
    record {
      wide = λ p h. grind (arith, common_steps);
      holds = λ p t h l. rw e (unset (replicate 64 0) n p t (zeros 64 _ refl t));
    }

-- Before the first record.
pub passed_none : (tb : Table) (known : Declared) {rows : List ℕ} {w s : List (List ℕ)} {heads posts times : List ℕ}
    → Blank tb rows w s heads posts times → (known.low ≡ 0) × ((known.high ≡ 0) × (known.transitions ≡ 0))
    → Passed tb 0 rows w s heads posts times known
unfolding some latest link has
passed_none tb known {rows} {w} {s} {heads} {posts} {times} blank none =
    record {
      before = λ k l. absurd (not-suc-le-zero l);
      filed =
          record {
            rowed = record { holds = λ c i y h k l. empty_row (8 * i + c) y };
            weights = blank_cells tb tb.four (length w) blank.no_weights;
            sorts = blank_cells tb tb.sort (length w) blank.no_sorts;
            posted =
                record {
                  begins = λ t h. rw blank.no_heads (get_or-replicate 64 t 0 0 h);
                  place = λ k h. absurd (not-suc-le-zero h);
                  weight = λ k h. absurd (not-suc-le-zero h);
                  goes_on = λ k h. absurd (not-suc-le-zero h);
                };
            descends =
                record {
                  down = λ k. omega (arith, all_zero posts blank.no_posts (3 * k + 2));
                  places = λ k. omega (arith, all_zero posts blank.no_posts (3 * k + 0));
                };
            timed =
                record { first_is = λ t h. no_time t 0; limit_is = λ t h. no_time t 1; last_is = λ t h. no_time t 2 };
            known_are = record { places = λ p h. none_known p; transitions = λ t h. rw none.1.1 (bit_zero t) };
          };
      paired = record { holds = λ u t h l. empty_row (8 * u + 7) t };
      heads_size = rw blank.no_heads (length-replicate {A = ℕ} 64 0);
      times_size = rw blank.no_times (length-replicate {A = ℕ} 192 0);
    }
  where
    empty_row : (q y : ℕ) → bit (get_or rows q 0) y ≡ false
    empty_row q y = ap (λ (n : ℕ). bit n y) (zeros (8 * length w) rows blank.no_rows q) ∙ bit_zero y

    no_time : (t j : ℕ) → get_or times (3 * t + j) 0 ≡ 0
    no_time t j = zeros 192 times blank.no_times (3 * t + j)

    none_known : (p : ℕ) → cond (ltb p 64) (bit known.low p) (bit known.high (p - 64)) ≡ false
    none_known p = rw (none.0, none.1.0) (grind (arith, common_steps, bit_zero))

-- A record that is passed is filed.
module _ {tb : Table} {r : ℕ} {rows : List ℕ} {w s : List (List ℕ)} {heads posts times : List ℕ} {known : Declared}
    (passed : Passed tb r rows w s heads posts times known) {x : Rec} (reads : Reads tb r x) where
  -- Where its own columns are in order, its fault is whether an earlier one says the same.
  fault_is : fault_of x ≡ 0 → fault tb r ≡ cond (again_by x known rows) 4 0
  fault_is sound =
      let shown = in_order tb r x reads sound in
      shown.1
      ∙ ap (λ (b : Bool). cond b 4 0)
      (sym
      (again_twice tb r shown.0 (λ k h. (faultless tb k (passed.before k h)).0) reads passed.filed.known_are
      passed.filed.rowed passed.paired
      (one_low shown.0) (two_low shown.0)))

  -- The pass ends at a record that has a fault.
  ends_at : r < tb.records → {e : Refusal} → ¬ (fault tb r ≡ 0) → refusal_told e ≡ refused (fault tb r) r
      → FirstFault tb e
  unfolding faulty
  ends_at here n told =
      let at = first_is tb.records (faulty tb) r here (rw (ne_eqb (fault tb r) 0 n)) passed.before in
      record { some = rw at here; told = rw at told }

  pub ends_own : r < tb.records → {e : Refusal} → ¬ (fault_of x ≡ 0) → refusal_told e ≡ refused (fault_of x) r
      → FirstFault tb e
  ends_own here n told =
      let own = own_fault tb r x reads n in
      ends_at here (λ z. n (sym own ∙ z)) (rw own told)

  module _ (sound : fault_of x ≡ 0) where
    pub ends_again : r < tb.records → again_by x known rows ≡ true → FirstFault tb (refusal.Twice r)
    ends_again here e =
        let four : fault tb r ≡ 4 = fault_is sound ∙ rw e in
        ends_at here (λ z. omega (arith, z, four)) (rw four)

    -- It goes on past a record that has none.
    pub passed_one : {after : Declared} {rows' : List ℕ} {w' s' : List (List ℕ)} {heads' posts' times' : List ℕ}
        → again_by x known rows ≡ false
        → Adds x r known after rows w s heads posts times rows' w' s' heads' posts' times'
        → SameRoom rows w s heads posts times rows' w' s' heads' posts' times'
        → Passed tb (suc r) rows' w' s' heads' posts' times' after
    unfolding faulty
    passed_one e adds room =
        record {
          before =
              λ j l. ⊎_elim (λ (z : j ≡ r). ap (faulty tb) z ∙ rw (fault_is sound, e))
              (passed.before j) (last l);
          filed = adds.filed tb reads passed.filed;
          paired = adds.paired tb reads passed.paired;
          heads_size = room.heads_same ∙ passed.heads_size;
          times_size = room.times_same ∙ passed.times_size;
        }

-- The pass is over.
pub ends_all : {tb : Table} {r : ℕ} {rows : List ℕ} {w s : List (List ℕ)} {heads posts times : List ℕ}
    {known : Declared}
    → Passed tb r rows w s heads posts times known → r ≡ tb.records → AllFiled tb known rows w s heads posts times
ends_all {tb} {r} {rows} {w} {s} {heads} {posts} {times} {known} passed e =
    let all = subst (λ (k : ℕ). Passed tb k rows w s heads posts times known) e passed in
    record {
      none = first_none tb.records (faulty tb) all.before;
      filed = all.filed;
      paired = all.paired;
      lengths = (all.heads_size, all.times_size);
    }
