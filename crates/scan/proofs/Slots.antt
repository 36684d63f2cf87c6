-- A record is entered in the row of its own that each number has: eight rows a number, so the number and the row tell
-- the slot.
use mathlib.Core.Bool.{Bool, false, ◌&&◌, ◌||◌, or-false}
use mathlib.Core.List.{List}
use mathlib.Core.Path.{◌≡◌, sym, ap, ◌∙◌}
use Prim.Native.Nat.{ℕ, zero, suc, ◌+◌, ◌*◌, ◌<◌}
use native.Mathlib.Omega.{arith}
use lib.Dec.{eqb}
use Rattle.std.proofs.lemmas.Grind.{common_steps}
use Rattle.meaning.specs.Bytes.{bit}
use Rattle.records.specs.declared.Rec.{Rec}
use Rattle.records.specs.Record.{alone}
use Rattle.rows.specs.Rows.{row}
use Rattle.rows.specs.Filed.{kept_in, joins}
use Rattle.scan.specs.Scan.{Entered, Kept}

-- Two slots are one exactly if their rows and their numbers are.
pub slot : (a i d c : ℕ) → d < 8 → c < 8 → eqb (8 * a + d) (8 * i + c) ≡ (eqb d c && eqb a i)
slot a i d c h k = grind (arith, common_steps)

-- What holds of each of the eight rows holds of a row below 8.
pub by_row : (P : ℕ → Type 0) → P 0 → P 1 → P 2 → P 3 → P 4 → P 5 → P 6 → P 7 → (c : ℕ) → c < 8 → P c
by_row P a b c d e f g h zero l = a
by_row P a b c d e f g h (suc zero) l = b
by_row P a b c d e f g h (suc (suc zero)) l = c
by_row P a b c d e f g h (suc (suc (suc zero))) l = d
by_row P a b c d e f g h (suc (suc (suc (suc zero)))) l = e
by_row P a b c d e f g h (suc (suc (suc (suc (suc zero))))) l = f
by_row P a b c d e f g h (suc (suc (suc (suc (suc (suc zero)))))) l = g
by_row P a b c d e f g h (suc (suc (suc (suc (suc (suc (suc zero))))))) l = h
by_row P a b c d e f g h (suc (suc (suc (suc (suc (suc (suc (suc n)))))))) l = absurd (omega arith)

module _ (x : Rec) (rows : List ℕ) where
  -- Row d of the record's number has its byte 2.
  entered_at : {q y d : ℕ} {after : List ℕ} → Entered rows q y after → q ≡ 8 * x.one + d → y ≡ x.two → d < 8
      → (c i j : ℕ) → c < 8
      → bit (row after c i) j ≡ (bit (row rows c i) j || (eqb d c && joins (alone x) i j 0))
  entered_at {q} {y} {d} {after} entered q_is y_is low c i j h =
      entered.holds (8 * i + c) j
      ∙ rw (q_is, y_is, slot x.one i d c low h) (ap (λ (b : Bool). bit (row rows c i) j || b)
      (sym (and_three (eqb d c) (eqb x.one i) (eqb x.two j))))
    where
      and_three : (a b c : Bool) → (a && (b && c)) ≡ ((a && b) && c)
      and_three a b c = grind (arith, common_steps)

  -- It is kept by one row, or by two; or by none.
  pub kept_one : {q y d : ℕ} {after : List ℕ} → Entered rows q y after → q ≡ 8 * x.one + d → y ≡ x.two → d < 8
      → ((c : ℕ) → c < 8 → kept_in (alone x) c 0 ≡ eqb d c) → Kept x rows after
  kept_one {q} {y} {d} {after} entered q_is y_is low own =
      record { holds = λ c i j h. entered_at entered q_is y_is low c i j h ∙ rw (own c h) }

  pub kept_none : ((c : ℕ) → c < 8 → kept_in (alone x) c 0 ≡ false) → Kept x rows rows
  kept_none own = record { holds = λ c i j h. rw (own c h) (sym (or-false (bit (row rows c i) j))) }

pub kept_two : (x : Rec) (rows : List ℕ) {q y d : ℕ} {mid : List ℕ} → Entered rows q y mid → q ≡ 8 * x.one + d
    → y ≡ x.two → d < 8
    → {q' y' d' : ℕ} {after : List ℕ} → Entered mid q' y' after → q' ≡ 8 * x.one + d' → y' ≡ x.two → d' < 8
    → ((c : ℕ) → c < 8 → kept_in (alone x) c 0 ≡ (eqb d c || eqb d' c)) → Kept x rows after
kept_two x rows {q} {y} {d} {mid} entered q_is y_is low {q'} {y'} {d'} {after} entered' q_is' y_is' low' own =
    record {
      holds = λ c i j h.
          entered_at x mid entered' q_is' y_is' low' c i j h
          ∙ ap (λ (b : Bool). b || (eqb d' c && joins (alone x) i j 0))
          (entered_at x rows entered q_is y_is low c i j h)
          ∙ rw (own c h) (either (bit (row rows c i) j) (eqb d c) (eqb d' c) (joins (alone x) i j 0));
    }
  where
    either : (b e f g : Bool) → ((b || (e && g)) || (f && g)) ≡ (b || ((e || f) && g))
    either b e f g = grind (arith, common_steps)
