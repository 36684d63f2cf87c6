-- A record's columns are the bytes from 8r on, since the table is cut into pieces of eight; past the end there is no
-- piece and all is 0.
use mathlib.Core.List.{List, []}
use mathlib.Core.Path.{◌≡◌, refl, sym, ap, ap₂, ◌∙◌}
use Prim.Native.Nat.{ℕ, zero, suc, ◌+◌, ◌*◌, ◌/◌, ◌≤◌, ◌<◌}
use native.Mathlib.Nat.{add-zero}
use native.Mathlib.Omega.{arith}
use lib.ListN.{length, get_or, drop, get_or-eq_default}
use Rattle.meaning.specs.Bytes.{cut}
use Rattle.meaning.specs.Table.{Table, table}
use Rattle.meaning.proofs.Bytes.{cut_read}
use Rattle.records.specs.declared.Rec.{Rec}
use Rattle.records.specs.Record.{Reads}

-- The pieces are as many as are asked for.
pub cut_length : (w n : ℕ) (bs : List ℕ) → length (cut w n bs) ≡ n
unfolding cut
cut_length w zero bs = refl
cut_length w (suc n) bs = ap suc (cut_length w n (drop w bs))

-- Within the table: the bytes.
pub inside : (bs : List ℕ) (r : ℕ) → r < length bs / 8
    → Reads (table bs) r
    (record {
      kind = get_or bs (8 * r) 0;
      one = get_or bs (8 * r + 1) 0;
      two = get_or bs (8 * r + 2) 0;
      sort = get_or bs (8 * r + 3) 0;
      four = get_or bs (8 * r + 4) 0 + 256 * get_or bs (8 * r + 4 + 1) 0;
      six = get_or bs (8 * r + 6) 0 + 256 * get_or bs (8 * r + 6 + 1) 0;
    })
unfolding table
inside bs r h =
    record {
      kind = ap (λ (i : ℕ). get_or bs i 0) (sym (add-zero (8 * r))) ∙ byte 0 (omega arith);
      one = byte 1 (omega arith);
      two = byte 2 (omega arith);
      sort = byte 3 (omega arith);
      four = ap₂ (λ (a b : ℕ). a + 256 * b) (byte 4 (omega arith)) (next 4 (omega arith));
      six = ap₂ (λ (a b : ℕ). a + 256 * b) (byte 6 (omega arith)) (next 6 (omega arith));
    }
  where
    byte : (k : ℕ) → k < 8 → get_or bs (8 * r + k) 0 ≡ get_or (get_or (cut 8 (length bs / 8) bs) r []) k 0
    byte k l = sym (cut_read 8 (length bs / 8) r k bs h l)

    next : (k : ℕ) → suc k < 8 → get_or bs (8 * r + k + 1) 0 ≡ get_or (get_or (cut 8 (length bs / 8) bs) r []) (suc k) 0
    next k l =
        let same : 8 * r + k + 1 ≡ 8 * r + suc k = omega arith in
        ap (λ (i : ℕ). get_or bs i 0) same ∙ byte (suc k) l

-- Past its end: zeros.
pub outside : (bs : List ℕ) (r : ℕ) → length bs / 8 ≤ r
    → Reads (table bs) r (record { kind = 0; one = 0; two = 0; sort = 0; four = 0; six = 0 })
unfolding table
outside bs r h =
    record {
      kind = byte 0;
      one = byte 1;
      two = byte 2;
      sort = byte 3;
      four = ap₂ (λ (a b : ℕ). a + 256 * b) (byte 4) (byte 5);
      six = ap₂ (λ (a b : ℕ). a + 256 * b) (byte 6) (byte 7);
    }
  where
    none : [] ≡ get_or (cut 8 (length bs / 8) bs) r []
    none = sym (get_or-eq_default (cut 8 (length bs / 8) bs) [] (rw (cut_length 8 (length bs / 8) bs) h))

    byte : (k : ℕ) → 0 ≡ get_or (get_or (cut 8 (length bs / 8) bs) r []) k 0
    byte k = ap (λ (l : List ℕ). get_or l k 0) none

-- The record whose columns equal those of a record that reads r reads r too.
pub reads_same : (tb : Table) (r : ℕ) (x y : Rec) → Reads tb r y → x.kind ≡ y.kind → x.one ≡ y.one → x.two ≡ y.two
    → x.sort ≡ y.sort → x.four ≡ y.four → x.six ≡ y.six → Reads tb r x
reads_same tb r x y h k o t s f w =
    record {
      kind = k ∙ h.kind;
      one = o ∙ h.one;
      two = t ∙ h.two;
      sort = s ∙ h.sort;
      four = f ∙ h.four;
      six = w ∙ h.six;
    }
