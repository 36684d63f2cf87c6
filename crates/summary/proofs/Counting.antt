-- What the loops read of a table or a report, and one turn of each: a transition is struck from the unknown, a record's
-- fired word is counted, an arc moves its weight; and what a summary's tests ask.
use mathlib.Core.Bool.{Bool, true, false, cond, not, ◌&&◌, ◌||◌}
use mathlib.Core.List.{List, [], ◌∷◌}
use mathlib.Core.Path.{◌≡◌, refl, sym, ap, ◌∙◌}
use Prim.Native.Nat.{ℕ, zero, suc, ◌+◌, ◌*◌, ◌≤◌, ◌<◌}
use native.Mathlib.Nat.{add-zero}
use native.Mathlib.Numerals.{add-one}
use native.Mathlib.Omega.{arith}
use lib.Dec.{eqb}
use lib.ListN.{length, get_or, take, drop}
use Rattle.std.specs.List.{list_any}
use Rattle.std.proofs.lemmas.List.Folds.{list_any_more}
use Rattle.meaning.specs.Below.{some, every, sum, first}
use Rattle.meaning.specs.Bytes.{number, bit}
use Rattle.meaning.specs.Table.{Table, arc, transition}
use Rattle.meaning.proofs.Below.{every_elim, some_same, first_same}
use Rattle.records.specs.declared.Rec.{Rec}
use Rattle.records.specs.Record.{Reads}
use Rattle.summary.specs.Day.{times_of, fired_word, strange, times}
use Rattle.summary.specs.Parts.{strange_by}

-- All 64.
pub ones : (k : ℕ) → k < 64 → bit 18446744073709551615 k ≡ true
unfolding every bit
ones = every_elim 64 (bit 18446744073709551615) refl

-- Struck by what stood before, and by one more.
pub struck_more : (o a b : Bool) → ((o && not a) && not b) ≡ (o && not (a || b))
struck_more false a b = refl
struck_more true true b = refl
struck_more true false b = refl

-- By the set of the unknown a record is strange exactly if it is by the table.
pub strange_same : (tb : Table) (unknown : ℕ) (report : List ℕ)
    → ((k : ℕ) → k < 64 → bit unknown k ≡ not (transition tb k))
    → (r : ℕ) → strange_by unknown report r ≡ strange tb report r
unfolding strange_by strange
strange_same tb unknown report e r =
    some_same 64 _ _ (λ k l. ap (λ (b : Bool). bit (fired_word report r) k && b) (e k l))

-- So the first strange record by the set is the first by the table.
pub first_strange_same : (tb : Table) (unknown : ℕ) (report : List ℕ) (n : ℕ)
    → ((k : ℕ) → k < 64 → bit unknown k ≡ not (transition tb k))
    → first n (strange_by unknown report) ≡ first n (strange tb report)
first_strange_same tb unknown report n e = first_same n _ _ (λ k l. strange_same tb unknown report e k)

-- The fired word that is read of a record.
pub word_read : (report : List ℕ) (r read : ℕ) → read ≡ number (take 8 (drop (24 * r + 0) report))
    → read ≡ fired_word report r
unfolding fired_word
word_read report r read reads = reads ∙ ap (λ (i : ℕ). number (take 8 (drop i report))) (add-zero (24 * r))

-- One record more.
pub times_more : (report : List ℕ) (n k : ℕ)
    → times report (suc n) k ≡ times report n k + cond (bit (fired_word report n) k) 1 0
unfolding times sum
times_more report n k = refl

-- What a record that is read moves is what the table's record moves.
pub read_shift : (tb : Table) (r sort : ℕ) (s : List ℕ) (p : ℕ) (x : Rec) → Reads tb r x
    → cond (eqb x.kind 3 && eqb x.sort sort && eqb x.one p) (x.four * times_of s x.two) 0
    ≡ cond (arc tb sort r && eqb (tb.one r) p) (tb.four r * times_of s (tb.two r)) 0
read_shift tb r sort s p x h = rw (h.kind, h.sort, h.one, h.four, h.two) refl

-- Does one of n numbers behind the first pass?
pub some_behind : (test : ℕ → Bool) (s : List ℕ) (n : ℕ) → length s ≡ suc n
    → list_any test (take n (drop 1 s)) ≡ some n (λ k. test (get_or s (suc k) 0))
unfolding some
some_behind test [] n long = absurd (omega (arith, long))
some_behind test (x ∷ xs) n long = front n (omega (arith, long))
  where
    front : (m : ℕ) → m ≤ length xs → list_any test (take m xs) ≡ some m (λ k. test (get_or xs k 0))
    front zero h = refl
    front (suc m) h =
        ap (λ (i : ℕ). list_any test (take i xs)) (sym (add-one m))
        ∙ list_any_more test xs m 0 (omega (arith, h))
        ∙ ap (λ (b : Bool). b || test (get_or xs m 0)) (front m (omega (arith, h)))
