-- Rows that are enough for a table: for 32 numbers and 256 records, and for any.
use mathlib.Core.Bool.{Bool, true, false, cond}
use mathlib.Core.List.{List}
use mathlib.Core.Logic.{◌⊎◌, inl, inr}
use mathlib.Core.Path.{◌≡◌, refl, ap}
use Prim.Native.Nat.{ℕ, zero, suc, ◌/◌, ◌≤◌, ◌<◌}
use native.Mathlib.Nat.{not-suc-le-zero}
use native.Mathlib.Omega.{arith}
use lib.Dec.{ltb}
use lib.ListN.{length, replicate, length-replicate}
use borrow.Author.Tests.{ltb-true, ltb-false}
use Rattle.std.specs.Prelude.{Ok}
use Rattle.meaning.specs.Table.{Table, table}
use Rattle.meaning.specs.Defined.{bad_length}
use Rattle.meaning.proofs.Below.{last}
use Rattle.rows.specs.Extent.{top, extent_of, Roomy}
use Rattle.rows.specs.declared.Declared.{Declared}
use Rattle.judge.specs.Judged.{JudgeAsks, Judges}
use Rattle.judge.proofs.Answers.{few_bytes}
use Rattle.engine.specs.Said.{ProceedOf, RoomFor}

-- Each byte 1 is below the extent.
top_is : (tb : Table) (n r : ℕ) → r < n → tb.one r ≤ top tb n
unfolding top
top_is tb zero r h = absurd (not-suc-le-zero h)
top_is tb (suc n) r h = go (λ l. top_is tb n r l) (ltb (top tb n) (tb.one n)) refl (last h)
  where
    go : (r < n → tb.one r ≤ top tb n) → (b : Bool) → ltb (top tb n) (tb.one n) ≡ b → (r ≡ n) ⊎ (r < n)
        → tb.one r ≤ cond b (tb.one n) (top tb n)
    go before true e (inl z) = omega (arith, ap tb.one z)
    go before true e (inr l) = omega (arith, before l, ltb-true (top tb n) (tb.one n) e)
    go before false e (inl z) = omega (arith, ap tb.one z, ltb-false (top tb n) (tb.one n) e)
    go before false e (inr l) = before l

pub extent_above : (tb : Table) {n : ℕ} → n ≡ extent_of tb → (r : ℕ) → r < tb.records → tb.one r < n
unfolding extent_of
extent_above tb {n} e r l = omega (arith, top_is tb tb.records r l, e)

-- So many rows of numbers, all empty.
abbrev empty_rows : ℕ → List (List ℕ)
empty_rows k = replicate k (replicate 64 0)

size : (k : ℕ) → length (empty_rows k) ≡ k
size k = length-replicate k _

-- As rows are asked for.
pub room : {bs : List ℕ} {n rows places links : ℕ} → RoomFor bs n rows places links
    → JudgeAsks (table bs) n (replicate rows 0) (empty_rows places) (empty_rows places) (replicate 64 0)
    (replicate links 0) (replicate 192 0)
room {bs} {n} {rows} {places} {links} r =
    record {
      few = omega (arith, r.enough, r.few);
      roomy = r.roomy;
      enough = omega (arith, r.enough, size places);
      blank =
          record {
            roomy = λ k h l.
                omega (arith, r.roomy k h l, r.enough, size places);
            no_rows = rw (size places, r.rows_are);
            no_weights = rw (size places);
            no_sorts = rw (size places);
            no_heads = refl;
            no_posts = rw (length-replicate {A = ℕ} links 0);
            posts_there = rw (length-replicate {A = ℕ} links 0) r.links_there;
            no_times = refl;
          };
    }

-- The two sizes are enough: for 32 numbers and 256 records, and for any table.
pub small : {bs : List ℕ} {n : ℕ} → Roomy (table bs) n → n ≤ 32 → length bs ≤ 2048 → RoomFor bs n 256 32 768
unfolding table
small roomy few short =
    record {
      roomy = roomy;
      enough = few;
      few = omega arith;
      rows_are = refl;
      eights = refl;
      links_there = omega (arith, short);
      links_few = omega arith;
    }

pub large : {bs : List ℕ} {n : ℕ} → Roomy (table bs) n → n ≤ 128 → bad_length bs ≡ false
    → RoomFor bs n 1024 128 3072
unfolding table
large {bs} roomy few right =
    record {
      roomy = roomy;
      enough = few;
      few = omega arith;
      rows_are = refl;
      eights = refl;
      links_there = omega (arith, few_bytes bs right);
      links_few = omega arith;
    }

-- The rows of a table that is accepted are as many as they were made.
pub goes_on : {bs : List ℕ} {n size places links : ℕ} {known : Declared} {rows : List ℕ} {w s : List (List ℕ)}
    {heads posts times : List ℕ}
    → RoomFor bs n size places links → Judges bs n (Ok known) rows w s heads posts times → length rows ≡ size
    → length w ≡ places → length s ≡ places → length posts ≡ links
    → ProceedOf bs n known rows times w s heads posts
goes_on {places = places} r judges rows_are weights_are sorts_are posts_are =
    record {
      net_of = judges.net_of;
      eights = places / 8;
      enough = omega (arith, r.enough, r.eights);
      few = omega (arith, r.few, r.eights);
      sizes =
          record {
            rows_are = omega (arith, rows_are, r.rows_are, r.eights);
            weights_are = omega (arith, weights_are, r.eights);
            sorts_are = omega (arith, sorts_are, r.eights);
            heads_are = judges.lengths.0;
            posts_are = omega (arith, posts_are, r.links_there);
            times_are = judges.lengths.1;
          };
    }
