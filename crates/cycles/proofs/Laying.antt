-- A table whose numbers are below n has nothing from n on in its rows; so what is laid out for them is the table's.
use mathlib.Core.Bool.{false}
use mathlib.Core.List.{List}
use mathlib.Core.Path.{◌≡◌, refl, ap, ◌∙◌}
use Prim.Native.Nat.{ℕ, ◌*◌, ◌/◌, ◌≤◌, ◌<◌}
use native.Mathlib.Omega.{arith}
use lib.ListN.{length}
use borrow.Author.Tests.{eqb-true}
use Rattle.std.specs.Prelude.{Err}
use Rattle.meaning.specs.Bytes.{bit}
use Rattle.meaning.specs.Table.{Table, table, is}
use Rattle.meaning.specs.Says.{Above}
use Rattle.meaning.proofs.Bool.{and_right}
use Rattle.meaning.proofs.Closure.{closed}
use Rattle.meaning.proofs.Reflect.{not_true_false}
use Rattle.rows.specs.declared.Declared.{Declared}
use Rattle.rows.specs.Filed.{declares, limit_in, NetOf}
use Rattle.rows.specs.Rows.{below, limit_of}
use Rattle.rows.proofs.Few.{transitions_le, past}
use Rattle.rows.proofs.Times.{latest_none}
use Rattle.rows.specs.declared.Net.{Net}
use Rattle.turn.specs.Turn.{Laid}
use Rattle.turn.proofs.Rows.{no_bit}
use Rattle.cycles.specs.Lay.{LayAsks, Lays}
use Rattle.cycles.specs.declared.Full.{Full}
use Rattle.cycles.specs.Cycles.{CyclesOf, Broke, Cycled, PlayOf}

-- Whoever stands above another is the higher one of a pair.
higher_low : {tb : Table} {n u t : ℕ} → ((r : ℕ) → r < tb.records → tb.one r < n) → Above tb u t → u < n
higher_low low (Above.pair r h k) = low r h
higher_low low (Above.chain a b) = higher_low low a

module _ {bs : List ℕ} {n : ℕ} {rows : List ℕ} {w s : List (List ℕ)} {heads posts times : List ℕ} {known : Declared}
    (net : NetOf bs n rows w s heads posts times known) where
  no_pair : (u t : ℕ) → n ≤ u → u < 64 → t < 64 → bit (below rows u) t ≡ false
  no_pair u t far h l =
      net.closed.holds u t h l
      ∙ not_true_false _ (λ e. omega (arith, far, higher_low net.below ((closed (table bs) u t).0 e)))

  no_limit : (t : ℕ) → n ≤ t → t < 64 → limit_of times t ≡ 0
  no_limit t far h =
      net.filed.timed.limit_is t h
      ∙ latest_none (table bs).records (declares (table bs) 2 t) (limit_in (table bs))
      (λ k l. not_true_false _
      (λ e. omega (arith, far, net.below k l, eqb-true ((table bs).one k) t (and_right (is (table bs) 2 k) _ e))))

  -- The rows can be laid out.
  pub lay_asks : 8 * n ≤ length rows → LayAsks n rows times
  lay_asks there =
      record {
        arcless =
            record {
              few = net.few;
              there = there;
              no_input = λ p t far h. no_bit net 0 p t (omega arith) far h;
              no_taker = λ p t far h. no_bit net 1 p t (omega arith) far h;
            };
        pairs =
            record {
              few = (transitions_le n).0;
              there = omega (arith, there, (transitions_le n).1);
              none = λ u t far h. no_pair u t (past n u far h) h;
            };
        unlimited = λ t far h. no_limit t (past n t far h) h;
        unlooked = λ t k far h. no_bit net 4 t k (omega arith) (past n t far h) (omega (arith, h));
      }

module _ {bs : List ℕ} {n known : ℕ} {img ws report rows times : List ℕ} {w s : List (List ℕ)} {heads posts : List ℕ}
    (given : PlayOf bs n known img ws report rows times w s heads posts) {net : Net}
    (lays : Lays n known rows w s heads posts times net) where
  -- The net has the table's arrays.
  of : PlayOf bs n known img ws report net.rows.now net.times.now net.weights.now net.sorts.now net.heads.now
      net.posts.now
  of = rw (lays.rows_are, lays.times_are, lays.weights_are, lays.sorts_are, lays.heads_are, lays.posts_are) given

  -- The net's eights are no more than there is room for.
  fewer : net.eights ≤ of.eights
  fewer = omega (arith, lays.tight, of.enough)

  -- What is laid out is the table's.
  laid : Laid bs net
  laid =
      record {
        declared = of.declared;
        net_of =
            record {
              sound = of.net_of.sound;
              filed = of.net_of.filed;
              closed = of.net_of.closed;
              few = omega (arith, fewer, of.few);
              below = λ r h. omega (arith, of.net_of.below r h, lays.enough);
            };
        sizes =
            record {
              rows_are = omega (arith, fewer, of.sizes.rows_are);
              weights_are = omega (arith, fewer, of.sizes.weights_are);
              sorts_are = omega (arith, fewer, of.sizes.sorts_are);
              heads_are = of.sizes.heads_are;
              posts_are = of.sizes.posts_are;
              times_are = of.sizes.times_are;
            };
        rivals = lays.rivals;
        known_is = λ t h. ap (λ (k : ℕ). bit k t) lays.known_is ∙ of.known_is t h;
        timed_is = lays.timed_is;
        conditional_is = lays.conditional_is;
        conditional_low = λ t h e. omega (arith, lays.conditional_low t e, lays.enough);
      }

  -- So many of the words can be done, into a report of the same length.
  pub cycles_of : (count : ℕ) (out : List ℕ) → count ≤ length ws / 8 → length out ≡ length report
      → CyclesOf bs net img ws count out
  cycles_of count out most same =
      record {
        laid = laid;
        whole = of.ready.long;
        fits = of.ready.fits;
        enough = omega (arith, most);
        few = omega (arith, most, of.ready.few);
        room = omega (arith, most, same, of.ready.room);
      }

  -- All of them can; and where one is refused those before it can be done again.
  pub all_of : CyclesOf bs net img ws (length ws / 8) report
  all_of = cycles_of (length ws / 8) report (omega arith) refl

  module _ {f : Full} {img' out : List ℕ}
      (cycled : Cycled net img ws (length ws / 8) report (Err f) img' out) where
    pub refused : (f.done < length ws / 8) × Broke bs img ws report f.done f.place out × (img' ≡ img)
    refused = cycled.comes bs all_of

    pub again_of : length out ≡ length report → CyclesOf bs net img' ws f.done out
    again_of same = rw refused.2 (cycles_of f.done out (omega (arith, refused.0)) same)
