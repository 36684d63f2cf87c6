-- The rows are turned place by place: place q is bit q % 64 of word q / 64 of its transitions, so that each place has
-- a bit of its own.
use mathlib.Core.Bool.{Bool, false, ◌&&◌}
use mathlib.Core.List.{List}
use mathlib.Core.Path.{◌≡◌, ap, ◌∙◌}
use Prim.Native.Nat.{ℕ, ◌+◌, ◌*◌, ◌/◌, ◌%◌, ◌<◌}
use native.Mathlib.Omega.{arith}
use lib.Dec.{eqb, ltb}
use lib.ListN.{length, get_or, replicate, length-replicate}
use Rattle.std.proofs.lemmas.Bool.Decides.{nat_tests}
use borrow.Author.Tests.{le-ltb}
use Rattle.meaning.specs.Bytes.{bit}
use Rattle.rows.specs.Rows.{inputs, takers}
use Rattle.sets.proofs.Bits.{bit_zero}
use Rattle.sets.proofs.Rows.{all_zero}
use Rattle.arcs.specs.Arcs.{rivals_of, Put}

-- Of the five sets of transition t, the word that starts at set k has place q.
abbrev pub has_place : List ℕ → ℕ → ℕ → ℕ → Bool
has_place arcs k t q = bit (get_or arcs (5 * t + (k + q / 64)) 0) (q % 64)

-- The first n places are turned.
pub record TurnedTo (rows arcs : List ℕ) (n : ℕ) : Type 0 where
  pub size : length arcs ≡ 320
  pub asks : (t q : ℕ) → q < 128 → has_place arcs 0 t q ≡ (ltb q n && bit (inputs rows q) t)
  pub takes : (t q : ℕ) → q < 128 → has_place arcs 2 t q ≡ (ltb q n && bit (takers rows q) t)
  pub no_rivals : (t u : ℕ) → bit (rivals_of arcs t) u ≡ false

-- At first none is.
pub none_turned : (rows arcs : List ℕ) → arcs ≡ replicate 320 0 → TurnedTo rows arcs 0
none_turned rows arcs e =
    record {
      size = size;
      asks = λ t q h. empty _ _ ∙ rw (le-ltb q 0 (omega arith));
      takes = λ t q h. empty _ _ ∙ rw (le-ltb q 0 (omega arith));
      no_rivals = λ t u. empty _ _;
    }
  where
    size : length arcs ≡ 320
    size = ap length e ∙ length-replicate {A = ℕ} 320 0

    empty : (i j : ℕ) → bit (get_or arcs i 0) j ≡ false
    empty i j = rw (all_zero arcs (e ∙ rw size) i) (bit_zero j)

-- Place p is put into the words of those with an input arc from it, and then of those that take from it: one place
-- more is turned.
pub one_turned : {rows arcs : List ℕ} {p : ℕ} → TurnedTo rows arcs p → p < 128 → (here : ℕ)
    → ((j : ℕ) → bit here j ≡ eqb (p % 64) j)
    → {between after : List ℕ} → Put arcs (inputs rows p) (0 + p / 64) here between
    → Put between (takers rows p) (2 + p / 64) here after
    → TurnedTo rows after (p + 1)
one_turned {rows} {arcs} {p} w low here is {between} {after} first second =
    record {
      size = second.size;
      asks = λ t q h.
          let put = first.holds t (0 + q / 64) (q % 64) (omega arith) in
          let kept = second.holds t (0 + q / 64) (q % 64) (omega arith) in
          grind (arith, nat_tests, put, kept, is (q % 64), w.asks t q h);
      takes = λ t q h.
          let kept = first.holds t (2 + q / 64) (q % 64) (omega arith) in
          let put = second.holds t (2 + q / 64) (q % 64) (omega arith) in
          grind (arith, nat_tests, put, kept, is (q % 64), w.takes t q h);
      no_rivals = λ t u.
          let kept = first.holds t 4 u (omega arith) in
          let still = second.holds t 4 u (omega arith) in
          grind (arith, nat_tests, kept, still, w.no_rivals t u);
    }
