-- What is kept, place by place: that of the places before the one at hand is made for their tokens, and of the others
-- there is nothing yet.
use mathlib.Core.Bool.{Bool, true, false}
use mathlib.Core.List.{List}
use mathlib.Core.Path.{◌≡◌, refl, ◌∙◌}
use Prim.Native.Nat.{ℕ, ◌+◌, ◌*◌, ◌^◌, ◌≤◌, ◌<◌}
use native.Mathlib.Omega.{arith}
use lib.Dec.{eqb, ltb}
use lib.ListN.{get_or}
use borrow.Author.Tests.{eqb-true, eqb-false, ltb-true, ltb-false, eq-eqb}
use Rattle.meaning.specs.Bytes.{bit}
use Rattle.sets.proofs.Bits.{bit_zero, bit_out}
use Rattle.rows.specs.declared.Net.{Net}
use Rattle.rows.specs.Rows.{inputs}
use Rattle.state.proofs.Read.{empty_row}
use Rattle.levels.specs.declared.Kept.{Kept}
use Rattle.levels.specs.Levels.{Spans, SpansAt, OnLevel, Levels, Relevelled}
use Rattle.cycles.specs.Lay.{LevelAsks}

-- Nothing is kept of place q.
pub record Unkept (kept : Kept) (q : ℕ) : Type 0 where
  pub no_held : get_or kept.held q 0 ≡ 0
  pub no_active : get_or kept.active q 0 ≡ 0
  pub no_lacks : get_or kept.lacks q 0 ≡ 0
  pub no_from : get_or kept.from q 0 ≡ 0
  pub no_upto : get_or kept.upto q 0 ≡ 0

-- What is kept of place q holds for its tokens.
pub record Made (rows : List ℕ) (w s : List (List ℕ)) (tokens : List ℕ) (kept : Kept) (q : ℕ) : Type 0 where
  pub spans : SpansAt rows w s kept q
  pub inside : OnLevel kept q (get_or tokens q 0)

-- The places before p are made.
pub record Levelled (p : ℕ) (rows : List ℕ) (w s : List (List ℕ)) (tokens : List ℕ) (kept : Kept) : Type 0 where
  pub made : (q : ℕ) → q < p → q < 128 → Made rows w s tokens kept q
  pub unkept : (q : ℕ) → p ≤ q → q < 128 → Unkept kept q

module _ {rows : List ℕ} {w s : List (List ℕ)} {tokens : List ℕ} where
  -- At first nothing is kept.
  pub none_yet : {net : Net} {kept : Kept} → LevelAsks net tokens kept → Levelled 0 rows w s tokens kept
  none_yet asks =
      record {
        made = λ q h l. absurd (omega (arith, h));
        unkept = λ q h m. record {
          no_held = (empty_row 128 _ asks.none_held).1 q;
          no_active = (empty_row 128 _ asks.none_active).1 q;
          no_lacks = (empty_row 128 _ asks.none_lacking).1 q;
          no_from = (empty_row 128 _ asks.none_from).1 q;
          no_upto = (empty_row 128 _ asks.none_upto).1 q;
        };
      }

  -- One more place is made.
  module _ {p : ℕ} {kept kept' : Kept} (before : Levelled p rows w s tokens kept)
      (new : Relevelled p (get_or tokens p 0) rows w s kept kept') where
    still : (q : ℕ) → q < 128 → ¬ (q ≡ p) → Made rows w s tokens kept q → Made rows w s tokens kept' q
    still q h other m =
        let same = new.others q h other in
        record {
          spans = rw (same.0, same.1, same.2, same.3, same.4) m.spans;
          inside = rw (same.3, same.4) m.inside;
        }

    pub one_more : Levelled (p + 1) rows w s tokens kept'
    one_more =
        record {
          made = λ q l h. go q h l (eqb q p) refl;
          unkept = λ q l h.
              let same = new.others q h (λ e. omega (arith, l, e)) in
              let none = before.unkept q (omega (arith, l)) h in
              record {
                no_held = same.0 ∙ none.no_held;
                no_active = same.1 ∙ none.no_active;
                no_lacks = same.2 ∙ none.no_lacks;
                no_from = same.3 ∙ none.no_from;
                no_upto = same.4 ∙ none.no_upto;
              };
        }
      where
        go : (q : ℕ) → q < 128 → q < p + 1 → (b : Bool) → eqb q p ≡ b → Made rows w s tokens kept' q
        go q h l true e = rw (eqb-true q p e) (record { spans = new.spans; inside = new.inside })
        go q h l false e =
            let other = eqb-false q p e in
            still q h other (before.made q (omega (arith, l, other)) h)

  -- From n on there is neither a token nor an input arc, so nothing is to be kept.
  module _ {n : ℕ} {kept : Kept} (done : Levelled n rows w s tokens kept)
      (words : (i : ℕ) → get_or rows i 0 < 2 ^ 64)
      (no_token : (p : ℕ) → n ≤ p → p < 128 → get_or tokens p 0 ≡ 0)
      (no_arc : (p t : ℕ) → n ≤ p → p < 128 → t < 64 → bit (inputs rows p) t ≡ false) where
    arcless : (p t : ℕ) → n ≤ p → p < 128 → bit (inputs rows p) t ≡ false
    arcless p t l h = go (ltb t 64) refl
      where
        go : (b : Bool) → ltb t 64 ≡ b → bit (inputs rows p) t ≡ false
        go true e = no_arc p t l h (ltb-true t 64 e)
        go false e = bit_out (inputs rows p) t (words (8 * p + 0)) (ltb-false t 64 e)

    nothing : (p : ℕ) → n ≤ p → p < 128 → Spans rows w s p 0 0 0 0 0
    nothing p l h =
        record {
          roof = omega arith;
          held_is = λ k a b t. bit_zero t ∙ rw (arcless p t l h);
          active_is = λ k a b. rw (eq-eqb k 0 (omega (arith, b)));
          lacks_is = λ k a b t. bit_zero t ∙ rw (arcless p t l h);
        }

    each : (p : ℕ) → p < 128 → Made rows w s tokens kept p
    each p h = go (ltb p n) refl
      where
        go : (b : Bool) → ltb p n ≡ b → Made rows w s tokens kept p
        go true e = done.made p (ltb-true p n e) h
        go false e =
            let l = ltb-false p n e in
            let none = done.unkept p l h in
            record {
              spans = rw (none.no_held, none.no_active, none.no_lacks, none.no_from, none.no_upto) (nothing p l h);
              inside = rw (none.no_from, none.no_upto, no_token p l h) (omega arith, omega arith);
            }

    pub all_levelled : Levels rows w s tokens kept
    all_levelled =
        record {
          spans = λ p h. (each p h).spans;
          inside = λ p h. (each p h).inside;
        }
