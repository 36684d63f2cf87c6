-- A turn of the tally: one member takes at its places, low and high, and puts what its chain has, so what is moved and
-- what the others are still to move stays the same.
use mathlib.Core.Bool.{Bool, true, cond, ◌&&◌, ◌||◌, or_assoc}
use mathlib.Core.List.{List}
use mathlib.Core.Path.{◌≡◌, sym, ap, ap₂, ◌∙◌}
use Prim.Native.Nat.{ℕ, ◌+◌, ◌-◌, ◌≤◌, ◌<◌}
use native.Mathlib.Nat.{zero-add}
use native.Mathlib.Omega.{arith}
use lib.ListN.{get_or}
use Rattle.std.proofs.lemmas.Bool.Decides.{nat_tests}
use Rattle.meaning.specs.Below.{some}
use Rattle.meaning.specs.Bytes.{bit}
use Rattle.meaning.proofs.Bool.{and_left}
use Rattle.meaning.proofs.Below.{some_same, sum_same, sum_part}
use Rattle.sets.specs.Walk.{Taken}
use Rattle.sets.proofs.Bits.{bit_zero}
use Rattle.sets.proofs.Taking.{over, over_less}
use Rattle.sets.proofs.Some.{some_split}
use Rattle.rows.specs.Rows.{takers, functions, cell, taken_at}
use Rattle.levels.specs.declared.Kept.{Kept}
use Rattle.marking.specs.declared.Moved.{Moved}
use Rattle.marking.specs.Moves.{lacking_at, given, put_at, Took, Gave, Tallied}
use Rattle.marking.proofs.Walk.{any, gathers, over_none, all_gathered, over_most, by_places}

-- Who lacks tokens at a place from which transition t takes.
abbrev pub lacks_by : List ℕ → Kept → ℕ → ℕ → Bool
lacks_by rows kept j t = some 128 (λ p. bit (takers rows p) t && bit (lacking_at kept p) j)

-- What transition t takes at place p.
abbrev pub takes_by : List ℕ → List (List ℕ) → ℕ → ℕ → ℕ
takes_by rows w p t = cond (bit (takers rows p) t) (cell w p t) 0

-- What transition u took at each place, and who lacks tokens there, in two sets.
pub record Own (u : ℕ) (rows : List ℕ) (w : List (List ℕ)) (kept : Kept) (taken taken' : List ℕ) (low high : ℕ)
    : Type 0 where
  pub takes : (p : ℕ) → p < 128 → get_or taken' p 0 ≡ get_or taken p 0 + takes_by rows w p u
  pub at_most : (p : ℕ) → p < 128 → get_or taken' p 0 ≤ get_or taken p 0 + 65535
  pub lack_is : (j : ℕ) → (bit low j || bit high j) ≡ lacks_by rows kept j u

-- The places 0 to 63 and then those from 64 on: all places.
pub both_halves : {u word word' : ℕ} {rows : List ℕ} {w : List (List ℕ)} {kept : Kept}
    {taken taken' taken'' : List ℕ} {low high : ℕ}
    → ((p : ℕ) → p < 64 → bit word p ≡ bit (takers rows p) u)
    → ((p : ℕ) → p < 64 → bit word' p ≡ bit (takers rows (64 + p)) u)
    → Took word 0 u w kept taken taken' low → Took word' 64 u w kept taken' taken'' high
    → Own u rows w kept taken taken'' low high
both_halves {u} {word} {word'} {rows} {w} {kept} {taken} {taken'} {taken''} {low} {high} low_is high_is first second =
    record {
      takes = λ p h.
          let there : 64 ≤ p → 64 + (p - 64) ≡ p = λ l. omega arith in
          grind (
            arith,
            there,
            low_is p,
            high_is (p - 64),
            first.takes p,
            first.behind p,
            second.before p,
            second.takes (p - 64),
          );
      at_most = λ p h.
          let there : 64 ≤ p → 64 + (p - 64) ≡ p = λ l. omega arith in
          grind (arith, there, first.at_most p, first.behind p, second.before p, second.at_most (p - 64));
      lack_is = λ j.
          ap₂ (λ (a b : Bool). a || b)
          (first.lack_is j ∙ some_same 64 _ _ (λ p h. rw (zero-add p, low_is p h)))
          (second.lack_is j ∙ some_same 64 _ _ (λ p h. rw (high_is p h)))
          ∙ sym (some_split 64 64 (λ p. bit (takers rows p) u && bit (lacking_at kept p) j));
    }

-- What a set takes is what its members take.
taken_over : (s : ℕ) (rows : List ℕ) (w : List (List ℕ)) (p : ℕ) → taken_at s rows w p ≡ over s (takes_by rows w p)
taken_over s rows w p =
    sum_same 64 _ _ (λ t h. grind (arith, nat_tests))

-- The members of `left` are still to be tallied.
pub record Tallying (fired : ℕ) (rows : List ℕ) (w : List (List ℕ)) (heads posts : List ℕ) (kept : Kept)
    (taken put : List ℕ) (done lack left : ℕ) : Type 0 where
  pub within : (t : ℕ) → bit left t ≡ true → bit fired t ≡ true
  pub takes : (p : ℕ) → p < 128 → get_or taken p 0 + over left (takes_by rows w p) ≡ over fired (takes_by rows w p)
  pub taken_low : (p : ℕ) → p < 128 → get_or taken p 0 + over left (λ t. 65535) ≤ 4194240
  pub puts : (p : ℕ) → p < 128 → get_or put p 0 + put_at left heads posts p ≡ put_at fired heads posts p
  pub functions_are : (k : ℕ) → (bit done k || any left (λ t. bit (functions rows t) k))
      ≡ any fired (λ t. bit (functions rows t) k)
  pub lack_is : (j : ℕ) → (bit lack j || any left (lacks_by rows kept j)) ≡ any fired (lacks_by rows kept j)

module _ {fired : ℕ} {rows : List ℕ} {w : List (List ℕ)} {heads posts : List ℕ} {kept : Kept} where
  -- At first all members are still to be tallied.
  pub begins : {taken put : List ℕ}
      → ((p : ℕ) → p < 128 → get_or taken p 0 ≡ 0)
      → ((p : ℕ) → p < 128 → get_or put p 0 ≡ 0) → Tallying fired rows w heads posts kept taken put 0 0 fired
  begins none_taken none_put =
      record {
        within = λ t e. e;
        takes = λ p h. rw (none_taken p h) (zero-add _);
        taken_low = λ p h. rw (none_taken p h, zero-add) (over_most fired);
        puts = λ p h. rw (none_put p h) (zero-add _);
        functions_are = λ k. rw (bit_zero k);
        lack_is = λ j. rw (bit_zero j);
      }

  module _ {taken put : List ℕ} {done lack left : ℕ}
      (x : Tallying fired rows w heads posts kept taken put done lack left) where
    -- With nothing left all are tallied.
    pub ends : (y : Moved) → y.functions ≡ done → y.lack ≡ lack → left ≡ 0
        → Tallied fired rows w heads posts kept taken put y
    ends y df dl e =
        record {
          taken_is =
              λ p h. omega (arith, x.takes p h, over_none left (takes_by rows w p) e, taken_over fired rows w p);
          put_is = λ p h. omega (arith, x.puts p h, over_none left (λ t. given posts (get_or heads t 0) p) e);
          functions_are =
              λ k. rw df (all_gathered left (λ t. bit (functions rows t) k) (bit done k) e (x.functions_are k));
          lack_is = λ j.
              rw dl (all_gathered left (lacks_by rows kept j) (bit lack j) e (x.lack_is j))
              ∙ by_places fired (λ p t. bit (takers rows p) t) (λ p. bit (lacking_at kept p) j);
        }

    -- What is put at a place and what one member left is to put there is no more than what all put.
    pub put_room : {u rest : ℕ} → Taken left u rest → (p : ℕ) → p < 128
        → get_or put p 0 + given posts (get_or heads u 0) p ≤ put_at fired heads posts p
    put_room {u} turn p h =
        omega (
          arith,
          x.puts p h,
          rw turn.member at (sum_part 64 (λ t. cond (bit left t) (given posts (get_or heads t 0) p) 0) u turn.low),
        )

    -- Member u is tallied.
    pub one_tallied : {u rest : ℕ} → Taken left u rest → {taken' put' : List ℕ} {low high done' lack' : ℕ}
        → Own u rows w kept taken taken' low high
        → Gave (get_or heads u 0) posts put put'
        → ((k : ℕ) → bit done' k ≡ (bit done k || bit (functions rows u) k))
        → ((j : ℕ) → bit lack' j ≡ (bit lack j || bit low j || bit high j))
        → Tallying fired rows w heads posts kept taken' put' done' lack' rest
    one_tallied {u} {rest} turn {taken'} {put'} {low} {high} {done'} {lack'} own gave gives joins =
        record {
          within = λ t e. x.within t (and_left (bit left t) _ (sym (turn.less t) ∙ e));
          takes =
              λ p h. omega (
                arith,
                own.takes p h,
                x.takes p h,
                over_less left u rest turn.less (takes_by rows w p) turn.low turn.member,
              );
          taken_low =
              λ p h. omega (
                arith,
                own.at_most p h,
                x.taken_low p h,
                over_less left u rest turn.less (λ t. 65535) turn.low turn.member,
              );
          puts =
              λ p h. omega (
                arith,
                gave.puts p h,
                x.puts p h,
                over_less left u rest turn.less (λ t. given posts (get_or heads t 0) p) turn.low turn.member,
              );
          functions_are =
              λ k. gathers turn (λ t. bit (functions rows t) k) (bit done k) (gives k)
              (x.functions_are k);
          lack_is = λ j.
              gathers turn (lacks_by rows kept j) (bit lack j)
              (joins j ∙ or_assoc (bit lack j) (bit low j) (bit high j)
              ∙ ap (λ (b : Bool). bit lack j || b) (own.lack_is j))
              (x.lack_is j);
        }
