-- The sweep gives each place its new tokens, the tending brings what is kept of it to them. A place from which
-- something is taken starves those who lack tokens with its rest: on the level it had, those who lacked them before;
-- below it, whom the tending tells.
use mathlib.Core.Bool.{Bool, ◌&&◌, ◌||◌}
use mathlib.Core.List.{List}
use mathlib.Core.Path.{◌≡◌, ap₂, ◌∙◌}
use Prim.Native.Nat.{ℕ, ◌≤◌, ◌<◌}
use native.Mathlib.Omega.{arith}
use lib.Dec.{ltb}
use lib.ListN.{get_or}
use borrow.Author.Tests.{ltb-true, lt-ltb}
use Rattle.std.proofs.lemmas.Bool.Decides.{nat_tests}
use Rattle.meaning.specs.Below.{some, first}
use Rattle.meaning.specs.Bytes.{bit}
use Rattle.meaning.proofs.Bool.{and_left, and_right, and_true as both, same_test}
use Rattle.meaning.proofs.Below.{some_intro, some_elim, some_same, first_none}
use Rattle.sets.proofs.Some.{some_or}
use Rattle.rows.specs.Rows.{inputs, cell}
use Rattle.levels.specs.declared.Kept.{Kept}
use Rattle.levels.specs.Levels.{lacks, Levels}
use Rattle.marking.specs.Moves.{lacking_at}
use Rattle.marking.specs.Sweep.{rest_at, new_at, fallen, Swept, Tended}
use Rattle.marking.specs.Settle.{SettleAsks}

-- Some number below n passes: some number below m is below n and passes.
some_below : (n m : ℕ) (f : ℕ → Bool) → n ≤ m → some n f ≡ some m (λ p. ltb p n && f p)
some_below n m f h =
    same_test (some n f) (some m (λ p. ltb p n && f p))
    (λ e.
    let w = some_elim n f e in
    some_intro m (λ p. ltb p n && f p) w.0 (omega (arith, w.1)) (both (lt-ltb w.0 n w.1) w.2))
    (λ e.
    let w = some_elim m (λ p. ltb p n && f p) e in
    some_intro n f w.0 (ltb-true w.0 n (and_left (ltb w.0 n) (f w.0) w.2))
    (and_right (ltb w.0 n) (f w.0) w.2))

-- Transition t has a basic or test arc from place p, and k tokens do not suffice for it.
abbrev short : List ℕ → List (List ℕ) → List (List ℕ) → ℕ → ℕ → ℕ → Bool
short rows w s t p k = bit (inputs rows p) t && lacks (cell w p t) (cell s p t) k

-- Whoever lacks tokens with more lacks them with less.
fewer : (a b : Bool) (k j weight : ℕ) → k ≤ j
    → ((a && (b && ltb j weight)) || (a && (b && ltb k weight))) ≡ (a && (b && ltb k weight))
fewer a b k j weight less = grind (arith, nat_tests)

module _ {n lack : ℕ} {rows : List ℕ} {w s : List (List ℕ)} {tokens : List ℕ} {kept : Kept} {taken put : List ℕ}
    (asks : SettleAsks n lack rows w s tokens kept taken put) where
  module _ {tokens' : List ℕ} {kept₁ : Kept} {all : ℕ} (swept : Swept n tokens taken put kept tokens' kept₁ all) where
    -- Each of the first n places has its new tokens, and the others have what they had.
    new_here : (p : ℕ) → p < n → get_or tokens' p 0 ≡ new_at tokens taken put p
    new_here p h = swept.tokens_are p ∙ rw (lt-ltb p n h)

    -- Where nothing is taken or put the new tokens are those that were there.
    pub tokens_are : (p : ℕ) → p < 128 → get_or tokens' p 0 ≡ new_at tokens taken put p
    tokens_are p h = grind (arith, nat_tests, swept.tokens_are p, asks.none_taken p, asks.none_put p)

    -- The rest of a place is its new tokens without what is put.
    rest_is : (p : ℕ) → p < n → rest_at tokens' put p ≡ rest_at tokens taken p
    rest_is p h = omega (arith, new_here p h)

    -- If all bits of the new tokens together are at most 65,535, no place is full.
    pub none_full : all ≤ 65535 → first 128 (λ p. ltb 65535 (get_or tokens' p 0)) ≡ 128
    none_full few =
        first_none 128 _
        (λ p h. grind (arith, nat_tests, swept.tokens_are p, swept.at_most p, asks.tokens_low p))

    module _ {kept' : Kept} {starved : ℕ} (tended : Tended n rows w s tokens' put kept₁ kept' starved) where
      -- What is kept of each place holds for its new tokens.
      pub levels_hold : Levels rows w s tokens' kept'
      levels_hold =
          record {
            spans = tended.spans;
            inside = λ p h. (
              grind (
                arith,
                nat_tests,
                tended.inside p,
                tended.others p,
                swept.same_from,
                swept.tokens_are p,
                asks.levels_hold.inside p,
              ),
              grind (
                arith,
                nat_tests,
                tended.inside p,
                tended.others p,
                swept.same_upto,
                swept.tokens_are p,
                asks.levels_hold.inside p,
              ),
            );
          }

      -- Whom one place starves.
      starves_here : (t p : ℕ) → p < 128
          → ((ltb 0 (get_or taken p 0) && bit (lacking_at kept p) t)
          || (ltb p n && fallen rows w s kept₁ (rest_at tokens' put p) p t))
          ≡ (ltb 0 (get_or taken p 0) && short rows w s t p (rest_at tokens taken p))
      starves_here t p h =
          let on = asks.levels_hold.inside p h in
          let lacking : (k : ℕ) → get_or kept.from p 0 ≤ k → k ≤ get_or kept.upto p 0
          → bit (lacking_at kept p) t ≡ short rows w s t p k =
          λ k low high. (asks.levels_hold.spans p h).lacks_is k low high t in
          let had = lacking (get_or tokens p 0) on.0 on.1 in
          let stays : get_or kept.from p 0 ≤ rest_at tokens taken p
          → bit (lacking_at kept p) t ≡ short rows w s t p (rest_at tokens taken p) =
          λ low. lacking (rest_at tokens taken p) low (omega (arith, on.1)) in
          grind (arith, nat_tests, on.0, had, stays, asks.none_taken p, swept.tokens_are p, swept.same_from)

      -- Whom all places starve.
      pub starves : (t : ℕ) {r : Bool} → r ≡ (bit lack t || bit starved t)
          → r ≡ some 128 (λ p. ltb 0 (get_or taken p 0)
          && (bit (inputs rows p) t && lacks (cell w p t) (cell s p t) (rest_at tokens taken p)))
      starves t is =
          is ∙ ap₂ (λ (a b : Bool). a || b) (asks.lack_is t) (tended.starves t ∙ some_below n 128 _ asks.few)
          ∙ some_or 128 _ _ ∙ some_same 128 _ _ (starves_here t)
