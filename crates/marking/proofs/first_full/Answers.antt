-- The search among the first n places finds the first full place, as those behind are not full.
use mathlib.Core.Bool.{Bool, true, false, cond}
use mathlib.Core.List.{List}
use mathlib.Core.Path.{◌≡◌, refl, sym, ap, ◌∙◌}
use Prim.Native.Nat.{ℕ, ◌≤◌, ◌<◌}
use native.Mathlib.Omega.{arith}
use lib.Dec.{ltb}
use lib.ListN.{length, get_or, take}
use borrow.Author.Tests.{ltb-true, ltb-false, le-ltb}
use Rattle.std.proofs.Common.{rules, tests, Some, None, length-take, get_or-take}
use Rattle.std.specs.List.{position, position_or_len}
use Rattle.std.proofs.lemmas.List.Sums.{fails_before_first, passes_at_first}
use Rattle.std.proofs.lemmas.Iterator.{YieldsList-from_slice}
use Rattle.std.proofs.lemmas.Iterator.Search.{position_from_yields_List}
use Rattle.meaning.specs.Below.{IsFirst}
use Rattle.meaning.proofs.Below.{first_is, first_none}
use Rattle.marking.proofs.first_full.Goals as goal

-- The first listed number that passes is at the first of the m places that pass: those past the list do not pass.
listed : {m : ℕ} {f : ℕ → Bool} (g : ℕ → Bool) (xs : List ℕ) → length xs ≤ m
    → ((k : ℕ) → k < length xs → f k ≡ g (get_or xs k 0)) → ((k : ℕ) → length xs ≤ k → k < m → f k ≡ false)
    → IsFirst m f (position g xs)
listed {m} {f} g xs few same past = go (ltb (position_or_len g xs) (length xs)) refl
  where
    before : (k : ℕ) → k < position_or_len g xs → k < length xs → f k ≡ false
    before k h l = same k l ∙ fails_before_first g xs k 0 h

    go : (b : Bool) → ltb (position_or_len g xs) (length xs) ≡ b
        → IsFirst m f (cond b (Some (position_or_len g xs)) None)
    go true e =
        let at = ltb-true (position_or_len g xs) (length xs) e in (
          omega (arith, at, few),
          first_is m f (position_or_len g xs) (omega (arith, at, few))
              (same _ at ∙ passes_at_first g xs 0 at) (λ k h. before k h (omega (arith, at, h))),
        )
    go false e =
        first_none m f (λ k h. none k h (ltb k (length xs)) refl)
      where
        none : (k : ℕ) → k < m → (b : Bool) → ltb k (length xs) ≡ b → f k ≡ false
        none k h true l =
            let inside = ltb-true k (length xs) l in
            before k (omega (arith, ltb-false (position_or_len g xs) (length xs) e)) inside
        none k h false l = past k (ltb-false k (length xs) l) h

pub returns : goal.returns
returns c =
    let n : ℕ = c.args.n in
    let xs : List ℕ = c.args.tokens.now in
    let size : length (take n xs) ≡ n = simp length-take (omega arith) in
    let found : c.position.result ≡ position (ltb 65535) (take n xs) =
    position_from_yields_List (ltb 65535) _ _ c.position.result c.position.ensures.ran
    (YieldsList-from_slice (take n xs) c.iter.ensures.rest) (λ x b q k. search (rules, tests)) in
    rw found (
    listed (ltb 65535) (take n xs) (omega arith)
    (λ k h. ap (ltb 65535) (sym (get_or-take n xs k 0 (omega arith))))
    (λ k l h. le-ltb 65535 _ (c.requires.1 k (omega arith) h))
    )
