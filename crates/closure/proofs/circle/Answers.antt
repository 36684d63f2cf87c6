-- `circle` answers the first transition that stands above itself: from m on none stands above another.
use mathlib.Core.Bool.{Bool, true, false}
use mathlib.Core.Path.{◌≡◌}
use Prim.Native.Nat.{ℕ, ◌≤◌, ◌<◌}
use native.Mathlib.Omega.{arith}
use Rattle.std.proofs.Common.{rules, Option, None, Some}
use Rattle.std.proofs.lemmas.Iterator.{first_from_Range}
use Rattle.std.specs.Option.{MatchOption}
use Rattle.meaning.specs.Below.{IsFirst}
use Rattle.meaning.specs.Bytes.{bit}
use Rattle.meaning.proofs.Below.{first_is, first_none}
use Rattle.rows.specs.Rows.{below}
use Rattle.closure.proofs.circle.Goals as goal

-- Where none from m on passes, the first below m that does is the first.
first_of : (m : ℕ) (p : ℕ → Bool) (r : Option ℕ) → m ≤ 64 → ((k : ℕ) → m ≤ k → k < 64 → p k ≡ false)
    → MatchOption r ((k : ℕ) → 0 ≤ k → k < m → p k ≡ false)
    (λ i. (0 ≤ i) × (i < m) × (p i ≡ true) × ((k : ℕ) → 0 ≤ k → k < i → p k ≡ false))
    → IsFirst 64 p r
first_of m p None few past none = first_none 64 p (λ k h. grind (arith, none k, past k))
first_of m p (Some i) few past found =
    let low : i < 64 = omega arith in
    (low, first_is 64 p i low found.2 (λ k h. found.3 k (omega arith) h))

pub returns : goal.returns
returns c =
    let rows = c.args.rows.now in
    first_of _ (λ t. bit (below rows t) t) _ c.requires.few (λ k past h. c.requires.none k k past h h)
    (first_from_Range _ _ _ _ (λ t. bit (below rows t) t ≡ true) (λ t. bit (below rows t) t ≡ false) c.find.ensures.ran
    (λ x q k. search rules)
    (λ x q k. (search rules, search rules)))
