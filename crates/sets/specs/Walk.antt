-- The members of a set, the lowest first.
use Rattle.std.specs.Prelude.{true, not, ◌&&◌, ◌≡◌, ℕ, ◌<◌, eqb, Option, MatchOption}
use Rattle.meaning.specs.Below.{first}
use Rattle.meaning.specs.Bytes.{bit}

-- A turn: none is left, or k is the lowest of those left, and only k is no longer left after it.
pub record Taken (left k after : ℕ) : Type 0 where
  pub low : k < 64
  pub member : bit left k ≡ true
  pub lowest : k ≡ first 64 (bit left)
  pub less : (j : ℕ) → bit after j ≡ (bit left j && not (eqb k j))
  pub falls : after < left

abbrev pub Turn : ℕ → Option ℕ → ℕ → Type 0
Turn left r after = MatchOption r ((left ≡ 0) × (after ≡ left)) (λ k. Taken left k after)
