-- Little-endian numbers and 64-bit sets in bytes (document 01, "Tables" and "Condition words").
use Rattle.std.specs.Prelude.{Bool, cond, List, [], ◌∷◌, ℕ, zero, suc, ◌+◌, ◌*◌, ◌/◌, ◌%◌, ◌^◌, eqb, take, drop}
use Rattle.meaning.specs.Below.{sum}

-- The number that bytes spell, the lowest byte first.
unfoldable pub number : List ℕ → ℕ
number [] = 0
number (b ∷ bs) = b + 256 * number bs

-- The n bytes that spell x, the lowest first.
unfoldable pub bytes : ℕ → ℕ → List ℕ
bytes zero x = []
bytes (suc n) x = x % 256 ∷ bytes n (x / 256)

-- Is bit k of x set?
unfoldable pub bit : ℕ → ℕ → Bool
bit x k = eqb (x / 2 ^ k % 2) 1

-- The 64-bit number whose bit k is set exactly if k passes p.
unfoldable pub bits : (ℕ → Bool) → ℕ
bits p = sum 64 (λ k. cond (p k) (2 ^ k) 0)

-- The first n pieces of a list of bytes, w bytes each.
unfoldable pub cut : ℕ → ℕ → List ℕ → List (List ℕ)
cut w zero bs = []
cut w (suc n) bs = take w bs ∷ cut w n (drop w bs)
