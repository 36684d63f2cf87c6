-- Questions about the numbers below n: every rule of the page that says some, each, all, first or lowest is one
-- of these. In all files of the meaning `cond b x y` is x if b is true and else y, `eqb`, `ltb` and `leb` are
-- the tests =, < and ≤, and a `let` only names a part, which is then computed where it is asked for.
use Rattle.std.specs.Prelude.{Bool, true, false, cond, ◌&&◌, ◌||◌, List, [], ◌∷◌, ◌++◌, ◌≡◌, ℕ, zero, suc, ◌+◌, ◌<◌, ltb, eqb}
use Rattle.std.specs.Prelude.{Option, MatchOption}

-- Is there a number below n that passes p?
unfoldable pub some : ℕ → (ℕ → Bool) → Bool
some zero p = false
some (suc n) p = some n p || p n

-- Does every number below n pass p?
unfoldable pub every : ℕ → (ℕ → Bool) → Bool
every zero p = true
every (suc n) p = every n p && p n

-- The sum of f over the numbers below n.
unfoldable pub sum : ℕ → (ℕ → ℕ) → ℕ
sum zero f = 0
sum (suc n) f = sum n f + f n

-- The first number below n that passes p, or n where none does.
unfoldable pub first : ℕ → (ℕ → Bool) → ℕ
first zero p = 0
first (suc n) p =
    let before = first n p in
    let here = cond (p n) n (suc n) in
    cond (ltb before n) before here

-- It is said as an option: the first number below n that passes p, or that there is none.
abbrev pub IsFirst : ℕ → (ℕ → Bool) → Option ℕ → Type 0
IsFirst n p r = MatchOption r (first n p ≡ n) (λ k. (k < n) × (first n p ≡ k))

-- The numbers below n that pass p, in their order.
unfoldable pub members : ℕ → (ℕ → Bool) → List ℕ
members zero p = []
members (suc n) p = members n p ++ cond (p n) (n ∷ []) []

-- Is k one of the numbers of a list?
unfoldable pub within : List ℕ → ℕ → Bool
within [] k = false
within (x ∷ xs) k = eqb x k || within xs k
