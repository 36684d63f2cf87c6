-- Document 01, "One cycle" and demand 3, as statements: the sets that meet definition 6, and firing the members
-- of a set one by one.
use Rattle.std.specs.Prelude.{Bool, List, [], ◌∷◌, ◌≡◌, ℕ, ◌+◌, ◌-◌, ◌≤◌, eqb}
use Rattle.meaning.specs.Below.{within}
use Rattle.meaning.specs.Table.{Table}
use Rattle.meaning.specs.Image.{State, state, image}
use Rattle.meaning.specs.Cycle.{rule, firable, withdrawn, added, marked, cycle}

-- The set F meets definition 6 at a state after its falling edge: exactly those are in it that are firable and
-- enabled by M less the basic weights of the members of F above them.
abbrev pub Meets : Table → State → ℕ → (ℕ → Bool) → Type 0
Meets tb s word F = (t : ℕ) → F t ≡ rule tb s.tokens (firable tb s word) F t

-- What transition t alone takes from place p, and what it puts there.
abbrev pub takes : Table → ℕ → ℕ → ℕ
takes tb t p = withdrawn tb (λ u. eqb t u) p

abbrev pub puts : Table → ℕ → ℕ → ℕ
puts tb t p = added tb (λ u. eqb t u) p

-- Fire the transitions of a list one by one, each taking and then putting, with no ceiling on tokens and
-- without asking test or inhibitor arcs: each finds the tokens that it takes, and the marking m becomes m'.
pub data OneByOne (tb : Table) : (ℕ → ℕ) → List ℕ → (ℕ → ℕ) → Type 0 where
  done : {m : ℕ → ℕ} → OneByOne tb m [] m
  fire : {m m' : ℕ → ℕ} {t : ℕ} {ts : List ℕ} → ((p : ℕ) → takes tb t p ≤ m p)
      → OneByOne tb (λ p. m p - takes tb t p + puts tb t p) ts m' → OneByOne tb m (t ∷ ts) m'

-- One list is another in some order.
pub data Order {A : Type 0} : List A → List A → Type 0 where
  none : Order [] []
  keep : {x : A} {xs ys : List A} → Order xs ys → Order (x ∷ xs) (x ∷ ys)
  swap : {x y : A} {xs : List A} → Order (x ∷ y ∷ xs) (y ∷ x ∷ xs)
  again : {xs ys zs : List A} → Order xs ys → Order ys zs → Order xs zs

-- Demand 3 for one cycle, of the set that fires by definition 6 and the marking M at the start of the cycle.
pub record Safe (tb : Table) (img : List ℕ) (word : ℕ) : Type 0 where
  -- M pays for all withdrawals together, at every place.
  pub pays : (p : ℕ) → withdrawn tb (within (cycle tb img word).fired) p ≤ (state (image img)).tokens p
  -- In every order the members can be fired one by one: each finds the tokens that it takes.
  pub finds : (order : List ℕ) → Order order (cycle tb img word).fired
      → (m' : ℕ → ℕ) × OneByOne tb (state (image img)).tokens order m'
  -- However they are fired, they end in one marking.
  pub ends : (order : List ℕ) (m' : ℕ → ℕ) → Order order (cycle tb img word).fired
      → OneByOne tb (state (image img)).tokens order m'
      → (p : ℕ) → m' p ≡ marked tb (state (image img)).tokens (within (cycle tb img word).fired) p
