-- What the members of a set of transitions take and put at each place.
use Rattle.std.specs.Prelude.{Bool, true, cond, ◌&&◌, List, ◌≡◌, ℕ, zero, suc, ◌+◌, ◌*◌, ◌≤◌, ◌<◌, eqb, length, get_or}
use Rattle.meaning.specs.Below.{some, sum}
use Rattle.meaning.specs.Bytes.{bit}
use Rattle.rows.specs.Rows.{takers, functions, cell, taken_at}
use Rattle.arcs.specs.Arcs.{takes_low, takes_high}
use Rattle.levels.specs.declared.Kept.{Kept}
use Rattle.marking.specs.declared.Moved.{Moved}

-- Who lacks tokens at place p, by what is kept of it.
abbrev pub lacking_at : Kept → ℕ → ℕ
lacking_at kept p = get_or kept.lacks p 0

-- Of post arc k: its place, its weight, and the link to the next arc of its transition.
abbrev pub place_of : List ℕ → ℕ → ℕ
place_of posts k = get_or posts (3 * k + 0) 0

abbrev pub weight_of : List ℕ → ℕ → ℕ
weight_of posts k = get_or posts (3 * k + 1) 0

abbrev pub next_of : List ℕ → ℕ → ℕ
next_of posts k = get_or posts (3 * k + 2) 0

-- A link is one more than an arc's number, or 0 for none. What the chain from a link on puts at place p: links go
-- down, so that a link of at most n is found by going down from n. The arc of the link puts its weight at its place,
-- and then the chain goes on.
unfoldable pub given_upto : ℕ → List ℕ → ℕ → ℕ → ℕ
given_upto zero posts link p = 0
given_upto (suc n) posts link p =
    cond (eqb link (suc n))
    (cond (eqb (place_of posts n) p) (weight_of posts n) 0 + given_upto n posts (next_of posts n) p)
    (given_upto n posts link p)

abbrev pub given : List ℕ → ℕ → ℕ → ℕ
given posts link p = given_upto link posts link p

-- What the members of a set put at place p.
abbrev pub put_at : ℕ → List ℕ → List ℕ → ℕ → ℕ
put_at fired heads posts p = sum 64 (λ t. cond (bit fired t) (given posts (get_or heads t 0) p) 0)

-- The members of the word are places, each with its row of weights, and there is room for one more weight at each.
pub record TakeAsks (word from u : ℕ) (taken : List ℕ) (w : List (List ℕ)) : Type 0 where
  pub half : from ≤ 64
  pub transition : u < 64
  pub weights_there : (p : ℕ) → p < 64 → bit word p ≡ true → from + p < length w
  pub room : (p : ℕ) → p < 64 → get_or taken (from + p) 0 ≤ 4294901760

-- Transition u took its weight at each place of the word, and nothing elsewhere; the set has who lacks tokens there.
pub record Took (word from u : ℕ) (w : List (List ℕ)) (kept : Kept) (taken taken' : List ℕ) (lack : ℕ)
    : Type 0 where
  pub takes : (p : ℕ) → p < 64
      → get_or taken' (from + p) 0 ≡ get_or taken (from + p) 0 + cond (bit word p) (cell w (from + p) u) 0
  pub at_most : (p : ℕ) → p < 64 → get_or taken' (from + p) 0 ≤ get_or taken (from + p) 0 + 65535
  pub before : (q : ℕ) → q < from → get_or taken' q 0 ≡ get_or taken q 0
  pub behind : (q : ℕ) → from + 64 ≤ q → get_or taken' q 0 ≡ get_or taken q 0
  pub lack_is : (j : ℕ) → bit lack j ≡ some 64 (λ p. bit word p && bit (lacking_at kept (from + p)) j)

-- A link is 0 or leads to an arc.
abbrev pub Leads : (ℕ → Bool) → ℕ → Type 0
Leads arc link = (k : ℕ) → link ≡ suc k → arc k ≡ true

-- The post arcs stand in chains: each has its three numbers and one of the 128 places, and from each the chain goes
-- on to an arc of a lower number, or ends.
pub record Chains (posts : List ℕ) : Type 0 where
  pub arc : ℕ → Bool
  pub there : (k : ℕ) → arc k ≡ true → 3 * k + 3 ≤ length posts
  pub place : (k : ℕ) → arc k ≡ true → place_of posts k < 128
  pub down : (k : ℕ) → arc k ≡ true → next_of posts k ≤ k
  pub goes_on : (k : ℕ) → arc k ≡ true → Leads arc (next_of posts k)

-- The chain from the link on is there, and there is room for what it puts at each place.
pub record GiveAsks (link : ℕ) (put posts : List ℕ) : Type 0 where
  pub chains : Chains posts
  pub begins : Leads chains.arc link
  pub room : (p : ℕ) → p < 128 → get_or put p 0 + given posts link p < 4294967296

-- The chain put what it has at each place.
pub record Gave (link : ℕ) (posts put put' : List ℕ) : Type 0 where
  pub puts : (p : ℕ) → p < 128 → get_or put' p 0 ≡ get_or put p 0 + given posts link p

-- Nothing is taken or put yet. Whoever fires has its rows; the places from which it takes are those of the rows of
-- takers, each with its row of weights; its chain of post arcs is there. What is put fits.
pub record TallyAsks (fired : ℕ) (taken put rows arcs : List ℕ) (w : List (List ℕ)) (heads posts : List ℕ)
    : Type 0 where
  pub none_taken : (p : ℕ) → p < 128 → get_or taken p 0 ≡ 0
  pub none_put : (p : ℕ) → p < 128 → get_or put p 0 ≡ 0
  pub rows_there : (t : ℕ) → bit fired t ≡ true → 8 * t + 8 ≤ length rows
  pub takes_low_is : (t p : ℕ) → t < 64 → p < 64 → bit (takes_low arcs t) p ≡ bit (takers rows p) t
  pub takes_high_is : (t p : ℕ) → t < 64 → p < 64 → bit (takes_high arcs t) p ≡ bit (takers rows (64 + p)) t
  pub weights_there : (t p : ℕ) → bit fired t ≡ true → p < 128 → bit (takers rows p) t ≡ true → p < length w
  pub chains : Chains posts
  pub begins : (t : ℕ) → bit fired t ≡ true → Leads chains.arc (get_or heads t 0)
  pub put_low : (p : ℕ) → p < 128 → put_at fired heads posts p ≤ 67107840

-- What those that fired take and put at each place, their functions, and who lacks tokens at the places from which they
-- take.
pub record Tallied (fired : ℕ) (rows : List ℕ) (w : List (List ℕ)) (heads posts : List ℕ) (kept : Kept)
    (taken put : List ℕ) (x : Moved) : Type 0 where
  pub taken_is : (p : ℕ) → p < 128 → get_or taken p 0 ≡ taken_at fired rows w p
  pub put_is : (p : ℕ) → p < 128 → get_or put p 0 ≡ put_at fired heads posts p
  pub functions_are : (k : ℕ) → bit x.functions k ≡ some 64 (λ t. bit fired t && bit (functions rows t) k)
  pub lack_is : (j : ℕ)
      → bit x.lack j
      ≡ some 128 (λ p. some 64 (λ t. bit fired t && bit (takers rows p) t) && bit (lacking_at kept p) j)
