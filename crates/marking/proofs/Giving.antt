-- A turn of giving: the arc of the link puts its weight at its place, so what is put and what the rest of the chain
-- puts stays the same.
use mathlib.Core.Bool.{true}
use mathlib.Core.List.{List}
use mathlib.Core.Path.{◌≡◌, refl, ◌∙◌}
use Prim.Native.Nat.{ℕ, suc, ◌+◌, ◌-◌, ◌*◌, ◌≤◌, ◌<◌}
use native.Mathlib.Omega.{arith}
use borrow.Author.Tests.{eq-eqb}
use lib.ListN.{length, get_or, set}
use Rattle.marking.specs.Moves.{place_of, weight_of, next_of, given, Leads, Chains, GiveAsks}
use Rattle.marking.proofs.Chain.{given_arc, one_given}

-- A link that leads to an arc: the arc's three numbers are there, its place is one of the 128, the chain goes down from
-- it, and there is room for its weight.
pub record Here (posts put : List ℕ) (link : ℕ) : Type 0 where
  pub there : 1 ≤ link → 3 * (link - 1) + 3 ≤ length posts
  pub place : 1 ≤ link → place_of posts (link - 1) < 128
  pub down : 1 ≤ link → next_of posts (link - 1) < link
  pub fits : 1 ≤ link → get_or put (place_of posts (link - 1)) 0 + weight_of posts (link - 1) < 4294967296

-- The arcs from the link on are still to be put.
pub record Giving (first : ℕ) (posts put₀ put : List ℕ) (link : ℕ) : Type 0 where
  pub chains : Chains posts
  pub leads : Leads chains.arc link
  pub puts : (p : ℕ) → p < 128 → get_or put p 0 + given posts link p ≡ get_or put₀ p 0 + given posts first p
  pub room : (p : ℕ) → p < 128 → get_or put p 0 + given posts link p < 4294967296
  pub here : Here posts put link

here : {posts put : List ℕ} {link : ℕ} (chains : Chains posts) → Leads chains.arc link
    → ((p : ℕ) → p < 128 → get_or put p 0 + given posts link p < 4294967296) → Here posts put link
here {posts} {put} {link} chains leads room =
    record { there = there; place = place; down = down; fits = fits }
  where
    arc : 1 ≤ link → chains.arc (link - 1) ≡ true
    arc h = leads (link - 1) (omega arith)

    there : 1 ≤ link → 3 * (link - 1) + 3 ≤ length posts
    there h = chains.there (link - 1) (arc h)

    place : 1 ≤ link → place_of posts (link - 1) < 128
    place h = chains.place (link - 1) (arc h)

    down : 1 ≤ link → next_of posts (link - 1) < link
    down h = omega (arith, chains.down (link - 1) (arc h))

    fits : 1 ≤ link → get_or put (place_of posts (link - 1)) 0 + weight_of posts (link - 1) < 4294967296
    fits h =
        let at : ℕ = place_of posts (link - 1) in
        omega (
          arith,
          room at (place h),
          rw (eq-eqb at at refl) at
              (given_arc posts link (link - 1) at (omega arith) (chains.down (link - 1) (arc h))),
        )

-- At first the whole chain is still to be put.
pub begins : {first link : ℕ} {posts put : List ℕ} → GiveAsks first put posts → link ≡ first
    → Giving first posts put put link
begins asks e =
    rw e record {
      chains = asks.chains;
      leads = asks.begins;
      puts = λ p h. refl;
      room = asks.room;
      here = here asks.chains asks.begins asks.room;
    }

-- The arc of the link is put, and the chain goes on.
pub one_arc : {first link k at weight next : ℕ} {posts put₀ put : List ℕ} → Giving first posts put₀ put link
    → length put ≡ 128 → (1 ≤ link) × (k ≡ link - 1) → at ≡ place_of posts k → weight ≡ weight_of posts k
    → next ≡ next_of posts k → Giving first posts put₀ (set put at (get_or put at 0 + weight)) next
one_arc {first} {link} {k} {at} {weight} {next} {posts} {put₀} {put} x size some at_is weight_is next_is =
    let to : link ≡ suc k = omega arith in
    let arc = x.leads k to in
    let adds =
    one_given posts put link k weight to (x.chains.down k arc) (omega (arith, x.chains.place k arc, size)) weight_is in
    let leads = x.chains.goes_on k arc in
    let room : (p : ℕ) → p < 128
    → get_or (set put (place_of posts k) (get_or put (place_of posts k) 0 + weight)) p 0 + given posts (next_of posts k)
    p < 4294967296 =
    λ p l. rw (adds p) (x.room p l) in
    rw (at_is, next_is)
    record {
      chains = x.chains;
      leads = leads;
      puts = λ p l. adds p ∙ x.puts p l;
      room = room;
      here = here x.chains leads room;
    }
