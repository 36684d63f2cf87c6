-- By the table: the chain of a transition puts what its post arcs put, so those that fire put what their post arcs
-- put; and they take something at a place exactly if one of them takes there, as each weight is at least 1.
use mathlib.Core.Bool.{Bool, true, false, cond, ◌&&◌}
use mathlib.Core.List.{List}
use mathlib.Core.Path.{◌≡◌, refl, sym, ap, ap₂, ◌∙◌}
use Prim.Native.Nat.{ℕ, zero, suc, ◌+◌, ◌*◌, ◌≤◌, ◌<◌}
use native.Mathlib.Nat.{add-zero, mul-suc}
use native.Mathlib.Omega.{arith}
use lib.Dec.{ltb, eqb}
use lib.ListN.{length, get_or}
use borrow.Author.Tests.{eqb-true, ne_eqb, ltb-true, lt-ltb, le-ltb}
use Rattle.std.proofs.lemmas.Bool.Decides.{nat_tests}
use Rattle.meaning.specs.Below.{some, sum}
use Rattle.meaning.specs.Bytes.{bit}
use Rattle.meaning.specs.Table.{Table, total, post}
use Rattle.meaning.specs.Cycle.{added}
use Rattle.meaning.proofs.Bool.{and_left, and_right, and_true as both}
use Rattle.meaning.proofs.Below.{some_elim, none_elim, sum_same, sum_add, sum_zero, sum_mono, sum_part}
use Rattle.meaning.proofs.Sound.{sum_one}
use Rattle.rows.specs.Rows.{takers, cell, taken_at}
use Rattle.rows.specs.Filed.{link, post_of, Posted}
use Rattle.rows.proofs.Arcs.{link_le}
use Rattle.marking.specs.Moves.{place_of, weight_of, next_of, given, put_at, Leads, Chains}
use Rattle.marking.proofs.Chain.{given_none, given_arc}
use Rattle.sets.proofs.Taking.{over}

-- A link is to a number below n that passes.
link_passes : (n : ℕ) (f : ℕ → Bool) (k : ℕ) → link n f ≡ suc k → (k < n) × (f k ≡ true)
unfolding link
link_passes zero f k e = absurd (omega (arith, e))
link_passes (suc n) f k e = go (f n) refl e (link_passes n f k)
  where
    go : (b : Bool) → f n ≡ b → cond b (suc n) (link n f) ≡ suc k → (link n f ≡ suc k → (k < n) × (f k ≡ true))
        → (k < suc n) × (f k ≡ true)
    go true q z before =
        let same : n ≡ k = omega arith in
        (omega arith, ap f (sym same) ∙ q)
    go false q z before =
        let w = before z in
        (omega (arith, w.0), w.1)

module _ {tb : Table} {r : ℕ} {heads posts : List ℕ} (posted : Posted tb r heads posts) where
  -- The chain from the link to the last post arc of t below n puts what the post arcs of t below n put.
  chain_upto : (n : ℕ) → n ≤ r → (t p : ℕ)
      → given posts (link n (post_of tb t)) p ≡ sum n (λ k. cond (post_of tb t k && eqb (tb.one k) p) (tb.four k) 0)
  unfolding link sum
  chain_upto zero h t p = given_none posts 0 p refl
  chain_upto (suc n) h t p = go (post_of tb t n) refl (chain_upto n (omega arith) t p)
    where
      go : (b : Bool) → post_of tb t n ≡ b
          → given posts (link n (post_of tb t)) p
          ≡ sum n (λ k. cond (post_of tb t k && eqb (tb.one k) p) (tb.four k) 0)
          → given posts (cond b (suc n) (link n (post_of tb t))) p
          ≡ sum n (λ k. cond (post_of tb t k && eqb (tb.one k) p) (tb.four k) 0) + cond (b && eqb (tb.one n) p)
          (tb.four n) 0
      go true e rest =
          let arc : post tb n ≡ true = and_left (post tb n) (eqb (tb.two n) t) e in
          let own : tb.two n ≡ t = eqb-true (tb.two n) t (and_right (post tb n) (eqb (tb.two n) t) e) in
          let next : next_of posts n ≡ link n (post_of tb t) =
          posted.goes_on n (omega arith) arc ∙ ap (λ (u : ℕ). link n (post_of tb u)) own in
          let step = given_arc posts (suc n) n p refl (omega (arith, next, link_le n (post_of tb t))) in
          let at : place_of posts n ≡ tb.one n = posted.place n (omega arith) arc in
          let weight : weight_of posts n ≡ tb.four n = posted.weight n (omega arith) arc in
          omega (arith, rw (next, at, weight) at step, rest)
      go false e rest = rest ∙ sym (add-zero _)

  -- What the chain of t puts at place p is what its post arcs put there, by the table.
  pub given_is : (t p : ℕ) → t < 64 → given posts (get_or heads t 0) p
      ≡ sum r (λ k. cond (post_of tb t k && eqb (tb.one k) p) (tb.four k) 0)
  given_is t p h = rw (posted.begins t h) (chain_upto r (omega arith) t p)

  -- The post arcs of the table stand in chains, and each transition's chain begins at an arc, or there is none.
  pub chained : 3 * r ≤ length posts → ((k : ℕ) → k < r → post tb k ≡ true → tb.one k < 128)
      → (chains : Chains posts) × ((t : ℕ) → t < 64 → Leads chains.arc (get_or heads t 0))
  chained there places = (
    record {
      arc = λ k. ltb k r && post tb k;
      there = λ k e. omega (arith, inside k e);
      place = λ k e. rw (posted.place k (inside k e) (is k e)) (places k (inside k e) (is k e));
      down = λ k e. rw (posted.goes_on k (inside k e) (is k e)) (link_le k (post_of tb (tb.two k)));
      goes_on =
          λ k e j q. leads k j (omega (arith, inside k e)) (tb.two k)
          (sym (posted.goes_on k (inside k e) (is k e)) ∙ q);
    },
    λ t h j q. leads r j (omega arith) t (sym (posted.begins t h) ∙ q),
  )
    where
      inside : (k : ℕ) → (ltb k r && post tb k) ≡ true → k < r
      inside k e = ltb-true k r (and_left (ltb k r) (post tb k) e)

      is : (k : ℕ) → (ltb k r && post tb k) ≡ true → post tb k ≡ true
      is k e = and_right (ltb k r) (post tb k) e

      leads : (n j : ℕ) → n ≤ r → (t : ℕ) → link n (post_of tb t) ≡ suc j → (ltb j r && post tb j) ≡ true
      leads n j h t q =
          let w = link_passes n (post_of tb t) j q in
          both (lt-ltb j r (omega (arith, w.0))) (and_left (post tb j) (eqb (tb.two j) t) w.1)

-- Nothing is nothing, with a test or without.
nothing : (b : Bool) → ◌≡◌ {A = ℕ} (cond b 0 0) 0
nothing true = refl
nothing false = refl

-- A sum of sums over the members is the sum of the two.
over_add : (s : ℕ) (f g : ℕ → ℕ) → over s (λ t. f t + g t) ≡ over s f + over s g
over_add s f g = sum_same 64 _ _ (λ t h. grind (arith, nat_tests)) ∙ sum_add 64 _ _

-- Record k is a post arc to place p of a transition that fires.
abbrev pub puts : Table → ℕ → ℕ → ℕ → Bool
puts tb fired p k = post tb k && eqb (tb.one k) p && bit fired (tb.two k)

module _ (tb : Table) (fired p : ℕ) where
  -- One record puts what it puts with its own transition.
  one_puts : (n : ℕ) → (post tb n ≡ true → tb.two n < 64)
      → over fired (λ t. cond (post_of tb t n && eqb (tb.one n) p) (tb.four n) 0)
      ≡ cond (puts tb fired p n) (tb.four n) 0
  one_puts n low = go (post tb n) refl
    where
      go : (b : Bool) → post tb n ≡ b
          → over fired (λ t. cond (b && eqb (tb.two n) t && eqb (tb.one n) p) (tb.four n) 0)
          ≡ cond (b && eqb (tb.one n) p && bit fired (tb.two n)) (tb.four n) 0
      go true e =
          sum_one 64 (λ t. cond (bit fired t) (cond (eqb (tb.two n) t && eqb (tb.one n) p) (tb.four n) 0) 0)
          (tb.two n) (low e)
          (λ t h apart. rw (ne_eqb (tb.two n) t (λ z. apart (sym z))) (nothing (bit fired t)))
          ∙ grind (arith, nat_tests)
      go false e = sum_zero 64 _ (λ t h. nothing (bit fired t))

  -- The records below n put what they put with each transition.
  all_put : (n : ℕ) → ((k : ℕ) → k < n → post tb k ≡ true → tb.two k < 64)
      → over fired (λ t. sum n (λ k. cond (post_of tb t k && eqb (tb.one k) p) (tb.four k) 0))
      ≡ sum n (λ k. cond (puts tb fired p k) (tb.four k) 0)
  unfolding sum
  all_put zero low = sum_zero 64 _ (λ t h. nothing (bit fired t))
  all_put (suc n) low =
      over_add fired (λ t. sum n (λ k. cond (post_of tb t k && eqb (tb.one k) p) (tb.four k) 0))
      (λ t. cond (post_of tb t n && eqb (tb.one n) p) (tb.four n) 0)
      ∙ ap₂ ◌+◌ (all_put n (λ k h. low k (omega arith))) (one_puts n (low n (omega arith)))

-- What those that fire put at place p is what their post arcs put there.
pub put_is : {tb : Table} {r : ℕ} {heads posts : List ℕ} → Posted tb r heads posts
    → ((k : ℕ) → k < r → post tb k ≡ true → tb.two k < 64)
    → (fired p : ℕ) → put_at fired heads posts p ≡ sum r (λ k. cond (puts tb fired p k) (tb.four k) 0)
put_is {tb} {r} posted low fired p =
    sum_same 64 _ _ (λ t h. ap (λ (x : ℕ). cond (bit fired t) x 0) (given_is posted t p h)) ∙ all_put tb fired p r low

-- With all records filed that is what the page says they put.
pub put_added : {tb : Table} {heads posts : List ℕ} → Posted tb tb.records heads posts
    → ((k : ℕ) → k < tb.records → post tb k ≡ true → tb.two k < 64) → (fired p : ℕ)
    → put_at fired heads posts p ≡ added tb (bit fired) p
unfolding added total
put_added posted low fired p = put_is posted low fired p

-- A sum of n numbers that are all the same.
sum_same_all : (n v : ℕ) → sum n (λ k. v) ≡ v * n
unfolding sum
sum_same_all zero v = omega arith
sum_same_all (suc n) v = rw (sum_same_all n v) (sym (mul-suc v n))

-- At most 1,024 records put no more than 1,024 times 65,535.
pub put_low : {tb : Table} {r : ℕ} {heads posts : List ℕ} → Posted tb r heads posts
    → ((k : ℕ) → k < r → post tb k ≡ true → tb.two k < 64)
    → r ≤ 1024 → ((k : ℕ) → k < r → post tb k ≡ true → tb.four k ≤ 65535) → (fired p : ℕ)
    → put_at fired heads posts p ≤ 67107840
put_low {tb} {r} posted low few small fired p =
    rw (put_is posted low fired p) (omega (
      arith,
      sum_mono r (λ k. cond (puts tb fired p k) (tb.four k) 0) (λ k. 65535)
          (λ k h. grind (arith, nat_tests, small k h)),
      sum_same_all r 65535,
    ))

-- Something is taken at place p exactly if one of those that fire takes there.
pub taken_some : (fired : ℕ) (rows : List ℕ) (w : List (List ℕ)) (p : ℕ)
    → ((t : ℕ) → t < 64 → bit (takers rows p) t ≡ true → 1 ≤ cell w p t)
    → ltb 0 (taken_at fired rows w p) ≡ some 64 (λ t. bit fired t && bit (takers rows p) t)
taken_some fired rows w p weighty = go (some 64 (λ t. bit fired t && bit (takers rows p) t)) refl
  where
    go : (b : Bool) → some 64 (λ t. bit fired t && bit (takers rows p) t) ≡ b → ltb 0 (taken_at fired rows w p) ≡ b
    go true e =
        let x = some_elim 64 (λ t. bit fired t && bit (takers rows p) t) e in
        let part =
        rw x.2 at (sum_part 64 (λ t. cond (bit fired t && bit (takers rows p) t) (cell w p t) 0) x.0
        x.1) in
        lt-ltb 0 (taken_at fired rows w p) (omega (
          arith,
          part,
          weighty x.0 x.1 (and_right (bit fired x.0) (bit (takers rows p) x.0) x.2),
        ))
    go false e =
        let none : taken_at fired rows w p ≡ 0 =
        sum_zero 64 _ (λ t h. rw (none_elim 64 (λ t. bit fired t && bit (takers rows p) t) e t h)) in
        le-ltb 0 (taken_at fired rows w p) (omega (arith, none))
