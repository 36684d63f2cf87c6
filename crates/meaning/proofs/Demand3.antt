-- Demand 3: the start marking pays for all withdrawals together, and firing one by one in any order finds what it
-- takes and ends in the one marking that the cycle reports.
use mathlib.Core.Bool.{◌&&◌}
use mathlib.Core.List.{List}
use mathlib.Core.Path.{◌≡◌}
use Prim.Native.Nat.{ℕ, ◌≤◌, ◌<◌}
use native.Mathlib.Nat.{le_trans}
use native.Mathlib.Omega.{arith}
use lib.Dec.{eqb}
use Rattle.meaning.specs.Below.{within}
use Rattle.meaning.specs.Table.{Table, total, basic, post, ceiling}
use Rattle.meaning.specs.Priority.{above}
use Rattle.meaning.specs.Image.{State, state, image, image_bytes}
use Rattle.meaning.specs.Cycle.{withdrawn, added, rounds, fired, marked, falling, rising, cycle}
use Rattle.meaning.specs.Orders.{takes, puts, OneByOne, Order}
use Rattle.meaning.specs.Steps.{Stays}
use Rattle.meaning.proofs.Bool.{and_left, and_right, and_true}
use Rattle.meaning.proofs.Below.{sum_mono}
use Rattle.meaning.proofs.Well.{Well}
use Rattle.meaning.proofs.Fired.{height, height_falls, fired_meets}
use Rattle.meaning.proofs.Pays.{part, pays}
use Rattle.meaning.proofs.Sequence.{over, over_order, moved_members, fire_all}
use Rattle.meaning.proofs.Image.{tokens_back}

module _ (tb : Table) (well : Well tb) (s : State) (word : ℕ) where
  -- The marking at the start pays for all withdrawals of the fired set together, at every place.
  pub start_pays : (p : ℕ) → withdrawn tb (within (fired tb s word)) p ≤ s.tokens p
  start_pays = pays tb well s word (within (fired tb s word)) (fired_meets tb well s word) (height tb) (height_falls tb well)

  -- The residual marking never goes below nothing: what the fired transitions above t take is there.
  pub residual_whole : (t p : ℕ) → withdrawn tb (λ u. within (fired tb s word) u && above tb u t) p ≤ s.tokens p
  unfolding withdrawn total
  residual_whole t p =
      le_trans
      (sum_mono tb.records _ _
      (λ r l.
      part (basic tb r && eqb (tb.one r) p && (within (fired tb s word) (tb.two r) && above tb (tb.two r) t))
      (basic tb r && eqb (tb.one r) p && within (fired tb s word) (tb.two r))
      (tb.four r)
      (λ e. and_true (and_left (basic tb r && eqb (tb.one r) p) _ e) (and_left _ (above tb (tb.two r) t) (and_right (basic tb r && eqb (tb.one r) p) _ e)))))
      (start_pays p)

  -- What the fired set takes and puts is the sum of what its members take and put.
  all_take : (p : ℕ) → withdrawn tb (within (fired tb s word)) p ≡ over (λ t. takes tb t p) (fired tb s word)
  unfolding withdrawn fired rounds
  all_take p = moved_members tb (basic tb) p 64 _

  all_put : (p : ℕ) → added tb (within (fired tb s word)) p ≡ over (λ t. puts tb t p) (fired tb s word)
  unfolding added fired rounds
  all_put p = moved_members tb (post tb) p 64 _

  -- Every order of the fired set's members can be fired one by one, and all orders end in the marking of the cycle.
  pub any_order : (order : List ℕ) → Order order (fired tb s word)
      → (m' : ℕ → ℕ) × OneByOne tb s.tokens order m'
      × ((p : ℕ) → m' p ≡ marked tb s.tokens (within (fired tb s word)) p)
  unfolding marked
  any_order order o =
      let paid : (p : ℕ) → over (λ t. takes tb t p) order ≤ s.tokens p =
      λ p. omega (arith, over_order (λ t. takes tb t p) o, all_take p, start_pays p) in
      let ends = fire_all tb order s.tokens paid in (
        ends.0,
        ends.1,
        λ p.
            omega (arith, ends.2 p, over_order (λ t. takes tb t p) o, over_order (λ t. puts tb t p) o, all_take p, all_put p),
      )

-- Where the cycle is not refused, that marking stands in the image after it.
pub marking_stands : (tb : Table) (img : List ℕ) (word : ℕ) → Stays tb img word → (p : ℕ) → p < 128
    → (state (image (image_bytes (cycle tb img word).after))).tokens p
    ≡ marked tb (state (image img)).tokens (within (cycle tb img word).fired) p
unfolding cycle rising falling ceiling
marking_stands tb img word stays p h = tokens_back (cycle tb img word).after p h (stays p h)
