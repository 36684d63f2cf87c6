-- What is read off the image, the declared places and the limits is what the page says of image and table.
use mathlib.Core.Bool.{Bool, true, false}
use mathlib.Core.List.{List}
use mathlib.Core.Path.{◌≡◌, refl}
use Prim.Native.Nat.{ℕ, ◌-◌, ◌<◌}
use native.Mathlib.Omega.{arith}
use lib.Dec.{ltb}
use borrow.Author.Tests.{ltb-true, ltb-false}
use Rattle.meaning.specs.Below.{first}
use Rattle.meaning.specs.Table.{Table, place}
use Rattle.meaning.specs.Image.{State, image, wrong, wrong_place, wrong_transition, most_order}
use Rattle.meaning.proofs.Below.{first_same}
use Rattle.meaning.proofs.Near.{Alike}
use Rattle.meaning.proofs.Sound.{SoundTable}
use Rattle.rows.specs.declared.Declared.{Declared}
use Rattle.rows.specs.Filed.{Timed, Known}
use Rattle.rows.proofs.Times.{limit_is_most, limit_timed}
use Rattle.state.specs.Fit.{wrong_place_by, wrong_transition_by, wrong_by}
use Rattle.state.specs.Holds.{held, Holds}

module _ {tb : Table} (sound : SoundTable tb) {times : List ℕ} (timed : Timed tb tb.records times)
    {known : Declared}
    (knows : Known tb tb.records known) (bs : List ℕ) where
  place_same : (p : ℕ) → p < 128 → wrong_place_by bs known p ≡ wrong_place tb (image bs) p
  unfolding wrong_place_by wrong_place place
  place_same p h = rw (knows.places p h)

  transition_same : (t : ℕ) → t < 64 → wrong_transition_by bs times t ≡ wrong_transition tb (image bs) t
  unfolding wrong_transition_by wrong_transition most_order
  transition_same t h = rw (limit_timed sound t timed h, limit_is_most sound t timed h)

  -- Record by record the two tests are the same.
  pub wrong_same : (k : ℕ) → k < 192 → wrong_by bs known times k ≡ wrong tb (image bs) k
  unfolding wrong_by wrong
  wrong_same k h = go (ltb k 128) refl
    where
      go : (b : Bool) → ltb k 128 ≡ b → wrong_by bs known times k ≡ wrong tb (image bs) k
      go true e = rw e (place_same k (ltb-true k 128 e))
      go false e = rw e (transition_same (k - 128) (omega (arith, ltb-false k 128 e)))

  -- So the first that is wrong is the same.
  pub first_wrong_same : first 192 (wrong_by bs known times) ≡ first 192 (wrong tb (image bs))
  first_wrong_same = first_same 192 (wrong_by bs known times) (wrong tb (image bs)) wrong_same

-- Arrays that hold a state have a state that agrees with it.
pub holds_alike : {tokens counters : List ℕ} {orders : ℕ} {s : State} → Holds tokens counters orders s
    → Alike s (held tokens counters orders)
holds_alike holds = record { tokens = holds.tokens_are; counter = holds.counters_are; order = holds.orders_are }
