-- What one more cycle adds to a run, and that states which agree on places and transitions come to the same cycle.
use mathlib.Core.Bool.{◌&&◌}
use mathlib.Core.List.{List, ◌∷◌, ◌++◌, append_assoc, append-nil}
use mathlib.Core.Path.{◌≡◌, refl, sym, ap, ap₂, ◌∙◌, fun_ext}
use Prim.Native.Nat.{ℕ, zero, suc, ◌≤◌, ◌<◌}
use native.Mathlib.Omega.{arith}
use lib.Dec.{ltb, eqb}
use borrow.Author.Tests.{eqb-true}
use Rattle.meaning.specs.Below.{first, within}
use Rattle.meaning.specs.Bytes.{bytes, bits}
use Rattle.meaning.specs.Table.{Table, is}
use Rattle.meaning.specs.Image.{State, image, state, image_bytes, join, place_record, transition_record}
use Rattle.meaning.specs.Cycle.{falling, fired, rising, active, executed, overfull, cycle, record_of}
use Rattle.meaning.specs.Steps.{Stays, Steps}
use Rattle.meaning.proofs.Bool.{and_left}
use Rattle.meaning.proofs.Below.{some_same, first_same}
use Rattle.meaning.proofs.Fired.{and_same}
use Rattle.meaning.proofs.Well.{Well}
use Rattle.meaning.proofs.Near.{Alike, falling_alike, fired_alike, rising_alike}
use Rattle.meaning.proofs.Image.{tokens_back, counter_back, order_back}

-- A run of n cycles with a next word, and that word's cycle.
pub one_more : (tb : Table) {ws img left img' bs : List ℕ} {n w : ℕ} → Steps tb ws img n (w ∷ left) img' bs
    → Stays tb img' w
    → Steps tb ws img (suc n) left (image_bytes (cycle tb img' w).after) (bs ++ (cycle tb img' w).written)
one_more tb {left = left} {img' = img} {w = w} Steps.none stays =
    rw (sym (append-nil (cycle tb img w).written)) (Steps.more stays Steps.none)
one_more tb (Steps.more {w} {n} {ws} {img} {left} {img'} {bytes} h r) stays =
    rw (append_assoc (cycle tb img w).written bytes (cycle tb img' _).written) (Steps.more h (one_more tb r stays))

-- Pieces that are the same join to the same bytes.
join_same : (n : ℕ) (f g : ℕ → List ℕ) → ((k : ℕ) → k < n → f k ≡ g k) → join n f ≡ join n g
unfolding join
join_same zero f g e = refl
join_same (suc n) f g e = ap₂ (λ (a b : List ℕ). a ++ b) (join_same n f g (λ k h. e k (omega arith))) (e n (omega arith))

module _ (z s : State) (alike : Alike z s) where
  -- States that agree have one image.
  pub one_image : image_bytes s ≡ image_bytes z
  unfolding image_bytes
  one_image =
      ap₂ (λ (a b : List ℕ). a ++ b)
      (join_same 128 (place_record s) (place_record z) (λ p h. rw (alike.tokens p h)))
      (join_same 64 (transition_record s) (transition_record z) (λ t h. rw (alike.counter t h, alike.order t h)))

  -- A state that agrees with one of two-byte numbers agrees with what its image holds.
  pub image_alike : ((p : ℕ) → p < 128 → z.tokens p ≤ 65535) → ((t : ℕ) → t < 64 → z.counter t ≤ 65535)
      → Alike (state (image (image_bytes z))) s
  image_alike small low =
      record {
        tokens = λ p h. alike.tokens p h ∙ sym (tokens_back z p h (small p h));
        counter = λ t h. alike.counter t h ∙ sym (counter_back z t h (low t h));
        order = λ t h. alike.order t h ∙ sym (order_back z t h);
      }

-- The state after a cycle from the state s.
abbrev pub after : Table → State → ℕ → State
after tb s word = rising tb (falling tb s) (within (fired tb (falling tb s) word))

module _ (tb : Table) (well : Well tb) (img : List ℕ) (s : State) (alike : Alike (state (image img)) s) (word : ℕ) where
  same_fired : fired tb (falling tb s) word ≡ fired tb (falling tb (state (image img))) word
  same_fired = fired_alike tb well _ _ (falling_alike tb well _ _ alike) word

  -- The states after the cycle agree too.
  pub after_alike : Alike (cycle tb img word).after (after tb s word)
  unfolding cycle
  after_alike = rw same_fired (rising_alike tb well _ _ (falling_alike tb well _ _ alike) (within (fired tb (falling tb (state (image img))) word)))

  -- They are overfull first at the same place.
  pub same_full : first 128 (overfull tb (after tb s word)) ≡ first 128 (overfull tb (cycle tb img word).after)
  unfolding overfull
  same_full = first_same 128 _ _ (λ p h. rw (after_alike.tokens p h))

  -- The same actions are active.
  same_active : active tb s.tokens ≡ active tb (state (image img)).tokens
  unfolding active
  same_active =
      fun_ext
      (λ k. some_same tb.records _ _
      (λ r h. and_same (is tb 6 r && eqb (tb.two r) k) _ _
      (λ e. ap (ltb 0) (alike.tokens (tb.one r) (well.action_place r h (eqb-true _ _ (and_left (is tb 6 r) _ e)))))))

  -- The cycle's record is spelled by the three sets from either state.
  pub same_record_of : bytes 8 (bits (within (fired tb (falling tb s) word))) ++ bytes 8 (bits (active tb s.tokens))
      ++ bytes 8 (bits (executed tb (within (fired tb (falling tb s) word))))
      ≡ (cycle tb img word).written
  unfolding cycle record_of falling
  same_record_of = rw (same_fired, same_active)
