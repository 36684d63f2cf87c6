-- The state read from the bytes of a state is that state, as far as its numbers fit two bytes.
use mathlib.Core.Bool.{Bool, true, false, cond}
use mathlib.Core.List.{List, [], ◌++◌, append-nil}
use mathlib.Core.Path.{◌≡◌, refl, sym, ap, ap₂, ◌∙◌}
use Prim.Native.Nat.{ℕ, ◌+◌, ◌*◌, ◌≤◌, ◌<◌}
use native.Mathlib.Omega.{arith}
use lib.Dec.{eqb}
use lib.ListN.{length, get_or, length-append}
use lib.Seq.{get_or-append-add}
use Rattle.meaning.specs.Bytes.{bytes, cut}
use Rattle.meaning.specs.Image.{image, State, state, join, place_record, transition_record, image_bytes}
use Rattle.meaning.proofs.Bytes.{cut_read, join_length, join_read, two_bytes}

-- Each record of an image has four bytes.
place_wide : (s : State) (p : ℕ) → length (place_record s p) ≡ 4
unfolding bytes
place_wide s p = refl

transition_wide : (s : State) (t : ℕ) → length (transition_record s t) ≡ 4
unfolding bytes
transition_wide s t = refl

-- An image has 768 bytes.
pub image_length : (s : State) → length (image_bytes s) ≡ 768
unfolding image_bytes
image_length s =
    length-append (join 128 (place_record s)) (join 64 (transition_record s))
    ∙ ap₂ (λ (a b : ℕ). a + b) (join_length 4 (place_record s) (place_wide s) 128) (join_length 4 (transition_record s) (transition_wide s) 64)

module _ (s : State) where
  -- Byte i of a place's record, and of a transition's.
  pub place_byte : (p i : ℕ) → p < 128 → i < 4 → get_or (image_bytes s) (4 * p + i) 0 ≡ get_or (place_record s p) i 0
  unfolding image_bytes
  place_byte p i hp hi = join_read 4 (place_record s) (place_wide s) 128 p i (join 64 (transition_record s)) hp hi

  pub transition_byte : (t i : ℕ) → t < 64 → i < 4
      → get_or (image_bytes s) (4 * (128 + t) + i) 0 ≡ get_or (transition_record s t) i 0
  unfolding image_bytes
  transition_byte t i ht hi =
      let there : 4 * (128 + t) + i ≡ length (join 128 (place_record s)) + (4 * t + i) =
      rw (join_length 4 (place_record s) (place_wide s) 128) (omega arith) in
      ap (λ (j : ℕ). get_or (join 128 (place_record s) ++ join 64 (transition_record s)) j 0) there
      ∙ get_or-append-add (join 128 (place_record s)) (join 64 (transition_record s)) (4 * t + i) 0
      ∙ ap (λ (l : List ℕ). get_or l (4 * t + i) 0) (sym (append-nil (join 64 (transition_record s))))
      ∙ join_read 4 (transition_record s) (transition_wide s) 64 t i [] ht hi

  -- The columns of an image's record, of a place and of a transition.
  place_column : (p i : ℕ) → p < 128 → i < 4
      → get_or (get_or (cut 4 192 (image_bytes s)) p []) i 0 ≡ get_or (place_record s p) i 0
  place_column p i hp hi = cut_read 4 192 p i (image_bytes s) (omega arith) hi ∙ place_byte p i hp hi

  transition_column : (t i : ℕ) → t < 64 → i < 4
      → get_or (get_or (cut 4 192 (image_bytes s)) (128 + t) []) i 0 ≡ get_or (transition_record s t) i 0
  transition_column t i ht hi = cut_read 4 192 (128 + t) i (image_bytes s) (omega arith) hi ∙ transition_byte t i ht hi

  pub place_number : (p : ℕ) → p < 128 → s.tokens p ≤ 65535 → (image (image_bytes s)).number p ≡ s.tokens p
  unfolding image bytes
  place_number p hp fits =
      ap₂ (λ (a b : ℕ). a + 256 * b) (place_column p 0 hp (omega arith)) (place_column p 1 hp (omega arith)) ∙ two_bytes (s.tokens p) fits

  pub place_third : (p : ℕ) → p < 128 → (image (image_bytes s)).third p ≡ 0
  unfolding image bytes
  place_third p hp = place_column p 2 hp (omega arith)

  pub place_fourth : (p : ℕ) → p < 128 → (image (image_bytes s)).fourth p ≡ 0
  unfolding image bytes
  place_fourth p hp = place_column p 3 hp (omega arith)

  pub transition_number : (t : ℕ) → t < 64 → s.counter t ≤ 65535
      → (image (image_bytes s)).number (128 + t) ≡ s.counter t
  unfolding image bytes
  transition_number t ht fits =
      ap₂ (λ (a b : ℕ). a + 256 * b) (transition_column t 0 ht (omega arith)) (transition_column t 1 ht (omega arith))
      ∙ two_bytes (s.counter t) fits

  pub transition_third : (t : ℕ) → t < 64 → (image (image_bytes s)).third (128 + t) ≡ cond (s.order t) 1 0
  unfolding image bytes
  transition_third t ht = transition_column t 2 ht (omega arith)

  pub transition_fourth : (t : ℕ) → t < 64 → (image (image_bytes s)).fourth (128 + t) ≡ 0
  unfolding image bytes
  transition_fourth t ht = transition_column t 3 ht (omega arith)

  -- Tokens, counters and reset orders read back.
  pub tokens_back : (p : ℕ) → p < 128 → s.tokens p ≤ 65535 → (state (image (image_bytes s))).tokens p ≡ s.tokens p
  unfolding state
  tokens_back = place_number

  pub counter_back : (t : ℕ) → t < 64 → s.counter t ≤ 65535 → (state (image (image_bytes s))).counter t ≡ s.counter t
  unfolding state
  counter_back = transition_number

  pub order_back : (t : ℕ) → t < 64 → (state (image (image_bytes s))).order t ≡ s.order t
  unfolding state
  order_back t ht = ap (λ (x : ℕ). eqb x 1) (transition_third t ht) ∙ go (s.order t)
    where
      go : (b : Bool) → eqb (cond b 1 0) 1 ≡ b
      go true = refl
      go false = refl
