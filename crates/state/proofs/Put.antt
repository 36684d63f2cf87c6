-- Two stores of a place's two bytes turn the image of a state into the image of the state with that place changed:
-- byte by byte.
use mathlib.Core.Bool.{true, false}
use mathlib.Core.List.{List, [], ◌∷◌, ◌++◌}
use mathlib.Core.Logic.{◌≢◌, ⊎_elim}
use mathlib.Core.Path.{◌≡◌, sym, ap, ◌∙◌, subst}
use Prim.Native.Nat.{ℕ, zero, suc, ◌+◌, ◌*◌, ◌/◌, ◌%◌, ◌≤◌, ◌<◌}
use native.Mathlib.Omega.{arith}
use lib.Dec.{eqb}
use lib.ListN.{length, get_or, set, length-set}
use lib.Seq.{get_or-set_same, get_or-set_other}
use borrow.Author.Tests.{eqb-true, eqb-false}
use Rattle.meaning.specs.Bytes.{bytes}
use Rattle.meaning.specs.Image.{State, image_bytes, transition_record}
use Rattle.meaning.proofs.Bool.{either}
use Rattle.meaning.proofs.Image.{image_length, place_byte, transition_byte}
use Rattle.state.proofs.Images.{image_same, each_record}

module _ (s s' : State) (p x : ℕ) (here : p < 128) (now_x : s'.tokens p ≡ x) (small : x ≤ 65535)
    (others : (q : ℕ) → q ≢ p → s'.tokens q ≡ s.tokens q) (counters : (t : ℕ) → s'.counter t ≡ s.counter t)
    (orders : (t : ℕ) → s'.order t ≡ s.order t) where
  -- The stored image, byte by byte.
  pub store_place : set (set (image_bytes s) (4 * p) (x % 256)) (4 * p + 1) (x / 256) ≡ image_bytes s'
  unfolding bytes
  store_place =
      image_same stored (image_bytes s') (simp length-set (image_length s)) (image_length s')
      (λ k j hk hj. each_record (λ n. (i : ℕ) → i < 4 → get_or stored (4 * n + i) 0
      ≡ get_or (image_bytes s') (4 * n + i) 0) place transition k hk j hj)
    where
      low : List ℕ
      low = set (image_bytes s) (4 * p) (x % 256)

      stored : List ℕ
      stored = set low (4 * p + 1) (x / 256)

      inside : (i : ℕ) → i < 4 → 4 * p + i < length (image_bytes s)
      inside i h = rw (image_length s) (omega arith)

      -- away from the two stores
      away : (n : ℕ) → n ≢ 4 * p → n ≢ 4 * p + 1 → get_or stored n 0 ≡ get_or (image_bytes s) n 0
      away n a b =
          get_or-set_other low (4 * p + 1) n (x / 256) 0 b ∙ get_or-set_other (image_bytes s) (4 * p) n (x % 256) 0 a

      same_place : (q i : ℕ) → q < 128 → i < 4 → q ≢ p
          → get_or stored (4 * q + i) 0 ≡ get_or (image_bytes s') (4 * q + i) 0
      same_place q i hq hi apart =
          away (4 * q + i) (λ e. omega arith) (λ e. omega arith) ∙ place_byte s q i hq hi
          ∙ ap (λ (m : ℕ). get_or (bytes 2 m ++ 0 ∷ 0 ∷ []) i 0) (sym (others q apart))
          ∙ sym (place_byte s' q i hq hi)

      at_p : (i : ℕ) → i < 4 → get_or stored (4 * p + i) 0 ≡ get_or (image_bytes s') (4 * p + i) 0
      at_p zero hi =
          let begin : 4 * p + 0 ≡ 4 * p = omega arith in
          subst (λ (n : ℕ). get_or stored n 0 ≡ x % 256) (sym begin)
          (get_or-set_other low (4 * p + 1) (4 * p) (x / 256) 0 (λ e. omega arith)
          ∙ get_or-set_same (image_bytes s) (4 * p) (x % 256) 0 (omega (arith, inside 0 hi)))
          ∙ ap (λ (m : ℕ). m % 256) (sym now_x)
          ∙ sym (place_byte s' p 0 here hi)
      at_p (suc zero) hi =
          let half : x / 256 ≡ x / 256 % 256 = omega arith in
          get_or-set_same low (4 * p + 1) (x / 256) 0 (rw length-set (inside 1 hi))
          ∙ half
          ∙ ap (λ (m : ℕ). m / 256 % 256) (sym now_x)
          ∙ sym (place_byte s' p 1 here hi)
      at_p (suc (suc zero)) hi =
          away (4 * p + 2) (λ e. omega arith) (λ e. omega arith) ∙ place_byte s p 2 here hi
          ∙ sym (place_byte s' p 2 here hi)
      at_p (suc (suc (suc zero))) hi =
          away (4 * p + 3) (λ e. omega arith) (λ e. omega arith) ∙ place_byte s p 3 here hi
          ∙ sym (place_byte s' p 3 here hi)
      at_p (suc (suc (suc (suc i)))) hi = absurd (omega arith)

      place : (q : ℕ) → q < 128 → (i : ℕ) → i < 4 → get_or stored (4 * q + i) 0 ≡ get_or (image_bytes s') (4 * q + i) 0
      place q hq i hi =
          ⊎_elim (λ (e : eqb q p ≡ true). subst (λ (n : ℕ). get_or stored (4 * n + i) 0
          ≡ get_or (image_bytes s') (4 * n + i) 0) (sym (eqb-true q p e)) (at_p i hi))
          (λ (e : eqb q p ≡ false). same_place q i hq hi (eqb-false q p e))
          (either (eqb q p))

      transition : (t : ℕ) → t < 64 → (i : ℕ) → i < 4
          → get_or stored (4 * (128 + t) + i) 0 ≡ get_or (image_bytes s') (4 * (128 + t) + i) 0
      transition t ht i hi =
          let same : transition_record s t ≡ transition_record s' t = rw (counters t, orders t) in
          away (4 * (128 + t) + i) (λ e. omega arith) (λ e. omega arith) ∙ transition_byte s t i ht hi
          ∙ ap (λ (l : List ℕ). get_or l i 0) same ∙ sym (transition_byte s' t i ht hi)
