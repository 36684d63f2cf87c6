-- The reset orders are put into an image one by one: each changes the third byte of its transition's record alone.
use mathlib.Core.Bool.{Bool, true, false, cond, not, ◌&&◌, and-true}
use mathlib.Core.List.{[], ◌∷◌, ◌++◌}
use mathlib.Core.Path.{◌≡◌, refl, sym, ap, ◌∙◌, fun_ext}
use Prim.Native.Nat.{ℕ, zero, suc, ◌+◌, ◌*◌, ◌<◌}
use native.Mathlib.Omega.{arith}
use lib.Dec.{eqb}
use lib.ListN.{get_or, set, length-set}
use lib.Seq.{get_or-set_same, get_or-set_other}
use borrow.Author.Tests.{eq-eqb, eqb-true, eqb-false}
use Rattle.meaning.specs.Bytes.{bit, bytes}
use Rattle.meaning.specs.Image.{State, image_bytes}
use Rattle.meaning.proofs.Image.{image_length, place_byte, transition_byte}
use Rattle.sets.proofs.Bits.{bit_zero}
use Rattle.state.proofs.Images.{image_same, each_record}

-- The state without the reset orders of a set.
abbrev pub but : State → ℕ → State
but s left = record { tokens = s.tokens; counter = s.counter; order = λ t. s.order t && not (bit left t) }

-- A state whose reset orders are f.
abbrev ordering : State → (ℕ → Bool) → State
ordering s f = record { tokens = s.tokens; counter = s.counter; order = f }

-- With none left out it is the state itself, and with all of them it has none.
pub but_none : (s : State) (left : ℕ) → left ≡ 0 → image_bytes (but s left) ≡ image_bytes s
but_none s left e =
    rw e (ap (λ (f : ℕ → Bool). image_bytes (ordering s f)) (fun_ext (λ t. rw (bit_zero t) (and-true (s.order t)))))

pub but_all : (s : State) (left : ℕ) → ((t : ℕ) → s.order t ≡ bit left t)
    → image_bytes (ordering s (bit 0)) ≡ image_bytes (but s left)
but_all s left same =
    ap (λ (f : ℕ → Bool). image_bytes (ordering s f))
    (fun_ext (λ t. bit_zero t ∙ sym (rw (same t) (never (bit left t)))))
  where
    never : (b : Bool) → (b && not b) ≡ false
    never true = refl
    never false = refl

-- One that is left out is put in: only the third byte of its record changes.
pub but_one : (s : State) (left rest t : ℕ) → t < 64 → s.order t ≡ true → bit left t ≡ true
    → ((j : ℕ) → bit rest j ≡ (bit left j && not (eqb t j)))
    → set (image_bytes (but s left)) (512 + 4 * t + 2) 1 ≡ image_bytes (but s rest)
unfolding bytes
but_one s left rest t low mine member takes =
    image_same (set (image_bytes (but s left)) here 1) (image_bytes (but s rest))
    (length-set (image_bytes (but s left)) here 1 ∙ image_length (but s left))
    (image_length (but s rest))
    (λ k j hk hj. each_record (λ n. (i : ℕ) → i < 4 → Same (4 * n + i)) of_place
    (λ u l i h. of_transition u i l h (eqb t u) refl) k hk j hj)
  where
    here : ℕ
    here = 512 + 4 * t + 2

    -- The byte at k comes to be what it has to be.
    Same : ℕ → Type 0
    Same k = get_or (set (image_bytes (but s left)) here 1) k 0 ≡ get_or (image_bytes (but s rest)) k 0

    -- Away from that byte nothing is written.
    away : (k : ℕ) → ¬ (k ≡ here) → get_or (set (image_bytes (but s left)) here 1) k 0
        ≡ get_or (image_bytes (but s left)) k 0
    away k n = get_or-set_other (image_bytes (but s left)) here k 1 0 n

    -- The order of another stays.
    other : (u : ℕ) → eqb t u ≡ false → (s.order u && not (bit left u)) ≡ (s.order u && not (bit rest u))
    other u e =
        let same : bit left u ≡ bit rest u = sym (takes u ∙ rw e (and-true (bit left u))) in
        ap (λ (b : Bool). s.order u && not b) same

    -- Of a transition's record only the third byte hangs on its order.
    unordered : (c j : ℕ) (b d : Bool) → j < 4 → ¬ (j ≡ 2)
        → get_or (bytes 2 c ++ cond b 1 0 ∷ 0 ∷ []) j 0 ≡ get_or (bytes 2 c ++ cond d 1 0 ∷ 0 ∷ []) j 0
    unordered c zero b d h n = refl
    unordered c (suc zero) b d h n = refl
    unordered c (suc (suc zero)) b d h n = absurd (n refl)
    unordered c (suc (suc (suc zero))) b d h n = refl
    unordered c (suc (suc (suc (suc j)))) b d h n = absurd (omega arith)

    third : (c : ℕ) (b : Bool) → b ≡ true → get_or (bytes 2 c ++ cond b 1 0 ∷ 0 ∷ []) 2 0 ≡ 1
    third c b e = rw e

    now_ordered : (s.order t && not (bit rest t)) ≡ true
    now_ordered = rw (mine, takes t, member, eq-eqb t t refl)

    of_transition : (u j : ℕ) → u < 64 → j < 4 → (b : Bool) → eqb t u ≡ b
        → Same (4 * (128 + u) + j)
    of_transition u j l h true e = go (eqb j 2) refl
      where
        same : t ≡ u
        same = eqb-true t u e

        go : (b : Bool) → eqb j 2 ≡ b → Same (4 * (128 + u) + j)
        go true q =
            let spot : 4 * (128 + u) + j ≡ here = omega (arith, eqb-true j 2 q, same) in
            let back : 4 * (128 + t) + 2 ≡ 4 * (128 + u) + j = omega (arith, eqb-true j 2 q, same) in
            ap (λ (k : ℕ). get_or (set (image_bytes (but s left)) here 1) k 0) spot
            ∙ get_or-set_same (image_bytes (but s left)) here 1 0 (omega (arith, low, image_length (but s left)))
            ∙ sym (third (s.counter t) _ now_ordered)
            ∙ sym (transition_byte (but s rest) t 2 low (omega arith))
            ∙ ap (λ (k : ℕ). get_or (image_bytes (but s rest)) k 0) back
        go false q =
            let apart : ¬ (j ≡ 2) = eqb-false j 2 q in
            away (4 * (128 + u) + j) (λ z. apart (omega (arith, z, same)))
            ∙ transition_byte (but s left) u j l h
            ∙ unordered (s.counter u) j (s.order u && not (bit left u)) (s.order u && not (bit rest u)) h apart
            ∙ sym (transition_byte (but s rest) u j l h)
    of_transition u j l h false e =
        let apart : ¬ (t ≡ u) = eqb-false t u e in
        away (4 * (128 + u) + j) (λ z. apart (omega (arith, z)))
        ∙ transition_byte (but s left) u j l h
        ∙ ap (λ (b : Bool). get_or (bytes 2 (s.counter u) ++ cond b 1 0 ∷ 0 ∷ []) j 0) (other u e)
        ∙ sym (transition_byte (but s rest) u j l h)

    of_place : (p : ℕ) → p < 128 → (j : ℕ) → j < 4 → Same (4 * p + j)
    of_place p l j h =
        away (4 * p + j) (λ z. omega (arith, z, l)) ∙ place_byte (but s left) p j l h
        ∙ sym (place_byte (but s rest) p j l h)

-- Orders are put in one by one.
pub ruleset putting = (but_none, but_all, but_one)
