-- Reading what was cut and what was joined: piece k of width w holds the bytes from w·k on, and a two-byte number
-- reads back.
use mathlib.Core.Path.{◌≡◌, sym, ap, ◌∙◌}
use mathlib.Core.Logic.{⊎_elim}
use mathlib.Core.List.{List, [], ◌++◌, append_assoc}
use Prim.Native.Nat.{ℕ, zero, suc, ◌+◌, ◌*◌, ◌/◌, ◌%◌, ◌≤◌, ◌<◌}
use native.Mathlib.Nat.{not-suc-le-zero, le_of_suc-le-suc}
use native.Mathlib.Omega.{arith}
use lib.ListN.{length, get_or, drop, length-append, get_or-append}
use lib.Seq.{get_or-take, get_or-drop, get_or-append-add}
use Rattle.meaning.specs.Bytes.{cut}
use Rattle.meaning.specs.Image.{join}
use Rattle.meaning.proofs.Below.{last}

-- Byte i of piece k is byte w·k + i.
pub cut_read : (w n k i : ℕ) (bs : List ℕ) → k < n → i < w → get_or (get_or (cut w n bs) k []) i 0 ≡ get_or bs (w * k + i) 0
unfolding cut
cut_read w zero k i bs hk hi = absurd (not-suc-le-zero hk)
cut_read w (suc n) zero i bs hk hi =
    let here : i ≡ w * 0 + i = omega arith in
    get_or-take w bs i 0 hi ∙ ap (λ (j : ℕ). get_or bs j 0) here
cut_read w (suc n) (suc k) i bs hk hi =
    let there : w + (w * k + i) ≡ w * suc k + i = omega arith in
    cut_read w n k i (drop w bs) (le_of_suc-le-suc hk) hi ∙ get_or-drop w bs (w * k + i) 0 ∙ ap (λ (j : ℕ). get_or bs j 0) there

module _ (w : ℕ) (f : ℕ → List ℕ) (wide : (k : ℕ) → length (f k) ≡ w) where
  -- Pieces of width w join to w·n bytes.
  pub join_length : (n : ℕ) → length (join n f) ≡ w * n
  unfolding join
  join_length zero = omega arith
  join_length (suc n) =
      let more : w * n + w ≡ w * suc n = omega arith in
      length-append (join n f) (f n) ∙ rw (join_length n, wide n) more

  -- Byte i of the piece k joined is byte w·k + i of the whole, whatever follows.
  pub join_read : (n k i : ℕ) (rest : List ℕ) → k < n → i < w → get_or (join n f ++ rest) (w * k + i) 0 ≡ get_or (f k) i 0
  unfolding join
  join_read zero k i rest hk hi = absurd (not-suc-le-zero hk)
  join_read (suc n) k i rest hk hi =
      ap (λ (l : List ℕ). get_or l (w * k + i) 0) (append_assoc (join n f) (f n) rest)
      ∙ ⊎_elim (λ (e : k ≡ n). at_last e) (λ (l : k < n). join_read n k i (f n ++ rest) l hi) (last hk)
    where
      at_last : k ≡ n → get_or (join n f ++ (f n ++ rest)) (w * k + i) 0 ≡ get_or (f k) i 0
      at_last e =
          let there : w * k + i ≡ length (join n f) + i = rw (e, join_length n) in
          let inside : i < length (f n) = rw (wide n) hi in
          ap (λ (j : ℕ). get_or (join n f ++ (f n ++ rest)) j 0) there
          ∙ get_or-append-add (join n f) (f n ++ rest) i 0
          ∙ get_or-append (f n) rest 0 i inside
          ∙ ap (λ (j : ℕ). get_or (f j) i 0) (sym e)

-- A number below 65,536 reads back from its two bytes.
pub two_bytes : (x : ℕ) → x ≤ 65535 → x % 256 + 256 * (x / 256 % 256) ≡ x
two_bytes x h = omega arith
