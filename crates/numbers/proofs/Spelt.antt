-- How bytes spell numbers: the eight bytes of a number are two halves, and word i of a list of bytes is the eight
-- bytes from 8i on.
use mathlib.Core.List.{List, ◌∷◌}
use mathlib.Core.Path.{◌≡◌, refl, ap, ◌∙◌}
use Prim.Native.Nat.{ℕ, zero, suc, ◌+◌, ◌*◌, ◌≤◌, ◌<◌}
use native.Mathlib.Nat.{not-suc-le-zero, le_of_suc-le-suc}
use native.Mathlib.Omega.{arith}
use lib.ListN.{length, take, drop, get_or}
use lib.Seq.{drop-drop, drop-cons}
use Rattle.meaning.specs.Bytes.{number}
use Rattle.meaning.specs.Calls.{words_of}

-- From word i on: word i, then those from the next on.
pub words_from : (n i : ℕ) (ws : List ℕ) → i < n
    → drop i (words_of n ws) ≡ number (take 8 (drop (8 * i) ws)) ∷ drop (suc i) (words_of n ws)
unfolding words_of
words_from zero i ws h = absurd (not-suc-le-zero h)
words_from (suc n) zero ws h = refl
words_from (suc n) (suc i) ws h =
    let past : 8 + 8 * i ≡ 8 * suc i = omega arith in
    words_from n i (drop 8 ws) (le_of_suc-le-suc h)
    ∙ ap (λ (l : List ℕ). number (take 8 l) ∷ drop (suc i) (words_of n (drop 8 ws)))
    (drop-drop (8 * i) 8 ws ∙ ap (λ (k : ℕ). drop k ws) past)

-- The bytes from one on spell it and 256 times what those from the next on spell.
pub spell : (n : ℕ) (bs : List ℕ) (at next : ℕ) → next ≡ suc at → at < length bs
    → number (take (suc n) (drop at bs)) ≡ get_or bs at 0 + 256 * number (take n (drop next bs))
unfolding number
spell n bs at next e h = rw (e, drop-cons bs at 0 h)

-- The eight bytes of a word, in two halves.
pub halves : (bs : List ℕ) (at low high : ℕ) → at + 8 ≤ length bs
    → low ≡ get_or bs at 0 + 256 * (get_or bs (at + 1) 0 + 256 * (get_or bs (at + 2) 0 + 256 * get_or bs (at + 3) 0))
    → high ≡ get_or bs (at + 4) 0 + 256 * (get_or bs (at + 5) 0 + 256 * (get_or bs (at + 6) 0 + 256 * get_or bs (at + 7) 0))
    → low + 4294967296 * high ≡ number (take 8 (drop at bs))
unfolding number
halves bs at low high h l u =
    omega (
      arith,
      spell 7 bs at (at + 1) (omega arith) (omega arith),
      spell 6 bs (at + 1) (at + 2) (omega arith) (omega arith),
      spell 5 bs (at + 2) (at + 3) (omega arith) (omega arith),
      spell 4 bs (at + 3) (at + 4) (omega arith) (omega arith),
      spell 3 bs (at + 4) (at + 5) (omega arith) (omega arith),
      spell 2 bs (at + 5) (at + 6) (omega arith) (omega arith),
      spell 1 bs (at + 6) (at + 7) (omega arith) (omega arith),
      spell 0 bs (at + 7) (at + 8) (omega arith) (omega arith),
    )
