-- What bytes spell: the columns of a table, the state of an image and each condition word stand where the page puts
-- them, and a fresh net is as the page says. Every column is a byte or two of its record, and a record is read where
-- it was cut.
use mathlib.Core.List.{List, [], ◌∷◌}
use mathlib.Core.Path.{◌≡◌, refl, ap, ap₂, ◌∙◌}
use Prim.Native.Nat.{ℕ, zero, suc, ◌+◌, ◌*◌, ◌/◌, ◌<◌}
use native.Mathlib.Nat.{not-suc-le-zero, le_of_suc-le-suc}
use native.Mathlib.Omega.{arith}
use lib.ListN.{length, get_or, take, drop}
use lib.Seq.{get_or-drop, drop-drop}
use Rattle.meaning.specs.Bytes.{number, cut}
use Rattle.meaning.specs.Table.{Table, table}
use Rattle.meaning.specs.Image.{state, image, fresh}
use Rattle.meaning.specs.Calls.{words_of}
use Rattle.meaning.specs.Rules.{TableSpelt, StateSpelt, WordSpelt, Fresh}
use Rattle.meaning.proofs.Bytes.{cut_read}
use Rattle.meaning.proofs.Reflect.{eq_decides}
use Rattle.meaning.proofs.Sound.{SoundTable, place_column, declared_none}

-- Two bytes of a piece, as a number.
pair_read : (w n k i : ℕ) (bs : List ℕ) → k < n → i + 1 < w
    → get_or (get_or (cut w n bs) k []) i 0 + 256 * get_or (get_or (cut w n bs) k []) (i + 1) 0 ≡ get_or bs
    (w * k + i) 0 + 256 * get_or bs (w * k + i + 1) 0
pair_read w n k i bs l h =
    ap₂ (λ (a b : ℕ). a + 256 * b) (cut_read w n k i bs l (omega arith))
    (cut_read w n k (i + 1) bs l h ∙ ap (λ (j : ℕ). get_or bs j 0) (omega arith))

-- "Tables": records of eight bytes.
pub table_spelt : (bs : List ℕ) → TableSpelt bs (table bs)
unfolding table
table_spelt bs =
    record {
      whole = (omega arith, omega arith);
      kind = λ r l. cut_read 8 (length bs / 8) r 0 bs l (omega arith);
      one = λ r l. cut_read 8 (length bs / 8) r 1 bs l (omega arith);
      two = λ r l. cut_read 8 (length bs / 8) r 2 bs l (omega arith);
      sort = λ r l. cut_read 8 (length bs / 8) r 3 bs l (omega arith);
      four = λ r l. pair_read 8 (length bs / 8) r 4 bs l (omega arith);
      six = λ r l. pair_read 8 (length bs / 8) r 6 bs l (omega arith);
    }

-- "State image": records of four bytes.
pub state_spelt : (bs : List ℕ) → StateSpelt bs (state (image bs))
unfolding state image
state_spelt bs =
    record {
      tokens = λ p l. pair_read 4 192 p 0 bs (omega arith) (omega arith);
      counter = λ t l. pair_read 4 192 (128 + t) 0 bs (omega arith) (omega arith);
      order = λ t l. rw (cut_read 4 192 (128 + t) 2 bs (omega arith) (omega arith)) (eq_decides (get_or bs (4 * (128 + t) + 2) 0) 1);
    }

-- "Condition words": eight bytes a word, the lowest first.
number_step : (n : ℕ) (l : List ℕ) → number (take (suc n) l) ≡ get_or l 0 0 + 256 * number (take n (drop 1 l))
unfolding number
number_step zero [] = refl
number_step (suc n) [] = refl
number_step n (x ∷ xs) = refl

number_from : (n k j : ℕ) (ws : List ℕ) → k + 1 ≡ j
    → number (take (suc n) (drop k ws)) ≡ get_or ws k 0 + 256 * number (take n (drop j ws))
number_from n k j ws e =
    let here : k + 0 ≡ k = omega arith in
    number_step n (drop k ws)
    ∙ ap₂ (λ (a : ℕ) (l : List ℕ). a + 256 * number (take n l)) (get_or-drop k ws 0 0 ∙ ap (λ (i : ℕ). get_or ws i 0) here)
    (drop-drop 1 k ws ∙ ap (λ (i : ℕ). drop i ws) e)

pub word_spelt : (ws : List ℕ) (k : ℕ) → WordSpelt ws k (number (take 8 (drop (8 * k) ws)))
unfolding number
word_spelt ws k =
    omega (
      arith,
      number_from 7 (8 * k) (8 * k + 1) ws (omega arith),
      number_from 6 (8 * k + 1) (8 * k + 2) ws (omega arith),
      number_from 5 (8 * k + 2) (8 * k + 3) ws (omega arith),
      number_from 4 (8 * k + 3) (8 * k + 4) ws (omega arith),
      number_from 3 (8 * k + 4) (8 * k + 5) ws (omega arith),
      number_from 2 (8 * k + 5) (8 * k + 6) ws (omega arith),
      number_from 1 (8 * k + 6) (8 * k + 7) ws (omega arith),
      number_from 0 (8 * k + 7) (8 * k + 8) ws (omega arith),
    )

pub words_read : (n : ℕ) (ws : List ℕ) (k : ℕ) → k < n → get_or (words_of n ws) k 0 ≡ number (take 8 (drop (8 * k) ws))
unfolding words_of
words_read zero ws k h = absurd (not-suc-le-zero h)
words_read (suc n) ws zero h = refl
words_read (suc n) ws (suc k) h =
    let there : 8 + 8 * k ≡ 8 * suc k = omega arith in
    words_read n (drop 8 ws) k (le_of_suc-le-suc h)
    ∙ ap (λ (l : List ℕ). number (take 8 l)) (drop-drop (8 * k) 8 ws ∙ ap (λ (i : ℕ). drop i ws) there)

pub words_spelt : (n : ℕ) (ws : List ℕ) (k : ℕ) → k < n → WordSpelt ws k (get_or (words_of n ws) k 0)
words_spelt n ws k l = rw (words_read n ws k l) (word_spelt ws k)

-- A fresh net (definition 3).
pub fresh_is : (tb : Table) → SoundTable tb → Fresh tb (fresh tb)
unfolding fresh
fresh_is tb sound =
    record {
      declared = λ r l k. place_column tb sound (tb.one r) tb.four r l k refl;
      undeclared = λ p none. declared_none tb 1 p tb.four (λ s m k o. none (s, m, k, o));
      counter = λ t. refl;
      order = λ t. refl;
    }
