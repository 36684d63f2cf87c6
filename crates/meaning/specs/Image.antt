-- Document 01, "State image": 192 records of four bytes, the places and then the transitions, and when an image
-- fits a table (answer 10).
use Rattle.std.specs.Prelude.{Bool, cond, not, ◌&&◌, ◌||◌, false, List, [], ◌∷◌, ◌++◌, ℕ, zero, suc, ◌+◌, ◌*◌, ◌-◌}
use Rattle.std.specs.Prelude.{ltb, eqb, length, get_or}
use Rattle.meaning.specs.Bytes.{bytes, cut}
use Rattle.meaning.specs.Table.{Table, place, timing, a_of, b_of, first_tokens}
use Rattle.meaning.specs.Answer.{Check, check_of, refused}

-- What an image says: of each record the two-byte number that it begins with, and its last two bytes.
pub record Image : Type 0 where
  pub number : ℕ → ℕ
  pub third : ℕ → ℕ
  pub fourth : ℕ → ℕ

-- The image that bytes spell: record k is the four bytes from 4k on.
unfoldable pub image : List ℕ → Image
image bs =
    let pieces = cut 4 192 bs in
    let at : ℕ → ℕ → ℕ = λ k i. get_or (get_or pieces k []) i 0 in
    record { number = λ k. at k 0 + 256 * at k 1; third = λ k. at k 2; fourth = λ k. at k 3 }

-- A state: each place's tokens, each transition's counter and whether it has a reset order (source document
-- 001, definition 2).
pub record State : Type 0 where
  pub tokens : ℕ → ℕ
  pub counter : ℕ → ℕ
  pub order : ℕ → Bool

-- The state that an image holds: records 0 to 127 are the places, 128 to 191 the transitions.
unfoldable pub state : Image → State
state img =
    record {
      tokens = λ p. img.number p;
      counter = λ t. img.number (128 + t);
      order = λ t. eqb (img.third (128 + t)) 1;
    }

-- f 0, f 1 and so on up to f (n - 1), one behind the other.
unfoldable pub join : ℕ → (ℕ → List ℕ) → List ℕ
join zero f = []
join (suc n) f = join n f ++ f n

-- An image's record of a place, and of a transition.
abbrev pub place_record : State → ℕ → List ℕ
place_record s p = bytes 2 (s.tokens p) ++ 0 ∷ 0 ∷ []

abbrev pub transition_record : State → ℕ → List ℕ
transition_record s t = bytes 2 (s.counter t) ++ cond (s.order t) 1 0 ∷ 0 ∷ []

-- The 768 bytes that hold a state.
unfoldable pub image_bytes : State → List ℕ
image_bytes s = join 128 (place_record s) ++ join 64 (transition_record s)

-- A fresh net: first tokens, counters 0 and no reset orders (source document 001, definition 3).
unfoldable pub fresh : Table → State
fresh tb = record { tokens = first_tokens tb; counter = λ t. 0; order = λ t. false }

-- A place's record is wrong: a byte shown 0 is not 0, or an undeclared place holds a token.
unfoldable pub wrong_place : Table → Image → ℕ → Bool
wrong_place tb img p =
    let undeclared = not (place tb p) in
    not (eqb (img.third p) 0) || not (eqb (img.fourth p) 0) || (not (eqb (img.number p) 0) && undeclared)

-- The highest counter that fits: 0 if undeclared or untimed, b + 1 for sort 1, a for sort 2.
unfoldable pub most : Table → ℕ → ℕ
most tb t =
    let past_b = b_of tb t + 1 in
    let full = a_of tb t in
    get_or (0 ∷ past_b ∷ full ∷ []) (timing tb t) 0

-- The highest reset order that fits: 0 if undeclared or untimed, else 1.
unfoldable pub most_order : Table → ℕ → ℕ
most_order tb t = cond (eqb (timing tb t) 0) 0 1

-- A transition's record is wrong: counter or reset order too high, or the byte shown 0 is not 0.
unfoldable pub wrong_transition : Table → Image → ℕ → Bool
wrong_transition tb img t =
    ltb (most tb t) (img.number (128 + t)) || ltb (most_order tb t) (img.third (128 + t))
    || not (eqb (img.fourth (128 + t)) 0)

-- Record k of an image does not fit the table.
unfoldable pub wrong : Table → Image → ℕ → Bool
wrong tb img k =
    let transition_part = wrong_transition tb img (k - 128) in
    let place_part = wrong_place tb img k in
    cond (ltb k 128) place_part transition_part

-- 10 state: the image is not 768 bytes; else it does not fit, at the first record that is wrong.
unfoldable pub state_checks : Table → List ℕ → List Check
state_checks tb bs =
    check_of 1 (λ k. not (eqb (length bs) 768)) (λ k. refused 10 192)
    ∷ check_of 192 (wrong tb (image bs)) (λ k. refused 10 k)
    ∷ []
