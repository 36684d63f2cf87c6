-- Answer 10 read off the image, the declared places and the limits: records 0 to 127 are the places, 128 to 191 the
-- transitions.
use Rattle.std.specs.Prelude.{Bool, cond, not, ◌&&◌, ◌||◌, List, ℕ, ◌+◌, ◌-◌, ltb, eqb}
use Rattle.meaning.specs.Image.{image}
use Rattle.rows.specs.declared.Declared.{Declared}
use Rattle.rows.specs.Rows.{has, limit_of}

-- A place's record is wrong: a byte shown 0 is not 0, or a place that is not declared holds a token.
unfoldable pub wrong_place_by : List ℕ → Declared → ℕ → Bool
wrong_place_by bs known p =
    not (eqb ((image bs).third p) 0)
    || not (eqb ((image bs).fourth p) 0)
    || (not (eqb ((image bs).number p) 0) && not (has known p))

-- The highest reset order that fits a limit: none where the limit is 0, as then no counter ever rises.
abbrev pub order_by : ℕ → ℕ
order_by limit = cond (eqb limit 0) 0 1

-- A transition's record is wrong: counter or reset order too high, or the byte shown 0 is not 0.
unfoldable pub wrong_transition_by : List ℕ → List ℕ → ℕ → Bool
wrong_transition_by bs times t =
    ltb (limit_of times t) ((image bs).number (128 + t))
    || ltb (order_by (limit_of times t)) ((image bs).third (128 + t))
    || not (eqb ((image bs).fourth (128 + t)) 0)

-- Record k of the image does not fit.
unfoldable pub wrong_by : List ℕ → Declared → List ℕ → ℕ → Bool
wrong_by bs known times k =
    cond (ltb k 128) (wrong_place_by bs known k) (wrong_transition_by bs times (k - 128))
