-- The rows by their names, and the arrays beside them.
use Rattle.std.specs.Prelude.{Bool, cond, ◌&&◌, List, [], ℕ, ◌+◌, ◌*◌, ◌-◌, leb, ltb, eqb, get_or}
use Rattle.meaning.specs.Below.{sum}
use Rattle.meaning.specs.Bytes.{bit}
use Rattle.rows.specs.declared.Declared.{Declared}

-- Row c of number i.
abbrev pub row : List ℕ → ℕ → ℕ → ℕ
row rows c i = get_or rows (8 * i + c) 0

-- Of place p: who has an input arc from it, who has a basic arc from it, who has a post arc to it, its actions.
abbrev pub inputs : List ℕ → ℕ → ℕ
inputs rows p = row rows 0 p

abbrev pub takers : List ℕ → ℕ → ℕ
takers rows p = row rows 1 p

abbrev pub givers : List ℕ → ℕ → ℕ
givers rows p = row rows 2 p

abbrev pub actions : List ℕ → ℕ → ℕ
actions rows p = row rows 3 p

-- Of transition t: the conditions it looks at, those it wants true, its functions, the transitions below it.
abbrev pub looks : List ℕ → ℕ → ℕ
looks rows t = row rows 4 t

abbrev pub wanted_true : List ℕ → ℕ → ℕ
wanted_true rows t = row rows 5 t

abbrev pub functions : List ℕ → ℕ → ℕ
functions rows t = row rows 6 t

abbrev pub below : List ℕ → ℕ → ℕ
below rows t = row rows 7 t

-- What stands at place p and transition t of an array of weights or of sorts.
abbrev pub cell : List (List ℕ) → ℕ → ℕ → ℕ
cell m p t = get_or (get_or m p []) t 0

-- With so many tokens on a place an arc of this weight and sort stops its transition: an inhibitor arc (sort 2) that
-- finds its weight, any other that does not.
abbrev pub stops : ℕ → ℕ → ℕ → Bool
stops weight sort tokens = cond (eqb sort 2) (leb weight tokens) (ltb tokens weight)

-- What the members of a set take from place p.
abbrev pub taken_at : ℕ → List ℕ → List (List ℕ) → ℕ → ℕ
taken_at fired rows w p = sum 64 (λ t. cond (bit fired t && bit (takers rows p) t) (cell w p t) 0)

-- Of transition t: the first count in time, how far its counter rises, the last count in time.
abbrev pub first_of : List ℕ → ℕ → ℕ
first_of times t = get_or times (3 * t + 0) 0

abbrev pub limit_of : List ℕ → ℕ → ℕ
limit_of times t = get_or times (3 * t + 1) 0

abbrev pub last_of : List ℕ → ℕ → ℕ
last_of times t = get_or times (3 * t + 2) 0

-- Place p is among the declared.
unfoldable pub has : Declared → ℕ → Bool
has k p = cond (ltb p 64) (bit k.low p) (bit k.high (p - 64))

-- Of the numbers below n, how many a transition can have.
abbrev pub transitions_below : ℕ → ℕ
transitions_below n = cond (ltb n 64) n 64
