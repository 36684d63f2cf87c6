-- Document 01, "When a table is well defined" and answers 1 to 9, in the page's order (source document 001,
-- definitions 10 to 14).
use Rattle.std.specs.Prelude.{Bool, false, cond, not, ◌&&◌, ◌||◌, List, [], ◌∷◌, ℕ, ◌+◌, ◌*◌, ◌-◌, ◌%◌, ltb, leb, eqb}
use Rattle.std.specs.Prelude.{length, get_or}
use Rattle.std.specs.Bool.{beq}
use Rattle.meaning.specs.Below.{some, first}
use Rattle.meaning.specs.Table.{Table, table, kind_row, is, basic, test, inhibitor, post, place, transition}
use Rattle.meaning.specs.Answer.{Answer, refused, accepted, Check, check_of, decide}
use Rattle.meaning.specs.Priority.{above}

-- 1 length: the length is no multiple of 8, or above 8,192.
unfoldable pub bad_length : List ℕ → Bool
bad_length bs = not (eqb (length bs % 8) 0) || ltb 8192 (length bs)

-- 2 kind: byte 0 is not 1 to 7, or the kind has no such sort.
unfoldable pub bad_kind : Table → ℕ → Bool
bad_kind tb r = eqb (tb.kind r) 0 || ltb 7 (tb.kind r) || ltb (kind_row tb r).sort (tb.sort r)

-- A transition's interval is as its sort asks. Sort 0: a and b are 0. Sort 1: 1 ≤ a ≤ b ≤ 65,534. Sort 2: a is
-- at least 1 and b is 0.
unfoldable pub interval : Table → ℕ → Bool
interval tb r =
    get_or
    ((eqb (tb.four r) 0 && eqb (tb.six r) 0)
    ∷ (leb 1 (tb.four r) && leb (tb.four r) (tb.six r) && leb (tb.six r) 65534)
    ∷ (leb 1 (tb.four r) && eqb (tb.six r) 0)
    ∷ [])
    (tb.sort r)
    false

-- 3 field: a number out of its kind's range or an unused byte not 0, a weight of 0, or an interval that is not
-- as its sort asks.
unfoldable pub bad_field : Table → ℕ → Bool
bad_field tb r =
    ltb (kind_row tb r).one (tb.one r)
    || ltb (kind_row tb r).two (tb.two r)
    || ltb (kind_row tb r).four (tb.four r)
    || ltb (kind_row tb r).six (tb.six r)
    || (is tb 3 r && eqb (tb.four r) 0)
    || (is tb 2 r && not (interval tb r))

-- Records s and r say the same thing: one kind and the same bytes 1 and 2 (places and transitions have byte 2
-- at 0), whatever their sorts; but of arcs an input arc (sorts 0 to 2) and a post arc stand beside each other.
unfoldable pub same : Table → ℕ → ℕ → Bool
same tb r s =
    eqb (tb.kind s) (tb.kind r)
    && eqb (tb.one s) (tb.one r)
    && eqb (tb.two s) (tb.two r)
    && (not (is tb 3 r) || beq (post tb s) (post tb r))

-- 4 twice: an earlier record says the same.
unfoldable pub twice : Table → ℕ → Bool
twice tb r = some r (same tb r)

-- Each record is tested for 2, 3 and 4, in this order: the number of the first that it meets, 0 if none.
unfoldable pub fault : Table → ℕ → ℕ
fault tb r =
    let again : ℕ = cond (twice tb r) 4 0 in
    let field : ℕ = cond (bad_field tb r) 3 again in
    cond (bad_kind tb r) 2 field

unfoldable pub faulty : Table → ℕ → Bool
faulty tb r = not (eqb (fault tb r) 0)

-- Byte 1 of kinds 3 and 6 names a place, of kinds 4, 5 and 7 a transition; byte 2 of kinds 3 and 5 names a
-- transition.
unfoldable pub names_place : Table → ℕ → Bool
names_place tb r = is tb 3 r || is tb 6 r

unfoldable pub names_transition : Table → ℕ → Bool
names_transition tb r = is tb 4 r || is tb 5 r || is tb 7 r

unfoldable pub names_second : Table → ℕ → Bool
names_second tb r = is tb 3 r || is tb 5 r

-- 5 unknown: names an undeclared place or transition.
unfoldable pub unknown : Table → ℕ → Bool
unknown tb r =
    (names_place tb r && not (place tb (tb.one r)))
    || (names_transition tb r && not (transition tb (tb.one r)))
    || (names_second tb r && not (transition tb (tb.two r)))

-- 6 empty (definition 14): candidate 0 is that there is no place, candidate 1 that there is no transition.
unfoldable pub empty : Table → ℕ → Bool
empty tb k = not (some tb.records (λ r. is tb (k + 1) r))

-- Some arc, of any sort, stands at place p; at transition t.
unfoldable pub arc_at_place : Table → ℕ → Bool
arc_at_place tb p = some tb.records (λ r. is tb 3 r && eqb (tb.one r) p)

unfoldable pub arc_at_transition : Table → ℕ → Bool
arc_at_transition tb t = some tb.records (λ r. is tb 3 r && eqb (tb.two r) t)

-- 7 isolated (definition 14): candidates 0 to 127 are the places, 128 to 191 the transitions.
unfoldable pub isolated : Table → ℕ → Bool
isolated tb k =
    let place_alone = not (arc_at_place tb k) in
    let transition_alone = not (arc_at_transition tb (k - 128)) in
    let place_part = place tb k && place_alone in
    let transition_part = transition tb (k - 128) && transition_alone in
    cond (ltb k 128) place_part transition_part

-- 8 circle: the transition stands above itself, so the priority is no order (definition 14 asks for one).
unfoldable pub circle : Table → ℕ → Bool
circle tb t = above tb t t

-- Some record passes p, and some record, with it, q.
unfoldable pub some_two : ℕ → (ℕ → Bool) → (ℕ → ℕ → Bool) → Bool
some_two n p q =
    some n
    (λ r.
    let other = some n (q r) in
    p r && other)

-- Two transitions are in conflict if both have a basic arc from one place (definition 10).
unfoldable pub conflict : Table → ℕ → ℕ → Bool
conflict tb i j =
    some_two tb.records (λ r. basic tb r && eqb (tb.two r) i)
    (λ r s. basic tb s && eqb (tb.two s) j && eqb (tb.one s) (tb.one r))

-- One condition is wanted true by one and false by the other (definition 12).
unfoldable pub complementary : Table → ℕ → ℕ → Bool
complementary tb i j =
    some_two tb.records (λ r. is tb 4 r && eqb (tb.one r) i)
    (λ r s. is tb 4 s && eqb (tb.one s) j && eqb (tb.two s) (tb.two r) && not (eqb (tb.sort s) (tb.sort r)))

-- Some place has a basic or test arc to i and an inhibitor arc of equal weight to j (definition 13, one half).
unfoldable pub inhibited : Table → ℕ → ℕ → Bool
inhibited tb i j =
    some_two tb.records (λ r. (basic tb r || test tb r) && eqb (tb.two r) i)
    (λ r s. inhibitor tb s && eqb (tb.two s) j && eqb (tb.one s) (tb.one r) && eqb (tb.four s) (tb.four r))

-- The three ways to settle a pair, of which one is enough.
unfoldable pub settled : Table → ℕ → ℕ → Bool
settled tb i j = above tb i j || above tb j i || complementary tb i j || inhibited tb i j || inhibited tb j i

-- A pair i < j in conflict that is not settled.
unfoldable pub unsettled : Table → ℕ → ℕ → Bool
unsettled tb i j =
    let free = not (settled tb i j) in
    let bad = conflict tb i j && free in
    ltb i j && bad

-- 9 conflict: transition i stands in an unsettled pair i < j. The least pair has the least such i and then the
-- least such j. That i is declared is asked first only to compute less: where 5 found nothing, both transitions
-- of a pair in conflict are declared.
unfoldable pub in_unsettled : Table → ℕ → Bool
in_unsettled tb i =
    let with_some = some 64 (unsettled tb i) in
    transition tb i && with_some

-- Answers 1 to 9, in their order: the length; the records in order, each for 2, 3, 4; then 5 in record order;
-- then 6 to 9.
unfoldable pub table_checks : List ℕ → List Check
table_checks bs =
    let tb = table bs in
    check_of 1 (λ k. bad_length bs) (λ k. refused 1 0)
    ∷ check_of tb.records (faulty tb) (λ r. refused (fault tb r) r)
    ∷ check_of tb.records (unknown tb) (λ r. refused 5 r)
    ∷ check_of 2 (empty tb) (λ k. refused 6 k)
    ∷ check_of 192 (isolated tb) (λ k. refused 7 k)
    ∷ check_of 64 (circle tb) (λ t. refused 8 t)
    ∷ check_of 64 (in_unsettled tb) (λ i. refused 9 (64 * i + first 64 (unsettled tb i)))
    ∷ []

-- A table is well defined when none of 1 to 9 applies (definition 14, read pair by pair as the page decides).
unfoldable pub check : List ℕ → Answer
check bs = decide (table_checks bs) (accepted 0)
