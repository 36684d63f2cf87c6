-- Wrong engines of check, start and lookup: on a named input the promises refuse what such an engine answers or
-- leaves. Most of them are no edit of the code's own shape; those that are one too (`second_input_arc`,
-- `same_condition`, `post_arc_twice`) show it here without a proof of the code.
use mathlib.Core.List.{List, [], ◌∷◌, ◌++◌}
use mathlib.Core.Path.{◌≡◌, refl, ap, ◌∙◌}
use Prim.Native.Nat.{ℕ}
use native.Mathlib.Omega.{arith}
use lib.ListN.{replicate, get_or}
use Rattle.meaning.specs.Below.{some, first}
use Rattle.meaning.specs.Bytes.{bytes, cut}
use Rattle.meaning.specs.Table.{kinds, place, transition, table}
use Rattle.meaning.specs.Answer.{Answer, refused, decide}
use Rattle.meaning.specs.Priority.{through, above}
use Rattle.meaning.specs.Defined.{bad_length, bad_kind, interval, bad_field, same, twice, fault, faulty, names_place}
use Rattle.meaning.specs.Defined.{names_transition, names_second, unknown, empty, arc_at_place, arc_at_transition}
use Rattle.meaning.specs.Defined.{isolated, circle, some_two, conflict, complementary, inhibited, settled, unsettled}
use Rattle.meaning.specs.Defined.{in_unsettled, table_checks, check}
use Rattle.meaning.specs.Calls.{lookup_from}
use Rattle.meaning.specs.Promise.{Checked, Started, LookedUp}
use Rattle.meaning.specs.Nets as net
use Rattle.engine.proofs.Starts.{started_refused}

-- THE TABLES, EACH WITH ITS ANSWER

-- An unknown place number in record 0, and no kind in record 1.
abbrev pub bad_2_late : List ℕ
bad_2_late = net.place 200 0 ++ replicate 8 0

-- An action at an undeclared place, and then a place declared again.
abbrev pub twice_late : List ℕ
twice_late = net.place 0 0 ++ net.action 1 0 ++ net.place 0 0

-- An arc to a transition, and no transition declared.
abbrev pub no_transition : List ℕ
no_transition = net.place 0 0 ++ net.basic 0 0

-- A place by itself.
abbrev pub one_place : List ℕ
one_place = net.place 0 0

-- A transition above itself, and no arc.
abbrev pub circle_alone : List ℕ
circle_alone = net.place 0 0 ++ net.untimed 0 ++ net.over 0 0

-- Two transitions in conflict, one of them above itself.
abbrev pub circle_in_conflict : List ℕ
circle_in_conflict = net.place 0 0 ++ net.untimed 0 ++ net.untimed 1 ++ net.basic 0 0 ++ net.basic 0 1 ++ net.over 0 0

-- Two records of no kind.
abbrev pub no_kinds : List ℕ
no_kinds = replicate 16 0

-- Two records with a place number out of range.
abbrev pub high_places : List ℕ
high_places = net.place 200 0 ++ net.place 200 0

-- A place declared twice.
abbrev pub place_twice : List ℕ
place_twice = net.place 0 0 ++ net.place 0 0

-- Two actions at undeclared places.
abbrev pub two_unknown : List ℕ
two_unknown = net.place 0 0 ++ net.action 1 0 ++ net.action 2 0

-- Three transitions in conflict over one place.
abbrev pub three_takers : List ℕ
three_takers = net.place 0 0 ++ net.untimed 0 ++ net.untimed 1 ++ net.untimed 2 ++ net.basic 0 0 ++ net.basic 0 1 ++ net.basic 0 2

-- A test arc beside a basic arc; their transition is undeclared.
abbrev pub test_beside_basic : List ℕ
test_beside_basic = net.place 0 0 ++ net.basic 0 0 ++ net.test 0 0

-- A condition wanted true and false; its transition is undeclared.
abbrev pub both_ways : List ℕ
both_ways = net.wants 0 0 ++ 4 ∷ 0 ∷ 0 ∷ 1 ∷ replicate 4 0

-- A post arc beside a basic arc; their transition is undeclared.
abbrev pub post_beside_basic : List ℕ
post_beside_basic = net.place 0 0 ++ net.basic 0 0 ++ net.post 0 0

-- No record: there is no place.
abbrev pub nothing : List ℕ
nothing = []

-- Each answer is computed by the definitions themselves.
answers : (check bad_2_late ≡ refused 3 0)
    × (check twice_late ≡ refused 4 2)
    × (check no_transition ≡ refused 5 1)
    × (check one_place ≡ refused 6 1)
    × (check circle_alone ≡ refused 7 0)
    × (check circle_in_conflict ≡ refused 8 0)
    × (check no_kinds ≡ refused 2 0)
    × (check high_places ≡ refused 3 0)
    × (check place_twice ≡ refused 4 1)
    × (check two_unknown ≡ refused 5 1)
    × (check three_takers ≡ refused 9 1)
    × (check test_beside_basic ≡ refused 4 2)
    × (check both_ways ≡ refused 4 1)
    × (check post_beside_basic ≡ refused 5 1)
    × (check nothing ≡ refused 6 0)
unfolding some first bytes cut kinds place transition table decide through above bad_length bad_kind interval bad_field same twice fault faulty names_place names_transition names_second unknown empty arc_at_place arc_at_transition isolated circle some_two conflict complementary inhibited settled unsettled in_unsettled table_checks check
answers = (refl, refl, refl, refl, refl, refl, refl, refl, refl, refl, refl, refl, refl, refl, refl)

-- CHECK

-- What is checked of a table is its own answer, number and where.
told : {bs : List ℕ} {n w m v : ℕ} → check bs ≡ refused m v → Checked bs (refused n w) → (n ≡ m) × (w ≡ v)
told e c = (ap (λ (a : Answer). a.number) (c.answer_is ∙ e), ap (λ (a : Answer). a.at) (c.answer_is ∙ e))

-- Tests all records for 2 before any for 3.
pub two_first : ¬ Checked bad_2_late (refused 2 1)
two_first c = omega (arith, told answers.0 c)

-- Answers 5 before 4.
pub five_before_four : ¬ Checked twice_late (refused 5 1)
five_before_four c = omega (arith, told answers.1 c)

-- Answers 6 before 5.
pub six_before_five : ¬ Checked no_transition (refused 6 1)
six_before_five c = omega (arith, told answers.2 c)

-- Answers 7 before 6.
pub seven_before_six : ¬ Checked one_place (refused 7 0)
seven_before_six c = omega (arith, told answers.3 c)

-- Answers 8 before 7.
pub eight_before_seven : ¬ Checked circle_alone (refused 8 0)
eight_before_seven c = omega (arith, told answers.4 c)

-- Answers 9 before 8.
pub nine_before_eight : ¬ Checked circle_in_conflict (refused 9 1)
nine_before_eight c = omega (arith, told answers.5 c)

-- Answers 2 at the last bad record.
pub last_bad_kind : ¬ Checked no_kinds (refused 2 1)
last_bad_kind c = omega (arith, told answers.6 c)

-- Answers 3 at the last bad record.
pub last_bad_field : ¬ Checked high_places (refused 3 1)
last_bad_field c = omega (arith, told answers.7 c)

-- Answers 4 at the earlier of the two records.
pub earlier_of_two : ¬ Checked place_twice (refused 4 0)
earlier_of_two c = omega (arith, told answers.8 c)

-- Answers 5 at the last record that names an unknown.
pub last_unknown : ¬ Checked two_unknown (refused 5 2)
last_unknown c = omega (arith, told answers.9 c)

-- Answers 9 at the last pair, 1 and 2, instead of the least, 0 and 1.
pub last_pair : ¬ Checked three_takers (refused 9 66)
last_pair c = omega (arith, told answers.10 c)

-- Lets the second input arc through and goes on to 5.
pub second_input_arc : ¬ Checked test_beside_basic (refused 5 1)
second_input_arc c = omega (arith, told answers.11 c)

-- Lets the condition's other sort through and goes on to 5.
pub same_condition : ¬ Checked both_ways (refused 5 0)
same_condition c = omega (arith, told answers.12 c)

-- Refuses the post arc as twice.
pub post_arc_twice : ¬ Checked post_beside_basic (refused 4 2)
post_arc_twice c = omega (arith, told answers.13 c)

-- START

-- An image of 768 ones, and one of 768 zeros.
abbrev pub ones : List ℕ
ones = replicate 768 1

abbrev pub zeros : List ℕ
zeros = replicate 768 0

-- The empty table is refused.
refuses_nothing : ¬ ((check nothing).number ≡ 0)
refuses_nothing z = omega (arith, ap (λ (a : Answer). a.number) answers.14, z)

-- Clears the image before it refuses the table, whatever it answers.
pub clears_before_it_refuses : (answer : Answer) → ¬ Started nothing ones answer zeros
clears_before_it_refuses answer s =
    let left = (started_refused nothing ones refuses_nothing).1 in
    omega (arith, ap (λ (l : List ℕ). get_or l 0 0) (s.image_is ∙ left))

-- Answers 12 before it tests the table.
pub room_before_table : (image : List ℕ) → ¬ Started nothing [] (refused 12 0) image
room_before_table image s =
    let left = (started_refused nothing [] refuses_nothing).0 in
    omega (arith, ap (λ (a : Answer). a.number) (s.answer_is ∙ left ∙ answers.14))

-- LOOKUP

-- Two equal records stand in 48 bytes, the second at byte 24.
second_at_24 : lookup_from (replicate 48 0) 2 ≡ 24
unfolding lookup_from
second_at_24 = refl

-- Hands back the part of cycle 1 for cycle 2, where the bytes of the two are equal.
pub first_of_equal_records : (block byte : ℕ)
    → ¬ LookedUp (replicate 48 0) (block, byte) 2 (replicate 24 0) (block, byte)
first_of_equal_records block byte l = omega (arith, l.byte_is, second_at_24)
