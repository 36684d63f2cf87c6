-- Wrong engines of count, add and net change: on a named input the promises refuse what such an engine answers.
use mathlib.Core.List.{List, [], ◌∷◌, ◌++◌}
use mathlib.Core.Path.{◌≡◌, refl, sym, ap, ◌∙◌}
use Prim.Native.Nat.{ℕ}
use native.Mathlib.Omega.{arith}
use lib.IntN.{ℤ, pos, negsuc, nat_abs, pos-ne-negsuc}
use lib.ListN.{replicate, get_or}
use Rattle.meaning.specs.Below.{some, sum, first}
use Rattle.meaning.specs.Bytes.{number, bytes, bit, cut}
use Rattle.meaning.specs.Table.{kinds, place, transition, table, total}
use Rattle.meaning.specs.Answer.{Answer, accepted, refused, decide}
use Rattle.meaning.specs.Priority.{through, above}
use Rattle.meaning.specs.Defined.{bad_length, bad_kind, interval, bad_field, same, twice, fault, faulty, names_place}
use Rattle.meaning.specs.Defined.{names_transition, names_second, unknown, empty, arc_at_place, arc_at_transition}
use Rattle.meaning.specs.Defined.{isolated, circle, some_two, conflict, complementary, inhibited, settled, unsettled}
use Rattle.meaning.specs.Defined.{in_unsettled, table_checks}
use Rattle.meaning.specs.Nets as net
use Rattle.summary.specs.Day.{Summed, listed, summed, fired_word, strange, bad_report, report_checks}
use Rattle.summary.specs.Day.{count_checks, times, summary, count, too_often, add_checks, add, moved, change}
use Rattle.summary.specs.Day.{change_checks, net_change}
use Rattle.summary.specs.Promised.{Counted, Added, NetChanged}

-- THE INPUTS

-- t0 takes from place 0 and puts to place 1; t1 tests place 0 and puts to place 1. Place 0 carries action 1.
abbrev pub day_net : List ℕ
day_net =
    net.place 0 2 ++ net.place 1 0 ++ net.untimed 0 ++ net.untimed 1
    ++ net.basic 0 0 ++ net.post 1 0 ++ net.test 0 1 ++ net.post 1 1 ++ net.action 0 1

-- The record of a cycle in which a set fired, with action 1 active.
abbrev cycle_of : ℕ → List ℕ
cycle_of fired = bytes 8 fired ++ bytes 8 2 ++ bytes 8 0

-- t1 fires; t1 fires and then t0; a set with transition 5 in it, which the net lacks, twice; the same with a byte too
-- many.
abbrev pub one_fires : List ℕ
one_fires = cycle_of 2

abbrev pub both_fire : List ℕ
both_fire = cycle_of 2 ++ cycle_of 1

abbrev pub strangers : List ℕ
strangers = cycle_of 2 ++ cycle_of 32 ++ cycle_of 32

abbrev pub odd_strangers : List ℕ
odd_strangers = cycle_of 32 ++ 0 ∷ []

-- Three cycles: t0 fired once, t1 twice. A count above the cycles. As many cycles as there can be, and one more.
abbrev pub three_cycles : List ℕ
three_cycles = 3 ∷ 1 ∷ 2 ∷ replicate 62 0

abbrev pub unfair : List ℕ
unfair = 1 ∷ 2 ∷ replicate 63 0

abbrev pub most_cycles : List ℕ
most_cycles = 4294967295 ∷ replicate 64 0

abbrev pub one_cycle : List ℕ
one_cycle = 1 ∷ replicate 64 0

-- WHAT THE DEFINITIONS SAY OF THEM

counted : ((count day_net one_fires).counts ≡ 1 ∷ 0 ∷ 1 ∷ replicate 62 0)
    × ((count day_net both_fire).counts ≡ 2 ∷ 1 ∷ 1 ∷ replicate 62 0)
    × (count day_net strangers ≡ record { answer = refused 14 1; counts = replicate 65 0 })
    × ((count day_net odd_strangers).answer ≡ refused 14 512)
unfolding some sum first number bytes bit cut kinds place transition table total decide through above bad_length bad_kind interval bad_field same twice fault faulty names_place names_transition names_second unknown empty arc_at_place arc_at_transition isolated circle some_two conflict complementary inhibited settled unsettled in_unsettled table_checks listed summed fired_word strange bad_report report_checks count_checks times summary count
counted = (refl, refl, refl, refl)

sums : ((add unfair one_cycle).answer ≡ refused 15 0) × ((add most_cycles one_cycle).answer ≡ refused 15 0)
unfolding some first decide summed too_often add_checks add
sums = (refl, refl)

changes : (get_or (net_change day_net three_cycles).change 0 (pos 0) ≡ negsuc 0)
    × (get_or (net_change day_net three_cycles).change 1 (pos 0) ≡ pos 3)
    × ((net_change day_net unfair).answer ≡ refused 15 0)
unfolding some sum first number bytes bit cut kinds place transition table total decide through above bad_length bad_kind interval bad_field same twice fault faulty names_place names_transition names_second unknown empty arc_at_place arc_at_transition isolated circle some_two conflict complementary inhibited settled unsettled in_unsettled table_checks listed too_often moved change change_checks net_change
changes = (refl, refl, refl)

-- COUNT

-- Number i of what is counted.
told : {bs report counts : List ℕ} {a : Answer} (i : ℕ) → Counted bs report a counts
    → get_or counts i 0 ≡ get_or (count bs report).counts i 0
told i c = ap (λ (l : List ℕ). get_or l i 0) c.counts_are

-- Counts every record as one in which transition 0 fired.
pub fired_0_always : ¬ Counted day_net one_fires (accepted 0) (1 ∷ 1 ∷ replicate 63 0)
fired_0_always c = omega (arith, told 1 c ∙ ap (λ (l : List ℕ). get_or l 1 0) counted.0)

-- Counts the actions' word: action 1 in both cycles.
pub actions_counted : ¬ Counted day_net both_fire (accepted 0) (2 ∷ 0 ∷ 2 ∷ replicate 62 0)
actions_counted c = omega (arith, told 1 c ∙ ap (λ (l : List ℕ). get_or l 1 0) counted.1)

-- Skips the last record.
pub last_record_skipped : ¬ Counted day_net both_fire (accepted 0) (1 ∷ 0 ∷ 1 ∷ replicate 62 0)
last_record_skipped c = omega (arith, told 0 c ∙ ap (λ (l : List ℕ). get_or l 0 0) counted.1)

-- Answers 14 at the last record with a stranger.
pub last_stranger : (counts : List ℕ) → ¬ Counted day_net strangers (refused 14 2) counts
last_stranger counts c =
    omega (arith, ap (λ (a : Answer). a.at) (c.answer_is ∙ ap (λ (s : Summed). s.answer) counted.2))

-- Answers 14 at a record before it looks at the length.
pub record_before_length : (counts : List ℕ) → ¬ Counted day_net odd_strangers (refused 14 0) counts
record_before_length counts c = omega (arith, ap (λ (a : Answer). a.at) (c.answer_is ∙ counted.3))

-- Forgets the zeros: gives what it had counted before the stranger.
pub zeros_forgotten : (a : Answer) → ¬ Counted day_net strangers a (1 ∷ 0 ∷ 1 ∷ replicate 62 0)
zeros_forgotten a c = omega (arith, told 0 c ∙ ap (λ (s : Summed). get_or s.counts 0 0) counted.2)

-- ADD

-- Adds a summary that has a count above its cycles.
pub unfair_added : (counts : List ℕ) → ¬ Added unfair one_cycle (accepted 0) counts
unfair_added counts c = omega (arith, ap (λ (a : Answer). a.number) (c.answer_is ∙ sums.0))

-- Wraps: 4,294,967,295 cycles and one more are none.
pub sum_that_wraps : (counts : List ℕ) → ¬ Added most_cycles one_cycle (accepted 0) counts
sum_that_wraps counts c = omega (arith, ap (λ (a : Answer). a.number) (c.answer_is ∙ sums.1))

-- NET CHANGE

-- The size of what is changed at place p.
size : {bs s : List ℕ} {a : Answer} {d : List ℤ} (p : ℕ) → NetChanged bs s a d
    → nat_abs (get_or d p (pos 0)) ≡ nat_abs (get_or (net_change bs s).change p (pos 0))
size p c = ap (λ (d : List ℤ). nat_abs (get_or d p (pos 0))) c.change_is

-- Takes for puts: place 1 loses what it gained, and place 0 gains.
pub takes_for_puts : ¬ NetChanged day_net three_cycles (accepted 0) (pos 1 ∷ negsuc 2 ∷ replicate 126 (pos 0))
takes_for_puts c =
    pos-ne-negsuc 3 2
    (sym (ap (λ (d : List ℤ). get_or d 1 (pos 0)) c.change_is ∙ changes.1))

-- Takes by test arcs as by basic ones: place 0 loses three.
pub tests_take : ¬ NetChanged day_net three_cycles (accepted 0) (negsuc 2 ∷ pos 3 ∷ replicate 126 (pos 0))
tests_take c = omega (arith, size 0 c ∙ ap nat_abs changes.0)

-- Does not ask for 15.
pub unfair_changes : (d : List ℤ) → ¬ NetChanged day_net unfair (accepted 0) d
unfair_changes d c = omega (arith, ap (λ (a : Answer). a.number) (c.answer_is ∙ changes.2))
