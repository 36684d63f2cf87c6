-- Wrong engines of run: on a named input run's promise refuses what such an engine answers or leaves. Some are an
-- edit of the code too (`residual_of_basic_arcs`, `reset_by_new_marking`, `fires_nothing`), the others are not.
use mathlib.Core.List.{List, ◌++◌}
use mathlib.Core.Path.{◌≡◌, refl, ap, ◌∙◌}
use Prim.Native.Nat.{ℕ, ◌*◌}
use native.Mathlib.Omega.{arith}
use lib.ListN.{replicate, get_or}
use Rattle.meaning.specs.Below.{some, every, sum, first, members, within}
use Rattle.meaning.specs.Bytes.{number, bytes, bit, bits, cut}
use Rattle.meaning.specs.Table.{kinds, place, transition, total, ceiling, table}
use Rattle.meaning.specs.Answer.{Answer, decide}
use Rattle.meaning.specs.Priority.{through, above}
use Rattle.meaning.specs.Defined.{bad_length, bad_kind, interval, bad_field, same, twice, fault, faulty, names_place}
use Rattle.meaning.specs.Defined.{names_transition, names_second, unknown, empty, arc_at_place, arc_at_transition}
use Rattle.meaning.specs.Defined.{isolated, circle, some_two, conflict, complementary, inhibited, settled, unsettled}
use Rattle.meaning.specs.Defined.{in_unsettled, table_checks}
use Rattle.meaning.specs.Image.{state, join, image, image_bytes, fresh, wrong_place, most, most_order}
use Rattle.meaning.specs.Image.{wrong_transition, wrong, state_checks}
use Rattle.meaning.specs.Cycle.{stops, enabled, active, risen, counted, falling, as_wanted, in_time, firable}
use Rattle.meaning.specs.Cycle.{withdrawn, added, residual, rule, rounds, fired, marked, executed, starved, reset}
use Rattle.meaning.specs.Cycle.{rising, record_of, cycle, overfull}
use Rattle.meaning.specs.Calls.{words_of, word_checks, run_checks, trace, run}
use Rattle.meaning.specs.Promise.{Ran}
use Rattle.meaning.specs.Nets.{N_unsettled, N, net6, net7, net9, put_back, two_full}
use Rattle.meaning.specs.Nets as net

-- THE INPUTS

-- The image of a fresh net, so many words that are 0, and a report of so many 7s.
abbrev pub begun : List ℕ → List ℕ
begun bs = image_bytes (fresh (table bs))

abbrev pub quiet : ℕ → List ℕ
quiet n = replicate (8 * n) 0

abbrev pub sevens : ℕ → List ℕ
sevens n = replicate n 7

-- Net 7 with t0 above t1, and net 9 with t1, which takes.
abbrev pub net7_ranked : List ℕ
net7_ranked = net7 ++ net.over 0 1

abbrev pub net9_taken : List ℕ
net9_taken = net9 ++ net.untimed 1 ++ net.basic 0 1

-- Net 9 with a timed transition that its place enables.
abbrev pub net9_timed : List ℕ
net9_timed = net9 ++ net.between 1 2 3 ++ net.test 0 1

-- What run leaves of each, computed by the definitions themselves: a byte of the report or the image, or a part of
-- the answer.
leaves : (get_or (run net7_ranked (begun net7_ranked) (quiet 1) (sevens 24)).report 0 0 ≡ 1)
    × (get_or (run put_back (begun put_back) (quiet 1) (sevens 24)).report 0 0 ≡ 1)
    × (get_or (run N (begun N) (quiet 2) (sevens 48)).report 24 0 ≡ 0)
    × (get_or (run N (begun N) (quiet 1) (sevens 48)).report 24 0 ≡ 7)
    × (get_or (run N (begun N) (quiet 1) (sevens 24)).report 8 0 ≡ 0)
    × (get_or (run net9 (begun net9) (quiet 1) (sevens 24)).report 0 0 ≡ 7)
    × (get_or (run net9 (begun net9) (quiet 1) (sevens 24)).image 0 0 ≡ 255)
    × (get_or (run net9_timed (begun net9_timed) (quiet 1) (sevens 24)).image 516 0 ≡ 0)
    × ((run two_full (begun two_full) (quiet 1) (sevens 24)).answer.at ≡ 0)
    × ((run net9_taken (begun net9_taken) (quiet 1) (sevens 24)).answer.number ≡ 0)
    × (get_or (run (net6 1) (begun (net6 1)) (quiet 2) (sevens 48)).report 24 0 ≡ 1)
    × (get_or (run N (begun N) (quiet 1) (sevens 24)).image 0 0 ≡ 0)
    × ((run N (begun N) (quiet 1) (sevens 24)).answer.cycles ≡ 1)
    × ((run N (begun N) (quiet 1) (sevens 24)).answer.number ≡ 0)
    × (get_or (run N (begun N) (quiet 1) (sevens 24)).report 0 0 ≡ 1)
unfolding some every sum first members within number bytes bit bits cut kinds place transition total ceiling table decide through above bad_length bad_kind interval bad_field same twice fault faulty names_place names_transition names_second unknown empty arc_at_place arc_at_transition isolated circle some_two conflict complementary inhibited settled unsettled in_unsettled table_checks state join image image_bytes fresh wrong_place most most_order wrong_transition wrong state_checks stops enabled active risen counted falling as_wanted in_time firable withdrawn added residual rule rounds fired marked executed starved reset rising record_of cycle overfull words_of word_checks run_checks trace run N N_unsettled net6 net7 net9 put_back two_full
leaves = (refl, refl, refl, refl, refl, refl, refl, refl, refl, refl, refl, refl, refl, refl, refl)

-- Byte i of the report, and of the image, that the statement allows.
report_byte : {bs img ws report img' report' : List ℕ} {a : Answer} (i : ℕ) → Ran bs img ws report a img' report'
    → get_or report' i 0 ≡ get_or (run bs img ws report).report i 0
report_byte i r = ap (λ (l : List ℕ). get_or l i 0) r.report_is

image_byte : {bs img ws report img' report' : List ℕ} {a : Answer} (i : ℕ) → Ran bs img ws report a img' report'
    → get_or img' i 0 ≡ get_or (run bs img ws report).image i 0
image_byte i r = ap (λ (l : List ℕ). get_or l i 0) r.image_is

-- THE ENGINES

module _ (a : Answer) (img report : List ℕ) where
  -- Asks the residual of basic arcs only: t1's test arc still finds its token, and both fire (document 01, errors, 3).
  pub residual_of_basic_arcs : get_or report 0 0 ≡ 3
      → ¬ Ran net7_ranked (begun net7_ranked) (quiet 1) (sevens 24) a img report
  residual_of_basic_arcs e r = omega (arith, e, report_byte 0 r, leaves.0)

  -- Counts in the residual what is put back: t1 spends the token that t0 puts back (document 01, errors, 6). No edit
  -- of the code does that: when the set is chosen nothing is put yet, and what will be put is added up only once the
  -- set is known.
  pub residual_with_posts : get_or report 0 0 ≡ 3 → ¬ Ran put_back (begun put_back) (quiet 1) (sevens 24) a img report
  residual_with_posts e r = omega (arith, e, report_byte 0 r, leaves.1)

  -- Does cycle 1 and copies its record onward: cycle 2 of net N fires 1 again.
  pub copies_record_1 : get_or report 24 0 ≡ 1 → ¬ Ran N (begun N) (quiet 2) (sevens 48) a img report
  copies_record_1 e r = omega (arith, e, report_byte 24 r, leaves.2)

  -- Writes beyond the finished cycles.
  pub writes_beyond : get_or report 24 0 ≡ 0 → ¬ Ran N (begun N) (quiet 1) (sevens 48) a img report
  writes_beyond e r = omega (arith, e, report_byte 24 r, leaves.3)

  -- Takes the actions from the new marking: after cycle 1 of net N place 3 has a token.
  pub actions_of_the_new_marking : get_or report 8 0 ≡ 1 → ¬ Ran N (begun N) (quiet 1) (sevens 24) a img report
  actions_of_the_new_marking e r = omega (arith, e, report_byte 8 r, leaves.4)

  -- Leaves the record of a refused cycle.
  pub keeps_the_refused_record : get_or report 0 0 ≡ 1 → ¬ Ran net9 (begun net9) (quiet 1) (sevens 24) a img report
  keeps_the_refused_record e r = omega (arith, e, report_byte 0 r, leaves.5)

  -- Leaves the tokens of a refused cycle, as far as two bytes hold them.
  pub keeps_the_refused_tokens : get_or img 0 0 ≡ 0 → ¬ Ran net9 (begun net9) (quiet 1) (sevens 24) a img report
  keeps_the_refused_tokens e r = omega (arith, e, image_byte 0 r, leaves.6)

  -- Leaves the counters of a refused cycle.
  pub keeps_the_refused_counters : get_or img 516 0 ≡ 1
      → ¬ Ran net9_timed (begun net9_timed) (quiet 1) (sevens 24) a img report
  keeps_the_refused_counters e r = omega (arith, e, image_byte 516 r, leaves.7)

  -- Answers 13 at the highest such place.
  pub highest_full : a.at ≡ 1 → ¬ Ran two_full (begun two_full) (quiet 1) (sevens 24) a img report
  highest_full e r = omega (arith, e, ap (λ (b : Answer). b.at) r.answer_is, leaves.8)

  -- Judges 13 before the withdrawals.
  pub full_before_withdrawals : a.number ≡ 13 → ¬ Ran net9_taken (begun net9_taken) (quiet 1) (sevens 24) a img report
  full_before_withdrawals e r = omega (arith, e, ap (λ (b : Answer). b.number) r.answer_is, leaves.9)

  -- Judges a reset by the new marking: t0 takes the token of net 6 and puts it back, so t1 is never reset, and fires
  -- in cycle 2.
  pub reset_by_new_marking : get_or report 24 0 ≡ 3 → ¬ Ran (net6 1) (begun (net6 1)) (quiet 2) (sevens 48) a img report
  reset_by_new_marking e r = omega (arith, e, report_byte 24 r, leaves.10)

  -- Leaves the image untouched: place 0 of net N keeps its token.
  pub image_untouched : get_or img 0 0 ≡ 1 → ¬ Ran N (begun N) (quiet 1) (sevens 24) a img report
  image_untouched e r = omega (arith, e, image_byte 0 r, leaves.11)

  -- Invents the cycles done.
  pub cycles_invented : a.cycles ≡ 512 → ¬ Ran N (begun N) (quiet 1) (sevens 24) a img report
  cycles_invented e r = omega (arith, e, ap (λ (b : Answer). b.cycles) r.answer_is, leaves.12)

  -- Refuses every table: net N is well defined, its image fits and its word can be done.
  pub refuses_all : ¬ (a.number ≡ 0) → ¬ Ran N (begun N) (quiet 1) (sevens 24) a img report
  refuses_all e r = e (ap (λ (b : Answer). b.number) r.answer_is ∙ leaves.13)

  -- Fires nothing.
  pub fires_nothing : get_or report 0 0 ≡ 0 → ¬ Ran N (begun N) (quiet 1) (sevens 24) a img report
  fires_nothing e r = omega (arith, e, report_byte 0 r, leaves.14)
