-- The nets that the page marks P come out as it says: each case is computed by the definitions themselves.
use mathlib.Core.Path.{◌≡◌, refl}
use mathlib.Core.Bool.{Bool, true, false, ◌&&◌}
use mathlib.Core.List.{List, [], ◌∷◌, ◌++◌}
use Rattle.meaning.specs.Below.{some, every, sum, first, members, within}
use Rattle.meaning.specs.Bytes.{number, bytes, bit, bits, cut}
use Rattle.meaning.specs.Table.{kinds, place, transition, total, ceiling, table}
use Rattle.meaning.specs.Answer.{decide}
use Rattle.meaning.specs.Priority.{through, above}
use Rattle.meaning.specs.Defined.{bad_length, bad_kind, interval, bad_field, same, twice, fault, faulty, names_place}
use Rattle.meaning.specs.Defined.{names_transition, names_second, unknown, empty, arc_at_place, arc_at_transition}
use Rattle.meaning.specs.Defined.{isolated, circle, some_two, conflict, complementary, inhibited, settled, unsettled}
use Rattle.meaning.specs.Defined.{in_unsettled, table_checks}
use Rattle.meaning.specs.Image.{state, join, image, image_bytes, fresh, wrong_place, most, most_order}
use Rattle.meaning.specs.Image.{wrong_transition, wrong, state_checks}
use Rattle.meaning.specs.Cycle.{stops, enabled, active, risen, counted, falling, as_wanted, in_time, firable}
use Rattle.meaning.specs.Cycle.{withdrawn, added, residual, rule, rounds, fired, marked, executed, starved, reset}
use Rattle.meaning.specs.Cycle.{rising, record_of, cycle, overfull}
use Rattle.meaning.specs.Calls.{start_checks, start, words_of, word_checks, run_checks, trace, run}
use Rattle.meaning.specs.Nets.{N, N_unsettled, net7, net8, net6, alike, word_bytes, sets_at, counts_of, passes, net5}
use Rattle.meaning.specs.Nets.{net9, net10, nets_1_to_5, nets_6_to_10, all_pass, net11, net12, put_back, two_full}
use Rattle.meaning.specs.Nets.{beside, Case, nets}

-- The cases of net N as printed and nets 1 to 5, and of nets 6 to 10. Each is a computation of its own, since one
-- alone has steps enough.
first_half : all_pass nets_1_to_5 ≡ true
unfolding some every sum first members within number bytes bit bits cut kinds place transition total ceiling table decide through above bad_length bad_kind interval bad_field same twice fault faulty names_place names_transition names_second unknown empty arc_at_place arc_at_transition isolated circle some_two conflict complementary inhibited settled unsettled in_unsettled table_checks state join image image_bytes fresh wrong_place most most_order wrong_transition wrong state_checks stops enabled active risen counted falling as_wanted in_time firable withdrawn added residual rule rounds fired marked executed starved reset rising record_of cycle overfull start_checks start words_of word_checks run_checks trace run N N_unsettled net7 net8 net6 alike word_bytes sets_at counts_of passes net5 net9 net10 nets_1_to_5 nets_6_to_10 all_pass net11 net12 put_back two_full beside
first_half = refl

second_half : all_pass nets_6_to_10 ≡ true
unfolding some every sum first members within number bytes bit bits cut kinds place transition total ceiling table decide through above bad_length bad_kind interval bad_field same twice fault faulty names_place names_transition names_second unknown empty arc_at_place arc_at_transition isolated circle some_two conflict complementary inhibited settled unsettled in_unsettled table_checks state join image image_bytes fresh wrong_place most most_order wrong_transition wrong state_checks stops enabled active risen counted falling as_wanted in_time firable withdrawn added residual rule rounds fired marked executed starved reset rising record_of cycle overfull start_checks start words_of word_checks run_checks trace run N N_unsettled net7 net8 net6 alike word_bytes sets_at counts_of passes net5 net9 net10 nets_1_to_5 nets_6_to_10 all_pass net11 net12 put_back two_full beside
second_half = refl

-- Nets 11 and 12, and our own cases.
pub beside_pass : all_pass beside ≡ true
unfolding some every sum first members within number bytes bit bits cut kinds place transition total ceiling table decide through above bad_length bad_kind interval bad_field same twice fault faulty names_place names_transition names_second unknown empty arc_at_place arc_at_transition isolated circle some_two conflict complementary inhibited settled unsettled in_unsettled table_checks state join image image_bytes fresh wrong_place most most_order wrong_transition wrong state_checks stops enabled active risen counted falling as_wanted in_time firable withdrawn added residual rule rounds fired marked executed starved reset rising record_of cycle overfull start_checks start words_of word_checks run_checks trace run N N_unsettled net7 net8 net6 alike word_bytes sets_at counts_of passes net5 net9 net10 nets_1_to_5 nets_6_to_10 all_pass net11 net12 put_back two_full beside
beside_pass = refl

-- Two lists of cases pass together if each does.
meet : (a b c : Bool) → (a && b) ≡ true → (b ≡ true → c ≡ true) → (a && c) ≡ true
meet true b c p f = f p
meet false b c p f = p

both : (cs ds : List Case) → all_pass cs ≡ true → all_pass ds ≡ true → all_pass (cs ++ ds) ≡ true
unfolding all_pass
both [] ds p q = q
both (c ∷ cs) ds p q = meet (passes c) (all_pass cs) (all_pass (cs ++ ds)) p (λ r. both cs ds r q)

-- Every net that the page marks P passes, and net N as it is printed.
pub worked : all_pass nets ≡ true
unfolding nets
worked = both nets_1_to_5 nets_6_to_10 first_half second_half
