-- Document 02, request (i): a count for the day. What count, add and net change leave behind. A summary is 65
-- numbers: the cycles, and then how often each of the transitions 0 to 63 fired.
use Rattle.std.specs.Prelude.{Bool, cond, not, ◌&&◌, ◌||◌, List, [], ◌∷◌, ◌++◌, ℕ, zero, suc, ◌+◌, ◌*◌, ◌/◌, ◌%◌, ltb}
use Rattle.std.specs.Prelude.{eqb, ℤ, pos, ◌-ℤ◌, length, get_or, take, drop, replicate}
use Rattle.meaning.specs.Below.{some, sum}
use Rattle.meaning.specs.Bytes.{number, bit}
use Rattle.meaning.specs.Table.{Table, table, arc, transition, total}
use Rattle.meaning.specs.Answer.{Answer, accepted, refused, Check, check_of, decide}
use Rattle.meaning.specs.Defined.{table_checks}

-- f 0, f 1 and so on up to f (n - 1), as a list.
unfoldable pub listed : {A : Type 0} → ℕ → (ℕ → A) → List A
listed zero f = []
listed (suc n) f = listed n f ++ f n ∷ []

-- A summary's cycles, and how often transition k fired.
abbrev pub cycles_of : List ℕ → ℕ
cycles_of s = get_or s 0 0

abbrev pub times_of : List ℕ → ℕ → ℕ
times_of s k = get_or s (suc k) 0

-- The empty summary: no cycle, and nothing fired. A refused call gives it too.
abbrev pub empty : List ℕ
empty = replicate 65 0

-- What count and add leave: the answer and the summary's numbers, all 0 where the call is refused.
pub record Summed : Type 0 where
  pub answer : Answer
  pub counts : List ℕ

unfoldable pub summed : Answer → List ℕ → Summed
summed a s =
    let given = s in
    record { answer = a; counts = cond (eqb a.number 0) given empty }

-- COUNT

-- The fired word of record r of a report: the first eight of its 24 bytes.
unfoldable pub fired_word : List ℕ → ℕ → ℕ
fired_word report r = number (take 8 (drop (24 * r) report))

-- A fired bit of record r names no transition of the table.
unfoldable pub strange : Table → List ℕ → ℕ → Bool
strange tb report r = some 64 (λ k. bit (fired_word report r) k && not (transition tb k))

-- The length is no multiple of 24, or above 12,288.
unfoldable pub bad_report : List ℕ → Bool
bad_report report = not (eqb (length report % 24) 0) || ltb 12288 (length report)

-- 14 report: the length, where 512; then the first record with such a bit.
unfoldable pub report_checks : Table → List ℕ → List Check
report_checks tb report =
    check_of 1 (λ k. bad_report report) (λ k. refused 14 512)
    ∷ check_of (length report / 24) (strange tb report) (λ r. refused 14 r)
    ∷ []

unfoldable pub count_checks : List ℕ → List ℕ → List Check
count_checks bs report = table_checks bs ++ report_checks (table bs) report

-- How often transition k fired in the first n records of a report.
unfoldable pub times : List ℕ → ℕ → ℕ → ℕ
times report n k = sum n (λ r. cond (bit (fired_word report r) k) 1 0)

-- The summary of a report: a cycle a record.
unfoldable pub summary : List ℕ → List ℕ
summary report =
    let n = length report / 24 in
    n ∷ listed 64 (times report n)

-- Count tests 1 to 9, then 14.
unfoldable pub count : List ℕ → List ℕ → Summed
count bs report = summed (decide (count_checks bs report) (accepted 0)) (summary report)

-- ADD

-- A transition fired more often than there are cycles.
unfoldable pub too_often : List ℕ → Bool
too_often s = some 64 (λ k. ltb (cycles_of s) (times_of s k))

-- 15 count: one of the two has such a transition, or the cycles together pass 4,294,967,295.
unfoldable pub add_checks : List ℕ → List ℕ → List Check
add_checks one other =
    check_of 1
    (λ k. too_often one || too_often other || ltb 4294967295 (cycles_of one + cycles_of other))
    (λ k. refused 15 0)
    ∷ []

-- Number by number.
unfoldable pub plus : List ℕ → List ℕ → List ℕ
plus one other = listed 65 (λ i. get_or one i 0 + get_or other i 0)

unfoldable pub add : List ℕ → List ℕ → Summed
add one other = summed (decide (add_checks one other) (accepted 0)) (plus one other)

-- NET CHANGE

-- What the arcs of one sort move at place p when each transition fires as often as the summary says: weight times
-- count, over the records.
unfoldable pub moved : Table → ℕ → List ℕ → ℕ → ℕ
moved tb sort s p = total tb (λ r. arc tb sort r && eqb (tb.one r) p) (λ r. tb.four r * times_of s (tb.two r))

-- The net change of place p: what post arcs put there less what basic arcs take, with its sign.
unfoldable pub change : Table → List ℕ → ℕ → ℤ
change tb s p = pos (moved tb 3 s p) -ℤ pos (moved tb 0 s p)

-- 15 count: a transition of the summary fired more often than there are cycles.
unfoldable pub change_checks : List ℕ → List ℕ → List Check
change_checks bs s = table_checks bs ++ check_of 1 (λ k. too_often s) (λ k. refused 15 0) ∷ []

-- What net change leaves: the answer and a number a place, all 0 where the call is refused.
pub record Changed : Type 0 where
  pub answer : Answer
  pub change : List ℤ

abbrev pub no_change : List ℤ
no_change = replicate 128 (pos 0)

-- Net change tests 1 to 9, then 15.
unfoldable pub net_change : List ℕ → List ℕ → Changed
net_change bs s =
    let answer = decide (change_checks bs s) (accepted 0) in
    let changes = listed 128 (change (table bs) s) in
    record { answer = answer; change = cond (eqb answer.number 0) changes no_change }
