-- The answers of the three calls are the first that is said: each list of checks says and catches its rows, the
-- table's before its own.
use mathlib.Core.Bool.{false, not, ◌||◌}
use mathlib.Core.List.{List}
use mathlib.Core.Path.{◌≡◌, refl, sym, ap, ◌∙◌}
use mathlib.Core.Logic.{◌↔◌, ◌⊎◌, inl, inr, ⊎_elim}
use Prim.Native.Nat.{ℕ, ◌+◌, ◌*◌, ◌/◌, ◌%◌, ◌≤◌, ◌<◌}
use native.Mathlib.Omega.{arith}
use lib.Dec.{eqb, ltb}
use lib.ListN.{length, take, drop}
use borrow.Author.Tests.{eqb-true, ltb-false, not-false}
use Rattle.meaning.specs.Bytes.{number, bit}
use Rattle.meaning.specs.Table.{Table, table}
use Rattle.meaning.specs.Answer.{accepted, refused, decide}
use Rattle.meaning.specs.Defined.{table_checks}
use Rattle.meaning.specs.Says.{TableSays, Transition, First, stage}
use Rattle.meaning.specs.Rules.{WordSpelt}
use Rattle.meaning.proofs.Bits.{condition_is}
use Rattle.meaning.proofs.Bool.{or_false_left, or_false_right}
use Rattle.meaning.proofs.Decide.{All, Refuses}
use Rattle.meaning.proofs.Reflect.{Decides, recast, refuted, eq_decides, lt_decides, and_decides, or_decides}
use Rattle.meaning.proofs.Reflect.{not_decides, some_decides}
use Rattle.meaning.proofs.Rows.{transition_decides}
use Rattle.meaning.proofs.Spelt.{word_spelt}
use Rattle.meaning.proofs.Tables.{table_speaks, table_refusing, table_catches, table_below}
use Rattle.meaning.proofs.Walk.{Caught, Speaks, refuses, accepts, all_append, speaks_append, caught_append}
use Rattle.meaning.proofs.Walk.{caught_behind, caught_once, caught_here}
use Rattle.summary.specs.Day.{fired_word, strange, bad_report, report_checks, count_checks, count}
use Rattle.summary.specs.Day.{cycles_of, times_of, too_often, add_checks, add, change_checks, net_change, summed}
use Rattle.summary.specs.Spoken.{FiredIn, CountSays, TooOften, AddSays, ChangeSays}

-- WHAT THE TESTS ASK

-- The fired word of a record is the one that its bytes spell, and no other.
pub word_is : (report : List ℕ) (r : ℕ) → WordSpelt report (3 * r) (fired_word report r)
unfolding fired_word
word_is report r =
    let here : 24 * r ≡ 8 * (3 * r) = omega arith in
    ap (λ (i : ℕ). number (take 8 (drop i report))) here ∙ word_spelt report (3 * r)

pub fired_decides : (report : List ℕ) (k r : ℕ) → Decides (bit (fired_word report r) k) (FiredIn report k r)
fired_decides report k r =
    recast (condition_is (fired_word report r) k) (λ t. (fired_word report r, word_is report r, t))
    (λ f. rw (word_is report r ∙ sym f.1) f.2)

strange_decides : (tb : Table) (report : List ℕ) (r : ℕ)
    → Decides (strange tb report r) ((k : ℕ) × (k < 64) × (FiredIn report k r × ¬ Transition tb k))
unfolding strange
strange_decides tb report r =
    some_decides 64 (λ k. and_decides (fired_decides report k r) (not_decides (transition_decides tb k)))

bad_decides : (report : List ℕ)
    → Decides (bad_report report) (¬ (length report % 24 ≡ 0) ⊎ (12288 < length report))
unfolding bad_report
bad_decides report = or_decides (not_decides (eq_decides (length report % 24) 0)) (lt_decides 12288 (length report))

pub often_decides : (s : List ℕ) → Decides (too_often s) (TooOften s)
unfolding too_often
often_decides s = some_decides 64 (λ k. lt_decides (cycles_of s) (times_of s k))

-- A report of a right length.
pub right_length : (report : List ℕ) → bad_report report ≡ false → (length report % 24 ≡ 0) × (length report ≤ 12288)
unfolding bad_report
right_length report e = (
  eqb-true (length report % 24) 0 (not-false _ (or_false_left (not (eqb (length report % 24) 0)) _ e)),
  ltb-false 12288 (length report) (or_false_right (not (eqb (length report % 24) 0)) _ e),
)

-- A call's answer is what its checks decide, whatever its numbers then are.
pub count_answer : (bs report : List ℕ) → (count bs report).answer ≡ decide (count_checks bs report) (accepted 0)
unfolding count summed
count_answer bs report = refl

pub add_answer : (one other : List ℕ) → (add one other).answer ≡ decide (add_checks one other) (accepted 0)
unfolding add summed
add_answer one other = refl

pub change_answer : (bs s : List ℕ) → (net_change bs s).answer ≡ decide (change_checks bs s) (accepted 0)
unfolding net_change
change_answer bs s = refl

-- COUNT

pub count_refusing : (bs report : List ℕ) → All Refuses (count_checks bs report)
unfolding count_checks report_checks
count_refusing bs report =
    all_append Refuses (table_checks bs) _ (table_refusing bs)
    (λ k l e. (omega arith, refl), (λ k l e. (omega arith, refl), tt))

count_speaks : (bs report : List ℕ) → Speaks (CountSays bs report) (count_checks bs report)
unfolding count_checks report_checks
count_speaks bs report =
    speaks_append (TableSays bs) (CountSays bs report) (table_checks bs) _ (λ n w s. CountSays.of_table s)
    (table_speaks bs)
    (λ c. (
      λ k f. ⊎_elim (λ h. CountSays.length_odd h) (λ h. CountSays.length_long h) ((bad_decides report).0 f.1),
      λ d. (
        λ k f.
            let right = right_length report (d 0 (omega arith)) in
            let x = (strange_decides (table bs) report k).0 f.1 in
            CountSays.stranger x.0 right.0 right.1 (omega (arith, right.0, f.0)) x.1 x.2.0 x.2.1,
        λ g. tt,
      ),
    ))

count_catches : (bs report : List ℕ) (n w : ℕ) → CountSays bs report n w → Caught n w (count_checks bs report)
unfolding count_checks report_checks stage
count_catches bs report n w (CountSays.of_table s) = caught_append _ (table_catches bs n w s)
count_catches bs report n w (CountSays.length_odd h) =
    caught_behind 10 (table_checks bs) _ (table_below bs) (omega arith)
    (λ c. caught_once _ 14 512 _ ((bad_decides report).1 (inl h)))
count_catches bs report n w (CountSays.length_long h) =
    caught_behind 10 (table_checks bs) _ (table_below bs) (omega arith)
    (λ c. caught_once _ 14 512 _ ((bad_decides report).1 (inr h)))
count_catches bs report n w (CountSays.stranger {r} k even short l m f u) =
    caught_behind 10 (table_checks bs) _ (table_below bs) (omega arith)
    (λ c.
    Caught.there
    (λ j i b. absurd (⊎_elim (λ odd. odd even) (λ long. omega (arith, short, long)) ((bad_decides report).0 b)))
    (λ d. caught_here (length report / 24) (strange (table bs) report) 14 r _ (omega (arith, l, even))
    ((strange_decides (table bs) report r).1 (k, m, (f, u)))))

-- Count answers the first that is said, and accepts where nothing is.
pub count_refuses : (bs report : List ℕ) (n w : ℕ) → 0 < n
    → ((count bs report).answer ≡ refused n w) ↔ First (CountSays bs report) n w
count_refuses bs report n w p =
    rw (count_answer bs report)
    (refuses (CountSays bs report) (count_checks bs report) (count_refusing bs report) (count_speaks bs report)
    (count_catches bs report) n w p)

pub count_accepts : (bs report : List ℕ)
    → ((count bs report).answer ≡ accepted 0) ↔ ((n w : ℕ) → ¬ CountSays bs report n w)
count_accepts bs report =
    rw (count_answer bs report)
    (accepts (CountSays bs report) (count_checks bs report) (count_refusing bs report) (count_speaks bs report)
    (count_catches bs report))

-- An accepted report has a right length.
pub accepted_right : (bs report : List ℕ) → ((n w : ℕ) → ¬ CountSays bs report n w)
    → (length report % 24 ≡ 0) × (length report ≤ 12288)
accepted_right bs report none =
    right_length report
    (refuted (bad_decides report)
    (⊎_elim (λ h. none 14 512 (CountSays.length_odd h)) (λ h. none 14 512 (CountSays.length_long h))))

-- ADD

add_decides : (one other : List ℕ)
    → Decides (too_often one || too_often other || ltb 4294967295 (cycles_of one + cycles_of other))
    ((TooOften one ⊎ TooOften other) ⊎ (4294967295 < cycles_of one + cycles_of other))
add_decides one other =
    or_decides (or_decides (often_decides one) (often_decides other))
    (lt_decides 4294967295 (cycles_of one + cycles_of other))

add_refusing : (one other : List ℕ) → All Refuses (add_checks one other)
unfolding add_checks
add_refusing one other = (λ k l e. (omega arith, refl), tt)

add_speaks : (one other : List ℕ) → Speaks (AddSays one other) (add_checks one other)
unfolding add_checks
add_speaks one other = (
  λ k f.
      ⊎_elim (λ h. ⊎_elim (λ o. AddSays.one_wrong o) (λ o. AddSays.other_wrong o) h) (λ h. AddSays.too_many h)
      ((add_decides one other).0 f.1),
  λ d. tt,
)

add_catches : (one other : List ℕ) (n w : ℕ) → AddSays one other n w → Caught n w (add_checks one other)
unfolding add_checks
add_catches one other n w (AddSays.one_wrong h) = caught_once _ 15 0 _ ((add_decides one other).1 (inl (inl h)))
add_catches one other n w (AddSays.other_wrong h) = caught_once _ 15 0 _ ((add_decides one other).1 (inl (inr h)))
add_catches one other n w (AddSays.too_many h) = caught_once _ 15 0 _ ((add_decides one other).1 (inr h))

-- Add answers the first that is said, and accepts where nothing is.
pub add_refuses : (one other : List ℕ) (n w : ℕ) → 0 < n
    → ((add one other).answer ≡ refused n w) ↔ First (AddSays one other) n w
add_refuses one other n w p =
    rw (add_answer one other)
    (refuses (AddSays one other) (add_checks one other) (add_refusing one other) (add_speaks one other)
    (add_catches one other) n w p)

pub add_accepts : (one other : List ℕ) → ((add one other).answer ≡ accepted 0) ↔ ((n w : ℕ) → ¬ AddSays one other n w)
add_accepts one other =
    rw (add_answer one other)
    (accepts (AddSays one other) (add_checks one other) (add_refusing one other) (add_speaks one other)
    (add_catches one other))

-- NET CHANGE

change_refusing : (bs s : List ℕ) → All Refuses (change_checks bs s)
unfolding change_checks
change_refusing bs s = all_append Refuses (table_checks bs) _ (table_refusing bs) (λ k l e. (omega arith, refl), tt)

change_speaks : (bs s : List ℕ) → Speaks (ChangeSays bs s) (change_checks bs s)
unfolding change_checks
change_speaks bs s =
    speaks_append (TableSays bs) (ChangeSays bs s) (table_checks bs) _ (λ n w h. ChangeSays.of_table h)
    (table_speaks bs)
    (λ c. (λ k f. ChangeSays.wrong ((often_decides s).0 f.1), λ d. tt))

change_catches : (bs s : List ℕ) (n w : ℕ) → ChangeSays bs s n w → Caught n w (change_checks bs s)
unfolding change_checks stage
change_catches bs s n w (ChangeSays.of_table h) = caught_append _ (table_catches bs n w h)
change_catches bs s n w (ChangeSays.wrong h) =
    caught_behind 10 (table_checks bs) _ (table_below bs) (omega arith)
    (λ c. caught_once _ 15 0 _ ((often_decides s).1 h))

-- Net change answers the first that is said, and accepts where nothing is.
pub change_refuses : (bs s : List ℕ) (n w : ℕ) → 0 < n
    → ((net_change bs s).answer ≡ refused n w) ↔ First (ChangeSays bs s) n w
change_refuses bs s n w p =
    rw (change_answer bs s)
    (refuses (ChangeSays bs s) (change_checks bs s) (change_refusing bs s) (change_speaks bs s)
    (change_catches bs s) n w p)

pub change_accepts : (bs s : List ℕ) → ((net_change bs s).answer ≡ accepted 0) ↔ ((n w : ℕ) → ¬ ChangeSays bs s n w)
change_accepts bs s =
    rw (change_answer bs s)
    (accepts (ChangeSays bs s) (change_checks bs s) (change_refusing bs s) (change_speaks bs s) (change_catches bs s))
