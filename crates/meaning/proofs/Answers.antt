-- The answers of check, start and run are the first that document 01's table says: each list of checks says and
-- catches its rows.
use mathlib.Core.Bool.{Bool, true, false, cond, not, ◌||◌}
use mathlib.Core.List.{List, ◌++◌, append_assoc}
use mathlib.Core.Path.{◌≡◌, refl, sym, ap, ◌∙◌}
use mathlib.Core.Logic.Iff
use mathlib.Core.Logic.{◌↔◌, ◌⊎◌, inl, inr, ⊎_elim}
use Prim.Native.Nat.{ℕ, ◌+◌, ◌*◌, ◌/◌, ◌%◌, ◌≤◌, ◌<◌}
use native.Mathlib.Omega.{arith}
use lib.Dec.{ltb, eqb}
use lib.ListN.{length}
use borrow.Author.Tests.{eqb-true, not-false}
use Rattle.meaning.specs.Table.{table}
use Rattle.meaning.specs.Answer.{Answer, accepted, refused, Check, decide}
use Rattle.meaning.specs.Defined.{table_checks, check}
use Rattle.meaning.specs.Image.{image, wrong, state_checks}
use Rattle.meaning.specs.Calls.{Start, start, start_checks, words_of, word_checks, run_checks, Trace, trace}
use Rattle.meaning.specs.Calls.{Run, ran, run}
use Rattle.meaning.specs.Says.{TableSays, StartSays, RunSays, First, stage}
use Rattle.meaning.proofs.Decide.{All, Refuses, Form, decide_form}
use Rattle.meaning.proofs.Walk.{Caught, Speaks, refuses, accepts, all_append, speaks_append, caught_append}
use Rattle.meaning.proofs.Walk.{caught_behind, caught_once, caught_here, skip}
use Rattle.meaning.proofs.Tables.{table_speaks, table_refusing, table_catches, table_below, place_or_transition}
use Rattle.meaning.proofs.Sound.{SoundTable, clean_sound}
use Rattle.meaning.proofs.Run.{trace_number}
use Rattle.meaning.proofs.Wrong.{wrong_place_decides, wrong_transition_decides, wrong_at_place}
use Rattle.meaning.proofs.Wrong.{wrong_at_transition}
use Rattle.meaning.proofs.Reflect.{Decides, eq_decides, lt_decides, or_decides, not_decides}

-- Start's answer is what its checks decide, whatever the image then is.
start_answer : (bs img : List ℕ) → (start bs img).answer ≡ decide (start_checks bs img) (accepted 0)
unfolding start
start_answer bs img = go (eqb (decide (start_checks bs img) (accepted 0)).number 0) _ _ refl refl
  where
    go : (b : Bool) (x y : Start) {a : Answer} → x.answer ≡ a → y.answer ≡ a → (cond b x y).answer ≡ a
    go true x y e f = e
    go false x y e f = f

-- The checks of run, the table's before the others.
abbrev run_list : List ℕ → List ℕ → List ℕ → List ℕ → List Check
run_list bs img ws report = table_checks bs ++ (state_checks (table bs) img ++ word_checks ws report)

run_list_is : (bs img ws report : List ℕ) → run_checks bs img ws report ≡ run_list bs img ws report
unfolding run_checks
run_list_is bs img ws report = append_assoc (table_checks bs) (state_checks (table bs) img) (word_checks ws report)

-- The image's length; the words' length; the report's.
length_wrong : (img : List ℕ) → Decides (not (eqb (length img) 768)) (¬ (length img ≡ 768))
length_wrong img = not_decides (eq_decides (length img) 768)

length_right : (img : List ℕ) → not (eqb (length img) 768) ≡ false → length img ≡ 768
length_right img e = eqb-true (length img) 768 (not-false (eqb (length img) 768) e)

words_decides : (ws : List ℕ)
    → Decides (not (eqb (length ws % 8) 0) || ltb 4096 (length ws)) (¬ (length ws % 8 ≡ 0) ⊎ (4096 < length ws))
words_decides ws = or_decides (not_decides (eq_decides (length ws % 8) 0)) (lt_decides 4096 (length ws))

room_decides : (ws report : List ℕ)
    → Decides (ltb (length report) (24 * (length ws / 8))) (length report < 24 * (length ws / 8))
room_decides ws report = lt_decides (length report) (24 * (length ws / 8))

-- 10 at a record is said.
wrong_said : (bs img ws report : List ℕ) → SoundTable (table bs) → length img ≡ 768 → (k : ℕ) → k < 192
    → wrong (table bs) (image img) k ≡ true → RunSays bs img ws report 10 k
wrong_said bs img ws report sound right =
    place_or_transition (λ k. k < 192 → wrong (table bs) (image img) k ≡ true → RunSays bs img ws report 10 k)
    (λ p l m e.
    RunSays.image_place right l
    ((wrong_place_decides (table bs) (image img) p).0 (sym (wrong_at_place (table bs) (image img) p l) ∙ e)))
    (λ t m e.
    let l : t < 64 = omega arith in
    RunSays.image_transition t right l
    ((wrong_transition_decides (table bs) sound (image img) t).0 (sym (wrong_at_transition (table bs) (image img) t) ∙
    e)))

-- 10 at a record is caught: the image's length is right.
record_caught : (bs img ws report : List ℕ) (k : ℕ) → length img ≡ 768 → k < 192 → wrong (table bs) (image img) k ≡ true
    → Caught 10 k (state_checks (table bs) img ++ word_checks ws report)
unfolding state_checks
record_caught bs img ws report k right l e =
    Caught.there (λ j m b. absurd ((length_wrong img).0 b right)) (λ c. caught_here 192 (wrong (table bs) (image img))
    10 k _ l e)

-- What is said behind the table's checks, and behind the image's.
behind_table : (bs img ws report : List ℕ) {n w : ℕ} → 10 ≤ stage n
    → (SoundTable (table bs) → Caught n w (state_checks (table bs) img ++ word_checks ws report))
    → Caught n w (run_list bs img ws report)
behind_table bs img ws report l g = caught_behind 10 (table_checks bs) _ (table_below bs) l (λ c. g (clean_sound bs c))

behind_state : (bs img ws report : List ℕ) {n w : ℕ} → 10 < stage n → Caught n w (word_checks ws report)
    → Caught n w (run_list bs img ws report)
unfolding state_checks stage
behind_state bs img ws report l g =
    behind_table bs img ws report (omega arith) (λ s. skip _ _ (λ j e. l) (λ c. skip _ _ (λ j e. l) (λ d. g)))

-- An answer of run from 1 to 12 is what its checks decide.
run_answer : (bs img ws report : List ℕ) (n w : ℕ) → 0 < n → n < 13
    → ((run bs img ws report).answer ≡ refused n w) ↔ (decide (run_checks bs img ws report) (accepted 0) ≡ refused n w)
unfolding run
run_answer bs img ws report n w p q =
    go (decide (run_checks bs img ws report) (accepted 0)) (eqb (decide (run_checks bs img ws report) (accepted
    0)).number 0) refl
  where
    done : Trace
    done = trace (table bs) (words_of (length ws / 8) ws) img

    go : (a : Answer) (b : Bool) → eqb a.number 0 ≡ b
        → ((cond {A = Run} b (ran done report)
        (record { answer = a; image = img; report = report })).answer ≡ refused n w)
        ↔ (a ≡ refused n w)
    go a true e = (
      λ h.
          let number : done.number ≡ n = ap (λ (x : Answer). x.number) h in
          absurd
          (⊎_elim (λ (z : done.number ≡ 0). omega arith) (λ (z : done.number ≡ 13). omega arith)
          (trace_number (table bs) (words_of (length ws / 8) ws) img)),
      λ h.
          let number : a.number ≡ n = ap (λ (x : Answer). x.number) h in
          absurd (omega (arith, eqb-true a.number 0 e)),
    )
    go a false e = (λ h. h, λ h. h)

-- The checks of start and of run refuse what they find.
start_refusing : (bs img : List ℕ) → All Refuses (start_checks bs img)
unfolding start_checks
start_refusing bs img = all_append Refuses (table_checks bs) _ (table_refusing bs) (λ k l e. (omega arith, refl), tt)

run_refusing : (bs img ws report : List ℕ) → All Refuses (run_list bs img ws report)
unfolding state_checks word_checks
run_refusing bs img ws report =
    all_append Refuses (table_checks bs) (state_checks (table bs) img ++ word_checks ws report) (table_refusing bs) (
      λ k l e. (omega arith, refl),
      (λ k l e. (omega arith, refl), (λ k l e. (omega arith, refl), (λ k l e. (omega arith, refl), tt))),
    )

-- Check answers the first that is said of the table, and accepts where nothing is.
pub check_refuses : (bs : List ℕ) (n w : ℕ) → 0 < n → (check bs ≡ refused n w) ↔ First (TableSays bs) n w
unfolding check
check_refuses bs = refuses (TableSays bs) (table_checks bs) (table_refusing bs) (table_speaks bs) (table_catches bs)

pub check_accepts : (bs : List ℕ) → (check bs ≡ accepted 0) ↔ ((n w : ℕ) → ¬ TableSays bs n w)
unfolding check
check_accepts bs = accepts (TableSays bs) (table_checks bs) (table_refusing bs) (table_speaks bs) (table_catches bs)

-- Start says and catches 1 to 9 and 12.
start_speaks : (bs img : List ℕ) → Speaks (StartSays bs img) (start_checks bs img)
unfolding start_checks
start_speaks bs img =
    speaks_append (TableSays bs) (StartSays bs img) (table_checks bs) _ (λ n w s. StartSays.of_table s) (table_speaks
    bs)
    (λ c. (λ k f. StartSays.room ((length_wrong img).0 f.1), λ d. tt))

start_catches : (bs img : List ℕ) (n w : ℕ) → StartSays bs img n w → Caught n w (start_checks bs img)
unfolding start_checks stage
start_catches bs img n w (StartSays.of_table s) = caught_append _ (table_catches bs n w s)
start_catches bs img n w (StartSays.room h) =
    caught_behind 10 (table_checks bs) _ (table_below bs) (omega arith)
    (λ c. caught_once _ 12 0 _ ((length_wrong img).1 h))

-- Start answers the first that is said, and accepts where nothing is.
pub start_refuses : (bs img : List ℕ) (n w : ℕ) → 0 < n
    → ((start bs img).answer ≡ refused n w) ↔ First (StartSays bs img) n w
start_refuses bs img n w p =
    rw (start_answer bs img)
    (refuses (StartSays bs img) (start_checks bs img) (start_refusing bs img) (start_speaks bs img) (start_catches bs
    img) n w p)

pub start_accepts : (bs img : List ℕ) → ((start bs img).answer ≡ accepted 0) ↔ ((n w : ℕ) → ¬ StartSays bs img n w)
start_accepts bs img =
    rw (start_answer bs img)
    (accepts (StartSays bs img) (start_checks bs img) (start_refusing bs img) (start_speaks bs img) (start_catches bs
    img))

-- Run says and catches 1 to 12.
run_speaks : (bs img ws report : List ℕ) → Speaks (RunSays bs img ws report) (run_list bs img ws report)
unfolding state_checks word_checks
run_speaks bs img ws report =
    speaks_append (TableSays bs) (RunSays bs img ws report) (table_checks bs) (state_checks (table bs) img ++
    word_checks ws report)
    (λ n w s. RunSays.of_table s)
    (table_speaks bs)
    (λ c. (
      λ k f. RunSays.image_length ((length_wrong img).0 f.1),
      λ d. (
        λ k f. wrong_said bs img ws report (clean_sound bs c) (length_right img (d 0 (omega arith))) k f.0 f.1,
        λ g. (
          λ k f. ⊎_elim (λ h. RunSays.words_odd h) (λ h. RunSays.words_long h) ((words_decides ws).0 f.1),
          λ h. (
            λ k f. RunSays.room ((room_decides ws report).0 f.1),
            λ i. tt,
          ),
        ),
      ),
    ))

run_catches : (bs img ws report : List ℕ) (n w : ℕ) → RunSays bs img ws report n w
    → Caught n w (run_list bs img ws report)
unfolding stage state_checks word_checks
run_catches bs img ws report n w (RunSays.of_table s) = caught_append _ (table_catches bs n w s)
run_catches bs img ws report n w (RunSays.image_length h) =
    behind_table bs img ws report (omega arith) (λ s. caught_once _ 10 192 _ ((length_wrong img).1 h))
run_catches bs img ws report n w (RunSays.image_place {p} e l h) =
    behind_table bs img ws report (omega arith)
    (λ s.
    record_caught bs img ws report p e (omega arith)
    (wrong_at_place (table bs) (image img) p l ∙ (wrong_place_decides (table bs) (image img) p).1 h))
run_catches bs img ws report n w (RunSays.image_transition t e l h) =
    behind_table bs img ws report (omega arith)
    (λ s.
    record_caught bs img ws report (128 + t) e (omega arith)
    (wrong_at_transition (table bs) (image img) t ∙ (wrong_transition_decides (table bs) s (image img) t).1 h))
run_catches bs img ws report n w (RunSays.words_odd h) =
    behind_state bs img ws report (omega arith) (caught_once _ 11 0 _ ((words_decides ws).1 (inl h)))
run_catches bs img ws report n w (RunSays.words_long h) =
    behind_state bs img ws report (omega arith) (caught_once _ 11 0 _ ((words_decides ws).1 (inr h)))
run_catches bs img ws report n w (RunSays.room h) =
    behind_state bs img ws report (omega arith)
    (skip _ _ (λ j e. omega arith) (λ c. caught_once _ 12 0 _ ((room_decides ws report).1 h)))

-- The checks of run decide for the first that is said, and let the words be run where nothing is.
pub run_stops : (bs img ws report : List ℕ) (n w : ℕ) → 0 < n
    → (decide (run_checks bs img ws report) (accepted 0) ≡ refused n w) ↔ First (RunSays bs img ws report) n w
run_stops bs img ws report n w p =
    rw (run_list_is bs img ws report)
    (refuses (RunSays bs img ws report) (run_list bs img ws report) (run_refusing bs img ws report) (run_speaks bs img
    ws report)
    (run_catches bs img ws report) n w p)

pub run_goes : (bs img ws report : List ℕ)
    → (decide (run_checks bs img ws report) (accepted 0) ≡ accepted 0) ↔ ((n w : ℕ) → ¬ RunSays bs img ws report n w)
run_goes bs img ws report =
    rw (run_list_is bs img ws report)
    (accepts (RunSays bs img ws report) (run_list bs img ws report) (run_refusing bs img ws report) (run_speaks bs img
    ws report)
    (run_catches bs img ws report))

-- Run answers the first that is said, if any is.
pub run_refuses : (bs img ws report : List ℕ) (n w : ℕ) → 0 < n → n < 13
    → ((run bs img ws report).answer ≡ refused n w) ↔ First (RunSays bs img ws report) n w
run_refuses bs img ws report n w p q =
    Iff.trans (run_answer bs img ws report n w p q) (run_stops bs img ws report n w p)

-- What run's checks decide is the acceptance, or a refusal before any cycle.
pub run_form : (bs img ws report : List ℕ) → Form (decide (run_checks bs img ws report) (accepted 0))
run_form bs img ws report =
    rw (run_list_is bs img ws report) (decide_form (run_list bs img ws report) (run_refusing bs img ws report))

-- And so of check and start.
pub check_form : (bs : List ℕ) → Form (check bs)
unfolding check
check_form bs = decide_form (table_checks bs) (table_refusing bs)

pub start_form : (bs img : List ℕ) → Form (start bs img).answer
start_form bs img = rw (start_answer bs img) (decide_form (start_checks bs img) (start_refusing bs img))
