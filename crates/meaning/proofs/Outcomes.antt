-- A call has one outcome and no second: each relation says that every part of the outcome equals what one function
-- computes.
use mathlib.Core.Bool.{true, false, and-false}
use mathlib.Core.List.{List, [], ◌∷◌, ◌++◌, append_assoc}
use mathlib.Core.Logic.{◌⊎◌, inl, inr}
use mathlib.Core.Path.{◌≡◌, refl, sym, ap, ◌∙◌}
use Prim.Native.Nat.{ℕ, zero, suc, ◌+◌, ◌*◌, ◌-◌, ◌/◌, ◌≤◌, ◌<◌}
use native.Mathlib.Nat.{not-suc-le-zero, le_of_suc-le-suc}
use native.Mathlib.Omega.{arith}
use lib.Dec.{leb}
use lib.ListN.{length, take, drop, length-append, length-take, length-drop}
use lib.Seq.{take_at, drop_at}
use borrow.Author.Tests.{le-leb, lt-leb}
use Rattle.meaning.specs.Table.{Table, table}
use Rattle.meaning.specs.Answer.{Answer}
use Rattle.meaning.specs.Defined.{check}
use Rattle.meaning.specs.Cycle.{cycle}
use Rattle.meaning.specs.Calls.{start, run, lookup, lookup_from}
use Rattle.meaning.specs.Steps.{Steps, Stays}
use Rattle.meaning.specs.Promise.{Checked, Started, Ran, LookedUp}
use Rattle.meaning.proofs.Run.{cycle_length, written_length, verdict, words, run_leaves}

-- NO SECOND OUTCOME: two outcomes that a call's promise allows are equal, in every part.

pub no_second_check : (bs : List ℕ) (a b : Answer) → Checked bs a → Checked bs b → a ≡ b
no_second_check bs a b p q = cc

pub no_second_start : (bs img : List ℕ) (a b : Answer) (x y : List ℕ) → Started bs img a x → Started bs img b y
    → (a ≡ b) × (x ≡ y)
no_second_start bs img a b x y p q = (cc, cc)

pub no_second_run : (bs img ws report : List ℕ) (a b : Answer) (x y u v : List ℕ) → Ran bs img ws report a x u
    → Ran bs img ws report b y v
    → (a ≡ b) × (x ≡ y) × (u ≡ v)
no_second_run bs img ws report a b x y u v p q = (cc, cc, cc)

pub no_second_lookup : (report : List ℕ) (at : ℕ × ℕ) (n : ℕ) (x y : List ℕ) (i j : ℕ × ℕ) → LookedUp report at n x i
    → LookedUp report at n y j
    → (x ≡ y) × (i.0 ≡ j.0) × (i.1 ≡ j.1)
no_second_lookup report at n x y i j p q = (cc, cc, cc)

-- SOME OUTCOME: and there is one that it allows.

pub some_check : (bs : List ℕ) → Checked bs (check bs)
some_check bs = record { answer_is = refl }

pub some_start : (bs img : List ℕ) → Started bs img (start bs img).answer (start bs img).image
some_start bs img = record { answer_is = refl; image_is = refl }

pub some_run : (bs img ws report : List ℕ)
    → Ran bs img ws report (run bs img ws report).answer (run bs img ws report).image (run bs img ws report).report
some_run bs img ws report = record { answer_is = refl; image_is = refl; report_is = refl }

pub some_lookup : (report : List ℕ) (at : ℕ × ℕ) (n : ℕ)
    → LookedUp report at n (lookup report n) (at.0, at.1 + lookup_from report n)
some_lookup report at n = record { part_is = refl; block_is = refl; byte_is = refl }

-- LOOKUP

-- A cycle that the report holds whole is found, 24 bytes long, behind 24 bytes for each cycle before it.
pub lookup_whole : (report : List ℕ) (n : ℕ) → 1 ≤ n → 24 * n ≤ length report
    → (lookup report n ≡ take 24 (drop (24 * (n - 1)) report)) × (length (lookup report n) ≡ 24)
    × (lookup_from report n ≡ 24 * (n - 1))
unfolding lookup lookup_from
lookup_whole report n h l =
    let low : leb 1 n ≡ true = le-leb 1 n h in
    let held : leb n (length report / 24) ≡ true = le-leb n (length report / 24) (omega arith) in
    let found : lookup report n ≡ take 24 (drop (24 * (n - 1)) report) = rw (low, held) in
    (found, ap length found ∙ simp (length-take, length-drop) (omega arith), rw (low, held))

-- No other is.
pub lookup_none : (report : List ℕ) (n : ℕ) → (n < 1) ⊎ (length report < 24 * n)
    → (lookup report n ≡ []) × (lookup_from report n ≡ 0)
unfolding lookup lookup_from
lookup_none report n (inl h) = (rw (lt-leb 1 n h), rw (lt-leb 1 n h))
lookup_none report n (inr h) =
    let short : leb n (length report / 24) ≡ false = lt-leb n (length report / 24) (omega arith) in
    (rw (short, and-false), rw (short, and-false))

-- Of so many steps, any number fewer can be taken first; another word is left then, and its cycle is not refused.
pub fewer_steps : (tb : Table) {ws img left img' bytes : List ℕ} {n : ℕ} → Steps tb ws img n left img' bytes → (k : ℕ)
    → k < n
    → (w : ℕ) × (later : List ℕ) × (here : List ℕ) × (before : List ℕ) × Steps tb ws img k (w ∷ later) here before
    × Stays tb here w
fewer_steps tb Steps.none k h = absurd (not-suc-le-zero h)
fewer_steps tb (Steps.more {w} {n} {ws} {img} s r) zero h = (w, ws, img, [], Steps.none, s)
fewer_steps tb (Steps.more {w} {n} {ws} {img} s r) (suc k) h =
    let x = fewer_steps tb r k (le_of_suc-le-suc h) in
    (x.0, x.1, x.2, (cycle tb img w).written ++ x.3, Steps.more s x.4, x.5)

-- The bytes of these fewer steps come first, and the next cycle's record behind them.
next_record : (tb : Table) {ws img left img' bytes later here before : List ℕ} {n k w : ℕ}
    → Steps tb ws img n left img' bytes
    → Steps tb ws img k (w ∷ later) here before → k < n
    → (behind : List ℕ) × (bytes ≡ before ++ ((cycle tb here w).written ++ behind))
next_record tb Steps.none q h = absurd (not-suc-le-zero h)
next_record tb (Steps.more {bytes = bytes} s r) Steps.none h = (bytes, refl)
next_record tb (Steps.more {w} {img = img} s r) (Steps.more {bytes = before} s' q) h =
    let x = next_record tb r q (le_of_suc-le-suc h) in
    (x.0, ap (λ (l : List ℕ). (cycle tb img w).written ++ l) x.1 ∙ sym (append_assoc (cycle tb img w).written before _))

-- So after k cycles of a longer run, lookup of cycle k + 1 finds the record of the cycle that came next.
pub lookup_next : (tb : Table) {ws img left img' bytes later here before : List ℕ} {n k w : ℕ}
    → Steps tb ws img n left img' bytes
    → Steps tb ws img k (w ∷ later) here before → k < n → (rest : List ℕ)
    → lookup (bytes ++ rest) (suc k) ≡ (cycle tb here w).written
lookup_next tb {bytes = bytes} {here = here} {before = before} {k = k} {w = w} r q h rest =
    let x = next_record tb r q h in
    let this = (cycle tb here w).written in
    let room : 24 * suc k ≤ length (bytes ++ rest) = omega (arith, length-append bytes rest, written_length tb r) in
    let split : bytes ++ rest ≡ before ++ (this ++ (x.0 ++ rest)) = ap (λ (l : List ℕ). l ++ rest) x.1 ∙ simp append_assoc in
    (lookup_whole (bytes ++ rest) (suc k) (omega arith) room).0
    ∙ ap (λ (l : List ℕ). take 24 (drop (24 * (suc k - 1)) l)) split
    ∙ ap (take 24) (drop_at before (this ++ (x.0 ++ rest)) (24 * (suc k - 1)) (omega (arith, written_length tb q)))
    ∙ take_at this (x.0 ++ rest) 24 (cycle_length tb here w)

-- Lookup of each finished cycle of a run, counted from 1, finds that cycle's record: k - 1 cycles come first.
pub lookup_cycle : (tb : Table) {ws img left img' bytes : List ℕ} {n : ℕ} → Steps tb ws img n left img' bytes
    → (rest : List ℕ) (k : ℕ) → 1 ≤ k
    → k ≤ n
    → (w : ℕ) × (later : List ℕ) × (here : List ℕ) × (before : List ℕ)
    × Steps tb ws img (k - 1) (w ∷ later) here before × Stays tb here w
    × (lookup (bytes ++ rest) k ≡ (cycle tb here w).written)
lookup_cycle tb {bytes = bytes} r rest k h l =
    let x = fewer_steps tb r (k - 1) (omega arith) in
    let this : k ≡ suc (k - 1) = omega arith in
    (x.0, x.1, x.2, x.3, x.4, x.5, ap (lookup (bytes ++ rest)) this ∙ lookup_next tb r x.4 (omega arith) rest)

-- And so in the report that a run leaves, for each of its cycles done.
pub lookup_run : (bs img ws report : List ℕ) → (verdict bs img ws report).number ≡ 0 → (k : ℕ) → 1 ≤ k
    → k ≤ (run bs img ws report).answer.cycles
    → (w : ℕ) × (later : List ℕ) × (here : List ℕ) × (before : List ℕ)
    × Steps (table bs) (words ws) img (k - 1) (w ∷ later) here before
    × Stays (table bs) here w
    × (lookup (run bs img ws report).report k ≡ (cycle (table bs) here w).written)
lookup_run bs img ws report z k h l =
    let x = run_leaves bs img ws report z in
    let y = lookup_cycle (table bs) x.6 (drop (24 * x.2) report) k h (omega (arith, ap (λ (a : Answer). a.cycles) x.7.0)) in
    (y.0, y.1, y.2, y.3, y.4, y.5, ap (λ (r : List ℕ). lookup r k) x.7.2 ∙ y.6)
