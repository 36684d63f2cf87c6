-- A run is exactly its definition steps: `trace` takes one cycle a word, and a cycle is refused exactly where the
-- first overfull place is found.
use mathlib.Core.Bool.{Bool, true, false, cond}
use mathlib.Core.List.{List, [], ◌∷◌, ◌++◌, append_assoc, append-nil}
use mathlib.Core.Logic.{◌⊎◌, inl, inr, ⊎_elim}
use mathlib.Core.Path.{◌≡◌, refl, sym, ap, ap₂, ◌∙◌}
use Prim.Native.Nat.{ℕ, zero, suc, ◌+◌, ◌*◌, ◌/◌, ◌≤◌, ◌<◌}
use native.Mathlib.Omega.{arith}
use lib.Dec.{ltb, eqb}
use lib.ListN.{length, drop, length-append}
use borrow.Author.Tests.{lt-ltb, le-ltb, ltb-true, ltb-false, eqb-true, eqb-false, ne_eqb, eq-eqb}
use Rattle.meaning.specs.Below.{first}
use Rattle.meaning.specs.Bytes.{bytes}
use Rattle.meaning.specs.Table.{Table, table, ceiling}
use Rattle.meaning.specs.Answer.{Answer, accepted, decide}
use Rattle.meaning.specs.Image.{fresh, image_bytes}
use Rattle.meaning.specs.Cycle.{cycle, overfull, record_of}
use Rattle.meaning.specs.Calls.{Start, start, start_checks, Run, run, run_checks, words_of, Trace, trace}
use Rattle.meaning.specs.Calls.{stopped, ran}
use Rattle.meaning.specs.Steps.{Stays, Bursts, Steps}
use Rattle.meaning.proofs.Bool.{either}
use Rattle.meaning.proofs.Below.{first_none, first_is, first_passes, first_before}

-- CYCLES: the first overfull place decides.

-- The first place that a cycle would overfill, 128 where there is none.
abbrev pub full : Table → List ℕ → ℕ → ℕ
full tb img w = first 128 (overfull tb (cycle tb img w).after)

module _ (tb : Table) (img : List ℕ) (w : ℕ) where
  -- A cycle that stays overfills nothing, and one that bursts overfills first where it bursts.
  stays_full : Stays tb img w → full tb img w ≡ 128
  unfolding overfull
  stays_full h = first_none 128 _ (λ p l. le-ltb (ceiling tb p) ((cycle tb img w).after.tokens p) (h p l))

  bursts_full : {p : ℕ} → Bursts tb img w p → full tb img w ≡ p
  unfolding overfull
  bursts_full {p} h =
      first_is 128 _ p h.0 (lt-ltb (ceiling tb p) ((cycle tb img w).after.tokens p) h.1)
      (λ q l. le-ltb (ceiling tb q) ((cycle tb img w).after.tokens q) (h.2 q l))

  -- And back.
  pub below_full : (q : ℕ) → q < full tb img w → (cycle tb img w).after.tokens q ≤ ceiling tb q
  unfolding overfull
  below_full q l = ltb-false (ceiling tb q) ((cycle tb img w).after.tokens q) (first_before 128 _ q l)

  pub full_bursts : full tb img w < 128 → Bursts tb img w (full tb img w)
  unfolding overfull
  full_bursts l = (l, ltb-true _ _ (first_passes 128 (overfull tb (cycle tb img w).after) l), below_full)

-- TRACES

-- A trace but for its cycles and its bytes.
abbrev ending : Trace → ℕ → List ℕ → Trace
ending t n bs = record { number = t.number; at = t.at; cycles = n; image = t.image; written = bs }

-- Steps taken are the front of the trace, and the trace of what is left is its rest.
trace_after : (tb : Table) {ws img left img' bytes : List ℕ} {n : ℕ} → Steps tb ws img n left img' bytes
    → trace tb ws img ≡ ending (trace tb left img') (n + (trace tb left img').cycles) (bytes
    ++ (trace tb left img').written)
unfolding trace
trace_after tb {ws} {img} Steps.none =
    let t = trace tb ws img in
    ap (λ (c : ℕ). ending t c t.written) (omega arith)
trace_after tb (Steps.more {w} {n} {ws} {img} {left} {img'} {bytes} h r) =
    let t = trace tb left img' in
    rw (stays_full tb img w h, trace_after tb r)
    (ap₂ (ending t) (omega arith) (sym (append_assoc (cycle tb img w).written bytes t.written)))

-- No words left: the run is accepted, after so many cycles.
pub trace_finishes : (tb : Table) {ws img img' bytes : List ℕ} {n : ℕ} → Steps tb ws img n [] img' bytes
    → trace tb ws img ≡ record { number = 0; at = 0; cycles = n; image = img'; written = bytes }
unfolding trace
trace_finishes tb {bytes = bytes} r = trace_after tb r ∙ ap₂ (ending (trace tb [] _)) (omega arith) (append-nil bytes)

-- The next cycle bursts at p: the run is stopped there by 13, and keeps what the finished cycles left.
pub trace_bursts : (tb : Table) {ws img left img' bytes : List ℕ} {n w p : ℕ}
    → Steps tb ws img n (w ∷ left) img' bytes → Bursts tb img' w p
    → trace tb ws img ≡ record { number = 13; at = p; cycles = n; image = img'; written = bytes }
unfolding trace
trace_bursts tb {img' = img'} {bytes = bytes} {w = w} {p = p} r b =
    trace_after tb r ∙ rw (bursts_full tb img' w b, lt-ltb p 128 b.0) (ap₂ (ending (stopped p img')) (omega arith) (append-nil bytes))

-- The two ways to end: every word's cycle is finished, or the next cycle bursts at p. Every run ends in one of them.
abbrev pub Finishes : Table → List ℕ → List ℕ → Type 0
Finishes tb ws img = (n : ℕ) × (img' : List ℕ) × (bytes : List ℕ) × Steps tb ws img n [] img' bytes

abbrev pub Stops : Table → List ℕ → List ℕ → Type 0
Stops tb ws img =
    (n : ℕ) × (w : ℕ) × (left : List ℕ) × (img' : List ℕ) × (bytes : List ℕ) × (p : ℕ) × Steps tb ws img n (w ∷ left) img' bytes
    × Bursts tb img' w p

pub trace_ends : (tb : Table) (ws img : List ℕ) → Finishes tb ws img ⊎ Stops tb ws img
trace_ends tb [] img = inl (0, img, [], Steps.none)
trace_ends tb (w ∷ ws) img =
    ⊎_elim (λ l. inr (0, w, ws, img, [], full tb img w, Steps.none, full_bursts tb img w (ltb-true (full tb img w) 128 l)))
    (λ l. go (λ p h. below_full tb img w p (omega (arith, ltb-false (full tb img w) 128 l)))
    (trace_ends tb ws (image_bytes (cycle tb img w).after)))
    (either (ltb (full tb img w) 128))
  where
    next : List ℕ
    next = image_bytes (cycle tb img w).after

    go : Stays tb img w → Finishes tb ws next ⊎ Stops tb ws next → Finishes tb (w ∷ ws) img ⊎ Stops tb (w ∷ ws) img
    go h (inl f) = inl (suc f.0, f.1, (cycle tb img w).written ++ f.2, Steps.more h f.3)
    go h (inr s) =
        inr (suc s.0, s.1, s.2, s.3, (cycle tb img w).written ++ s.4, s.5, Steps.more h s.6, s.7)

-- A number spelt in n bytes has n bytes; so a cycle's record has 24, and n finished cycles report 24 * n.
pub bytes_length : (n x : ℕ) → length (bytes n x) ≡ n
unfolding bytes
bytes_length zero x = refl
bytes_length (suc n) x = ap suc (bytes_length n (x / 256))

pub cycle_length : (tb : Table) (img : List ℕ) (w : ℕ) → length (cycle tb img w).written ≡ 24
unfolding cycle record_of
cycle_length tb img w = simp (length-append, bytes_length)

pub written_length : (tb : Table) {ws img left img' bytes : List ℕ} {n : ℕ} → Steps tb ws img n left img' bytes
    → length bytes ≡ 24 * n
written_length tb Steps.none = refl
written_length tb (Steps.more {w} {n} {ws} {img} {left} {img'} {bytes} h r) =
    length-append (cycle tb img w).written bytes ∙ omega (arith, cycle_length tb img w, written_length tb r)

-- A run's number is 0 or 13, and each says how the run ended.
pub trace_number : (tb : Table) (ws img : List ℕ) → ((trace tb ws img).number ≡ 0) ⊎ ((trace tb ws img).number ≡ 13)
trace_number tb ws img =
    ⊎_elim (λ f. inl (ap (λ (t : Trace). t.number) (trace_finishes tb f.3)))
    (λ s. inr (ap (λ (t : Trace). t.number) (trace_bursts tb s.6 s.7)))
    (trace_ends tb ws img)

pub trace_0 : (tb : Table) (ws img : List ℕ) → (trace tb ws img).number ≡ 0
    → (n : ℕ) × (img' : List ℕ) × (bytes : List ℕ) × Steps tb ws img n [] img' bytes
    × (trace tb ws img ≡ record { number = 0; at = 0; cycles = n; image = img'; written = bytes })
trace_0 tb ws img e =
    ⊎_elim (λ f. (f.0, f.1, f.2, f.3, trace_finishes tb f.3))
    (λ s. absurd (omega (arith, ap (λ (t : Trace). t.number) (trace_bursts tb s.6 s.7))))
    (trace_ends tb ws img)

pub trace_13 : (tb : Table) (ws img : List ℕ) → (trace tb ws img).number ≡ 13
    → (n : ℕ) × (w : ℕ) × (left : List ℕ) × (img' : List ℕ) × (bytes : List ℕ) × (p : ℕ)
    × Steps tb ws img n (w ∷ left) img' bytes
    × Bursts tb img' w p
    × (trace tb ws img ≡ record { number = 13; at = p; cycles = n; image = img'; written = bytes })
trace_13 tb ws img e =
    ⊎_elim (λ f. absurd (omega (arith, ap (λ (t : Trace). t.number) (trace_finishes tb f.3))))
    (λ s. (s.0, s.1, s.2, s.3, s.4, s.5, s.6, s.7, trace_bursts tb s.6 s.7))
    (trace_ends tb ws img)

-- CALLS: what a refusal, a burst and an acceptance leave.

-- A refused start leaves the image as it was.
pub start_refused_leaves : (bs img : List ℕ) → ((start bs img).answer.number ≡ 0 → ⊥) → (start bs img).image ≡ img
unfolding start
start_refused_leaves bs img h = go (eqb answer.number 0) refl h
  where
    answer : Answer
    answer = decide (start_checks bs img) (accepted 0)

    left : Bool → Start
    left b = cond b (record { answer = answer; image = image_bytes (fresh (table bs)) }) (record { answer = answer; image = img })

    go : (b : Bool) → eqb answer.number 0 ≡ b → ((left b).answer.number ≡ 0 → ⊥) → (left b).image ≡ img
    go true e f = absurd (f (eqb-true answer.number 0 e))
    go false e f = refl

-- An accepted one leaves the fresh net's image.
pub start_accepted_leaves : (bs img : List ℕ) → (start bs img).answer.number ≡ 0
    → (start bs img).image ≡ image_bytes (fresh (table bs))
unfolding start
start_accepted_leaves bs img h = go (eqb answer.number 0) refl h
  where
    answer : Answer
    answer = decide (start_checks bs img) (accepted 0)

    left : Bool → Start
    left b = cond b (record { answer = answer; image = image_bytes (fresh (table bs)) }) (record { answer = answer; image = img })

    go : (b : Bool) → eqb answer.number 0 ≡ b → (left b).answer.number ≡ 0
        → (left b).image ≡ image_bytes (fresh (table bs))
    go true e f = refl
    go false e f = absurd (eqb-false answer.number 0 e f)

-- What run's checks before any cycle come to.
abbrev pub verdict : List ℕ → List ℕ → List ℕ → List ℕ → Answer
verdict bs img ws report = decide (run_checks bs img ws report) (accepted 0)

-- The words that bytes spell.
abbrev pub words : List ℕ → List ℕ
words ws = words_of (length ws / 8) ws

-- What a run leaves: this answer and image, and a report that begins with these bytes and is as it was behind 24
-- bytes a cycle.
abbrev pub Leaves : List ℕ → List ℕ → List ℕ → List ℕ → Answer → List ℕ → List ℕ → Type 0
Leaves bs img ws report answer img' bytes =
    ((run bs img ws report).answer ≡ answer) × ((run bs img ws report).image ≡ img')
    × ((run bs img ws report).report ≡ bytes ++ drop (24 * answer.cycles) report)

module _ (bs img ws report : List ℕ) where
  -- Checks that refuse are the run's answer, and every byte is as it was.
  run_refused : ((verdict bs img ws report).number ≡ 0 → ⊥)
      → run bs img ws report ≡ record { answer = verdict bs img ws report; image = img; report = report }
  unfolding run
  run_refused h = rw (ne_eqb (verdict bs img ws report).number 0 h)

  pub run_refused_leaves : ((verdict bs img ws report).number ≡ 0 → ⊥)
      → ((run bs img ws report).image ≡ img) × ((run bs img ws report).report ≡ report)
      × ((run bs img ws report).answer ≡ verdict bs img ws report)
  run_refused_leaves h =
      let e = run_refused h in
      (ap (λ (r : Run). r.image) e, ap (λ (r : Run). r.report) e, ap (λ (r : Run). r.answer) e)

  -- Checks that pass hand over to the words' cycles.
  pub run_goes_on : (verdict bs img ws report).number ≡ 0
      → run bs img ws report ≡ ran (trace (table bs) (words ws) img) report
  unfolding run
  run_goes_on h = rw (eq-eqb (verdict bs img ws report).number 0 h)

  -- A run whose number its checks do not give went on.
  went_on : (k : ℕ) → (run bs img ws report).answer.number ≡ k
      → ((verdict bs img ws report).number ≡ k → (verdict bs img ws report).number ≡ 0)
      → (verdict bs img ws report).number ≡ 0
  went_on k e f =
      ⊎_elim (λ (z : eqb (verdict bs img ws report).number 0 ≡ true). eqb-true _ 0 z)
      (λ (z : eqb (verdict bs img ws report).number 0 ≡ false).
      f (ap (λ (a : Answer). a.number) (sym (run_refused_leaves (eqb-false _ 0 z)).2) ∙ e))
      (either (eqb (verdict bs img ws report).number 0))

  -- Its number is its trace's, and so is what it leaves.
  went_number : (verdict bs img ws report).number ≡ 0
      → (trace (table bs) (words ws) img).number ≡ (run bs img ws report).answer.number
  went_number z = rw (run_goes_on z)

  went_leaves : (verdict bs img ws report).number ≡ 0 → {k p n : ℕ} {left img' bytes : List ℕ}
      → Steps (table bs) (words ws) img n left img' bytes
      → trace (table bs) (words ws) img ≡ record { number = k; at = p; cycles = n; image = img'; written = bytes }
      → Leaves bs img ws report (record { number = k; at = p; cycles = n }) img' bytes
  went_leaves z r e = rw (run_goes_on z, e, written_length (table bs) r) (refl, refl, refl)

  -- An accepted run: every word's cycle is finished.
  pub run_accepted_leaves : (run bs img ws report).answer.number ≡ 0
      → (n : ℕ) × (img' : List ℕ) × (bytes : List ℕ) × Steps (table bs) (words ws) img n [] img' bytes
      × Leaves bs img ws report (accepted n) img' bytes
  run_accepted_leaves e =
      let z = went_on 0 e (λ v. v) in
      let t = trace_0 (table bs) (words ws) img (went_number z ∙ e) in
      (t.0, t.1, t.2, t.3, went_leaves z t.3 t.4)

  -- A run that bursts: what the finished cycles left stays, and nothing of the cycle that bursts.
  pub run_full_leaves : (run bs img ws report).answer.number ≡ 13 → ((verdict bs img ws report).number ≡ 13 → ⊥)
      → (n : ℕ) × (w : ℕ) × (left : List ℕ) × (img' : List ℕ) × (bytes : List ℕ) × (p : ℕ)
      × Steps (table bs) (words ws) img n (w ∷ left) img' bytes
      × Bursts (table bs) img' w p
      × Leaves bs img ws report (record { number = 13; at = p; cycles = n }) img' bytes
  run_full_leaves e apart =
      let z = went_on 13 e (λ v. absurd (apart v)) in
      let t = trace_13 (table bs) (words ws) img (went_number z ∙ e) in
      (t.0, t.1, t.2, t.3, t.4, t.5, t.6, t.7, went_leaves z t.6 t.8)

  -- Whatever its number, a run that goes on leaves what its steps left.
  pub run_leaves : (verdict bs img ws report).number ≡ 0
      → (k : ℕ) × (p : ℕ) × (n : ℕ) × (left : List ℕ) × (img' : List ℕ) × (bytes : List ℕ)
      × Steps (table bs) (words ws) img n left img' bytes
      × Leaves bs img ws report (record { number = k; at = p; cycles = n }) img' bytes
  run_leaves z =
      ⊎_elim (λ f. (0, 0, f.0, [], f.1, f.2, f.3, went_leaves z f.3 (trace_finishes (table bs) f.3)))
      (λ s. (13, s.5, s.0, s.1 ∷ s.2, s.3, s.4, s.6, went_leaves z s.6 (trace_bursts (table bs) s.6 s.7)))
      (trace_ends (table bs) (words ws) img)

-- No words: accepted, and every byte is as it was.
pub no_words : (bs img report : List ℕ) → (verdict bs img [] report).number ≡ 0
    → ((run bs img [] report).answer ≡ accepted 0) × ((run bs img [] report).image ≡ img)
    × ((run bs img [] report).report ≡ report)
unfolding words_of
no_words bs img report z = went_leaves bs img [] report z Steps.none (trace_finishes (table bs) Steps.none)
