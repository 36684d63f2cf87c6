-- The summary of a report: its numbers, of the records a run wrote and of two reports one behind the other.
use mathlib.Core.Bool.{true, false, cond}
use mathlib.Core.List.{List, ◌++◌}
use mathlib.Core.Logic.{◌⊎◌, inl, inr, ⊎_elim}
use mathlib.Core.Path.{◌≡◌, refl, sym, ap, ap₂, ◌∙◌}
use Prim.Native.Nat.{ℕ, zero, suc, ◌+◌, ◌*◌, ◌-◌, ◌/◌, ◌%◌, ◌≤◌, ◌<◌}
use native.Mathlib.Nat.{le_of_suc-le-suc}
use native.Mathlib.Omega.{arith}
use lib.Dec.{ltb}
use lib.ListN.{length, get_or, take, drop, length-append, length-drop}
use lib.Seq.{ext_get_or, take-append-le, drop-append-le, drop-append-add, take-take}
use borrow.Author.Tests.{ltb-true, ltb-false}
use Rattle.meaning.specs.Bytes.{number, bit}
use Rattle.meaning.specs.Calls.{lookup}
use Rattle.meaning.specs.Finished.{fired_in}
use Rattle.meaning.proofs.Bool.{either}
use Rattle.meaning.proofs.Below.{sum_same}
use Rattle.meaning.proofs.Outcomes.{lookup_whole}
use Rattle.summary.specs.Day.{cycles_of, times_of, fired_word, times, summary, plus}
use Rattle.summary.specs.Spoken.{CountSays}
use Rattle.summary.proofs.Refusals.{fired_decides, accepted_right}
use Rattle.summary.proofs.Listed.{length_listed, get_or_listed}
use Rattle.summary.proofs.Sums.{sum_split, sum_most}
use Rattle.summary.proofs.Adding.{Fair, plus_at, plus_long}

-- THE NUMBERS

pub summary_long : (report : List ℕ) → length (summary report) ≡ 65
unfolding summary
summary_long report = ap suc (length_listed (times report (length report / 24)) 64)

pub summary_cycles : (report : List ℕ) → cycles_of (summary report) ≡ length report / 24
unfolding summary
summary_cycles report = refl

pub summary_times : (report : List ℕ) (k : ℕ) → k < 64
    → times_of (summary report) k ≡ times report (length report / 24) k
unfolding summary
summary_times report k l = get_or_listed (times report (length report / 24)) 64 k 0 l

-- A list with these numbers is the summary.
pub summary_is : (report s : List ℕ) → length s ≡ 65 → cycles_of s ≡ length report / 24
    → ((k : ℕ) → k < 64 → times_of s k ≡ times report (length report / 24) k) → s ≡ summary report
summary_is report s long cycles counted =
    ext_get_or 0 s (summary report) (long ∙ sym (summary_long report)) (λ i l. each i (omega (arith, long, l)))
  where
    each : (i : ℕ) → i < 65 → get_or s i 0 ≡ get_or (summary report) i 0
    each zero l = cycles ∙ sym (summary_cycles report)
    each (suc k) l = counted k (le_of_suc-le-suc l) ∙ sym (summary_times report k (le_of_suc-le-suc l))

-- No transition fires more often than there are records.
pub summary_fair : (report : List ℕ) → Fair (summary report)
unfolding times
summary_fair report k l =
    omega (
      arith,
      summary_cycles report,
      summary_times report k l,
      sum_most (length report / 24) (λ r. bit (fired_word report r) k),
    )

-- ONE REPORT BEHIND ANOTHER

module _ (one other : List ℕ) where
  -- A record that the first holds whole is its record,
  pub word_front : (r : ℕ) → 24 * r + 24 ≤ length one → fired_word (one ++ other) r ≡ fired_word one r
  unfolding fired_word
  word_front r h =
      ap (λ (l : List ℕ). number (take 8 l)) (drop-append-le (24 * r) one other (omega (arith, h)))
      ∙ ap number (take-append-le 8 (drop (24 * r) one) other (omega (arith, h, length-drop (24 * r) one)))

  -- and behind its last the second's stand.
  word_back : (n r : ℕ) → length one ≡ 24 * n → fired_word (one ++ other) (n + r) ≡ fired_word other r
  unfolding fired_word
  word_back n r h =
      let there : 24 * (n + r) ≡ length one + 24 * r = omega (arith, h) in
      ap (λ (i : ℕ). number (take 8 (drop i (one ++ other)))) there
      ∙ ap (λ (l : List ℕ). number (take 8 l)) (drop-append-add one other (24 * r))

  -- Each record of both is a record of the one or of the other.
  word_joined : length one % 24 ≡ 0 → (r : ℕ)
      → ((24 * r < length one) × (fired_word (one ++ other) r ≡ fired_word one r))
      ⊎ ((q : ℕ) × (24 * r ≡ length one + 24 * q) × (fired_word (one ++ other) r ≡ fired_word other q))
  word_joined even r =
      ⊎_elim
      (λ (e : ltb (24 * r) (length one) ≡ true).
      let l = ltb-true (24 * r) (length one) e in
      inl (l, word_front r (omega (arith, even, l))))
      (λ (e : ltb (24 * r) (length one) ≡ false).
      let l = ltb-false (24 * r) (length one) e in
      let n : ℕ = length one / 24 in
      let here : n + (r - n) ≡ r = omega (arith, l) in
      inr (r - n, omega (arith, even, l), rw here at (word_back n (r - n) (omega (arith, even)))))
      (either (ltb (24 * r) (length one)))

  times_joined : (n m k : ℕ) → length one ≡ 24 * n
      → times (one ++ other) (n + m) k ≡ times one n k + times other m k
  unfolding times
  times_joined n m k h =
      sum_split n m (λ r. cond (bit (fired_word (one ++ other) r) k) 1 0)
      ∙ ap₂ (λ (a b : ℕ). a + b)
      (sum_same n _ _ (λ r l. ap (λ (x : ℕ). cond (bit x k) 1 0) (word_front r (omega (arith, h, l)))))
      (sum_same m _ _ (λ r l. ap (λ (x : ℕ). cond (bit x k) 1 0) (word_back n r h)))

  -- The summary of both is the sum of their summaries.
  pub summary_joined : length one % 24 ≡ 0 → length other % 24 ≡ 0
      → plus (summary one) (summary other) ≡ summary (one ++ other)
  summary_joined even even' =
      let whole : length one ≡ 24 * (length one / 24) = omega (arith, even) in
      let records : length (one ++ other) / 24 ≡ length one / 24 + length other / 24 =
      omega (arith, length-append one other, even, even') in
      summary_is (one ++ other) (plus (summary one) (summary other)) (plus_long (summary one) (summary other))
      (plus_at (summary one) (summary other) 0 (omega arith)
      ∙ omega (arith, summary_cycles one, summary_cycles other, records))
      (λ k l.
      plus_at (summary one) (summary other) (suc k) (omega (arith, l))
      ∙ ap₂ (λ (a b : ℕ). a + b) (summary_times one k l) (summary_times other k l)
      ∙ sym (ap (λ (n : ℕ). times (one ++ other) n k) records
      ∙ times_joined (length one / 24) (length other / 24) k whole))

-- Where nothing is said of either, nothing is said of both, if they are not too long: a stranger in both is one in the
-- one or in the other.
pub none_joined : (bs one other : List ℕ) → ((n w : ℕ) → ¬ CountSays bs one n w)
    → ((n w : ℕ) → ¬ CountSays bs other n w) → length one + length other ≤ 12288
    → (n w : ℕ) → ¬ CountSays bs (one ++ other) n w
none_joined bs one other none none' short = never
  where
    right : (length one % 24 ≡ 0) × (length one ≤ 12288)
    right = accepted_right bs one none

    right' : (length other % 24 ≡ 0) × (length other ≤ 12288)
    right' = accepted_right bs other none'

    both : length (one ++ other) ≡ length one + length other
    both = length-append one other

    never : (n w : ℕ) → CountSays bs (one ++ other) n w → ⊥
    never n w (CountSays.of_table h) = none n w (CountSays.of_table h)
    never n w (CountSays.length_odd h) = h (omega (arith, both, right.0, right'.0))
    never n w (CountSays.length_long h) = omega (arith, both, short, h)
    never n w (CountSays.stranger {r} k even few l m g u) =
        let fired = (fired_decides (one ++ other) k r).1 g in
        ⊎_elim
        (λ h.
        none 14 r
        (CountSays.stranger k right.0 right.1 h.0 m
        ((fired_decides one k r).0 (ap (λ (x : ℕ). bit x k) (sym h.1) ∙ fired)) u))
        (λ h.
        none' 14 h.0
        (CountSays.stranger k right'.0 right'.1 (omega (arith, both, l, h.1)) m
        ((fired_decides other k h.0).0 (ap (λ (x : ℕ). bit x k) (sym h.2) ∙ fired)) u))
        (word_joined one other right.0 r)

-- What lookup hands back of a cycle begins with its record's fired word.
pub lookup_word : (report : List ℕ) (j : ℕ) → 24 * suc j ≤ length report
    → fired_in (lookup report (suc j)) ≡ fired_word report j
unfolding fired_word
lookup_word report j h =
    let here : 24 * (suc j - 1) ≡ 24 * j = omega arith in
    ap (λ (l : List ℕ). number (take 8 l)) (lookup_whole report (suc j) (omega arith) h).0
    ∙ ap number (take-take 8 24 (drop (24 * (suc j - 1)) report) (omega arith))
    ∙ ap (λ (i : ℕ). number (take 8 (drop i report))) here
