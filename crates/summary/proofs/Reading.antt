-- The numbers that the definitions compute are those that the relations say, and no others: both go record by record.
use mathlib.Core.Bool.{Bool, true, false, cond, ◌&&◌}
use mathlib.Core.List.{List}
use mathlib.Core.Logic.{◌↔◌}
use mathlib.Core.Path.{◌≡◌, refl, sym, ap, ◌∙◌}
use Prim.Native.Nat.{ℕ, zero, suc, ◌+◌, ◌*◌, ◌<◌}
use native.Mathlib.Nat.{add-zero}
use native.Mathlib.Numerals.{add-one}
use native.Mathlib.Omega.{arith}
use lib.Dec.{eqb}
use lib.IntN.{ℤ, pos, ◌-ℤ◌, -ℤ-+ℤ_cancel, +ℤ-neg_ℤ_cancel}
use Rattle.meaning.specs.Below.{sum}
use Rattle.meaning.specs.Bytes.{bit}
use Rattle.meaning.specs.Table.{Table, arc, total}
use Rattle.meaning.proofs.Bool.{not_both}
use Rattle.meaning.proofs.Reflect.{Decides, recast, eq_decides, and_decides}
use Rattle.summary.specs.Day.{fired_word, times, times_of, moved, change}
use Rattle.summary.specs.Spoken.{FiredIn, Times, ArcAt, Moves, Net}
use Rattle.summary.proofs.Refusals.{fired_decides}

-- HOW OFTEN

-- A test that decides what is so counts it,
pub times_by : (So : ℕ → Type 0) (b : ℕ → Bool) (n : ℕ) → ((r : ℕ) → r < n → Decides (b r) (So r))
    → Times So n (sum n (λ r. cond (b r) 1 0))
unfolding sum
times_by So b zero d = Times.none
times_by So b (suc n) d = go (b n) refl (times_by So b n (λ r l. d r (omega (arith, l))))
  where
    so_far : ℕ
    so_far = sum n (λ r. cond (b r) 1 0)

    go : (c : Bool) → b n ≡ c → Times So n so_far → Times So (suc n) (so_far + cond c 1 0)
    go true e t = rw (add-one so_far) (Times.counts ((d n (omega arith)).0 e) t)
    go false e t = rw (add-zero so_far) (Times.passes (λ s. not_both ((d n (omega arith)).1 s) e) t)

-- and nothing else is the count.
pub times_only : {So : ℕ → Type 0} {n c c' : ℕ} → Times So n c → Times So n c' → c ≡ c'
times_only Times.none Times.none = refl
times_only (Times.counts s t) (Times.counts s' t') = ap suc (times_only t t')
times_only (Times.counts s t) (Times.passes h t') = absurd (h s)
times_only (Times.passes h t) (Times.counts s t') = absurd (h s)
times_only (Times.passes h t) (Times.passes h' t') = times_only t t'

-- How often a transition fired in the first n records of a report.
pub times_is : (report : List ℕ) (n k c : ℕ) → (times report n k ≡ c) ↔ Times (FiredIn report k) n c
unfolding times
times_is report n k c =
    let all = times_by (FiredIn report k) (λ r. bit (fired_word report r) k) n (λ r l. fired_decides report k r) in
    (λ e. rw e at all, λ t. times_only all t)

-- WHAT ARCS MOVE

module _ (tb : Table) (sort p : ℕ) (s : List ℕ) where
  arc_decides : (r : ℕ) → Decides (arc tb sort r && eqb (tb.one r) p) (ArcAt tb sort p r)
  arc_decides r =
      recast
      (and_decides (and_decides (eq_decides (tb.kind r) 3) (eq_decides (tb.sort r) sort)) (eq_decides (tb.one r) p))
      (λ x. (x.0.0, x.0.1, x.1))
      (λ x. ((x.0, x.1), x.2))

  moves_by : (n : ℕ)
      → Moves tb sort p s n
      (sum n (λ r. cond (arc tb sort r && eqb (tb.one r) p) (tb.four r * times_of s (tb.two r)) 0))
  unfolding sum
  moves_by zero = Moves.none
  moves_by (suc n) = go (arc tb sort n && eqb (tb.one n) p) refl (moves_by n)
    where
      so_far : ℕ
      so_far = sum n (λ r. cond (arc tb sort r && eqb (tb.one r) p) (tb.four r * times_of s (tb.two r)) 0)

      go : (c : Bool) → (arc tb sort n && eqb (tb.one n) p) ≡ c → Moves tb sort p s n so_far
          → Moves tb sort p s (suc n) (so_far + cond c (tb.four n * times_of s (tb.two n)) 0)
      go true e m = Moves.counts ((arc_decides n).0 e) m
      go false e m = rw (add-zero so_far) (Moves.passes (λ a. not_both ((arc_decides n).1 a) e) m)

  moves_only : {n w w' : ℕ} → Moves tb sort p s n w → Moves tb sort p s n w' → w ≡ w'
  moves_only Moves.none Moves.none = refl
  moves_only (Moves.counts {n} a m) (Moves.counts a' m') =
      ap (λ (w : ℕ). w + tb.four n * times_of s (tb.two n)) (moves_only m m')
  moves_only (Moves.counts a m) (Moves.passes h m') = absurd (h a)
  moves_only (Moves.passes h m) (Moves.counts a m') = absurd (h a)
  moves_only (Moves.passes h m) (Moves.passes h' m') = moves_only m m'

  pub moved_is : (w : ℕ) → (moved tb sort s p ≡ w) ↔ Moves tb sort p s tb.records w
  unfolding moved total
  moved_is w = (λ e. rw e at (moves_by tb.records), λ m. moves_only (moves_by tb.records) m)

-- The net change of a place.
pub change_is : (tb : Table) (s : List ℕ) (p : ℕ) (d : ℤ) → (change tb s p ≡ d) ↔ Net tb s p d
unfolding change
change_is tb s p d = (
  λ e.
      rw (sym e)
      (record {
        put = moved tb 3 s p;
        taken = moved tb 0 s p;
        puts = (moved_is tb 3 p s _).0 refl;
        takes = (moved_is tb 0 p s _).0 refl;
        makes = -ℤ-+ℤ_cancel (pos (moved tb 3 s p)) (pos (moved tb 0 s p));
      }),
  λ n.
      let put = (moved_is tb 3 p s n.put).1 n.puts in
      let taken = (moved_is tb 0 p s n.taken).1 n.takes in
      rw (put, taken)
      (ap (λ (x : ℤ). x -ℤ pos n.taken) (sym n.makes) ∙ +ℤ-neg_ℤ_cancel d (pos n.taken)),
)
