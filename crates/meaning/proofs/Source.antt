-- Stopping a sort 2 counter at a changes no firability: the stopped counter is the lesser of the source's and a, and
-- firability asks only whether it has reached a.
use mathlib.Core.Bool.{Bool, true, false, cond, ◌&&◌}
use mathlib.Core.List.{List}
use mathlib.Core.Logic.{⊎_elim}
use mathlib.Core.Path.{◌≡◌, refl, sym, ap, ◌∙◌}
use Prim.Native.Nat.{ℕ, suc, min, ◌≤◌, ◌<◌}
use native.Mathlib.Omega.{arith}
use lib.Dec.{ltb, leb}
use borrow.Author.Tests.{ltb-true, ltb-false, leb-true, leb-false, le-leb, lt-leb}
use Rattle.meaning.specs.Below.{within}
use Rattle.meaning.specs.Table.{Table, transition, timing, a_of, ceiling}
use Rattle.meaning.specs.Image.{State, state, image, image_bytes, most}
use Rattle.meaning.specs.Cycle.{enabled, risen, counted, falling, in_time, firable, fired, marked, rising, cycle}
use Rattle.meaning.specs.Steps.{Steps, Stays}
use Rattle.meaning.specs.Source.{source_counted, source_falling, source_cycle, source_run, stopped_at_a, Follows}
use Rattle.meaning.proofs.Bool.{either}
use Rattle.meaning.proofs.Well.{Well}
use Rattle.meaning.proofs.Near.{enabled_near, resets_near, fired_near}
use Rattle.meaning.proofs.Fired.{and_same}
use Rattle.meaning.proofs.Image.{tokens_back, counter_back, order_back}
use Rattle.meaning.proofs.Fits.{Fits, sorts, fits_counter, counter_low, fits_after}

module _ (tb : Table) (well : Well tb) where
  module _ (z s : State) (follows : Follows tb z s) where
    -- The falling edge keeps the two together.
    counters_follow : (t : ℕ) → t < 64 → counted tb s t ≡ stopped_at_a tb t (source_counted tb z t)
    unfolding counted risen source_counted stopped_at_a
    counters_follow t h =
        let on : enabled tb s.tokens t ≡ enabled tb z.tokens t = enabled_near tb well s.tokens z.tokens follows.tokens t in
        ⊎_elim (λ (e : timing tb t ≡ 0). rw e (rw e at (follows.counter t h)))
        (⊎_elim
        (λ (e : timing tb t ≡ 1).
        let same : s.counter t ≡ z.counter t = rw e at (follows.counter t h) in
        rw (e, on, follows.order t h, same))
        (λ (e : timing tb t ≡ 2).
        let lesser : s.counter t ≡ min (z.counter t) (a_of tb t) = rw e at (follows.counter t h) in
        let some_time : 1 ≤ a_of tb t = well.a_low t (λ q. omega arith) in
        rw (e, on, follows.order t h)
        (go (enabled tb z.tokens t) (z.order t) (ltb (s.counter t) (a_of tb t)) refl lesser some_time)))
        (sorts (timing tb t) (well.timing_sort t))
      where
        go : (on again low : Bool) → ltb (s.counter t) (a_of tb t) ≡ low
            → s.counter t ≡ min (z.counter t) (a_of tb t) → 1 ≤ a_of tb t
            → cond on (cond again 1 (cond low (suc (s.counter t)) (s.counter t))) 0 ≡ min
            (cond on (cond again 1 (suc (z.counter t))) 0) (a_of tb t)
        go true true low e l o = omega arith
        go true false true e l o = omega (arith, ltb-true (s.counter t) (a_of tb t) e)
        go true false false e l o = omega (arith, ltb-false (s.counter t) (a_of tb t) e)
        go false again low e l o = omega arith

    pub falling_follows : Follows tb (source_falling tb z) (falling tb s)
    unfolding falling source_falling
    falling_follows = record { tokens = follows.tokens; counter = counters_follow; order = follows.order }

    -- The same are in time.
    in_time_follows : (t : ℕ) → t < 64 → in_time tb (s.counter t) t ≡ in_time tb (z.counter t) t
    unfolding in_time stopped_at_a
    in_time_follows t h =
        ⊎_elim (λ (e : timing tb t ≡ 0). rw e)
        (⊎_elim (λ (e : timing tb t ≡ 1). rw (e, rw e at (follows.counter t h)))
        (λ (e : timing tb t ≡ 2).
        let lesser : s.counter t ≡ min (z.counter t) (a_of tb t) = rw e at (follows.counter t h) in
        rw e (ap (λ (b : Bool). b && true) (reached lesser))))
        (sorts (timing tb t) (well.timing_sort t))
      where
        reached : s.counter t ≡ min (z.counter t) (a_of tb t)
            → leb (a_of tb t) (s.counter t) ≡ leb (a_of tb t) (z.counter t)
        reached lesser =
            ⊎_elim
            (λ (l : leb (a_of tb t) (z.counter t) ≡ true).
            le-leb (a_of tb t) (s.counter t) (omega (arith, leb-true (a_of tb t) (z.counter t) l)) ∙ sym l)
            (λ (l : leb (a_of tb t) (z.counter t) ≡ false).
            lt-leb (a_of tb t) (s.counter t) (omega (arith, leb-false (a_of tb t) (z.counter t) l)) ∙ sym l)
            (either (leb (a_of tb t) (z.counter t)))

    -- The same are firable.
    pub firable_follows : (word t : ℕ) → firable tb s word t ≡ firable tb z word t
    unfolding firable
    firable_follows word t =
        and_same (transition tb t) _ _
        (λ d.
        rw (enabled_near tb well s.tokens z.tokens follows.tokens t, in_time_follows t (well.transition_known t d)))

    -- The same set fires.
    pub fired_follows : (word : ℕ) → fired tb s word ≡ fired tb z word
    fired_follows word = fired_near tb well z s word follows.tokens (firable_follows word)

    -- The rising edge keeps the two together.
    pub rising_follows : (F : ℕ → Bool) → Follows tb (rising tb z F) (rising tb s F)
    unfolding rising marked
    rising_follows F =
        record {
          tokens = λ p h. rw (follows.tokens p h);
          counter = follows.counter;
          order = λ t h. resets_near tb well s.tokens z.tokens follows.tokens F t;
        }

  -- A state that is written to an image and read back is followed by it.
  back_follows : (z s : State) → Follows tb z s → ((p : ℕ) → p < 128 → s.tokens p ≤ 65535)
      → ((t : ℕ) → t < 64 → s.counter t ≤ 65535)
      → Follows tb z (state (image (image_bytes s)))
  back_follows z s follows small low =
      record {
        tokens = λ p h. tokens_back s p h (small p h) ∙ follows.tokens p h;
        counter = λ t h. counter_back s t h (low t h) ∙ follows.counter t h;
        order = λ t h. order_back s t h ∙ follows.order t h;
      }

  -- One cycle of the page follows one cycle of the source.
  cycle_follows : (z : State) (img : List ℕ) (word : ℕ) → Fits tb (image img) → Stays tb img word
      → Follows tb z (state (image img))
      → Follows tb (source_cycle tb z word) (state (image (image_bytes (cycle tb img word).after)))
  unfolding cycle source_cycle ceiling
  cycle_follows z img word fits stays follows =
      let down = falling_follows z (state (image img)) follows in
      let same = fired_follows (source_falling tb z) (falling tb (state (image img))) down word in
      back_follows (source_cycle tb z word) (cycle tb img word).after
      (rw (sym same) (rising_follows (source_falling tb z) (falling tb (state (image img))) down (within (fired tb (falling tb (state (image img))) word))))
      stays
      (λ t h. counter_low tb well img word fits t h)

  -- Over any run: after n finished cycles the image follows the source's state, so the same are firable at the next
  -- cycle, whatever its word.
  pub run_follows : {ws img left img' bytes : List ℕ} {n : ℕ} (z : State) → Fits tb (image img)
      → Follows tb z (state (image img))
      → Steps tb ws img n left img' bytes → Follows tb (source_run tb n ws z) (state (image img'))
  unfolding source_run ceiling
  run_follows z fits follows Steps.none = follows
  run_follows z fits follows (Steps.more {w} {ws = ws} {img = img} stays steps) =
      run_follows (source_cycle tb z w) (fits_after tb well img w fits stays) (cycle_follows z img w fits stays follows) steps

  not_past : (t c : ℕ) → c ≤ most tb t → c ≡ stopped_at_a tb t c
  unfolding most stopped_at_a
  not_past t c h =
      ⊎_elim (λ (e : timing tb t ≡ 0). rw e)
      (⊎_elim (λ (e : timing tb t ≡ 1). rw e)
      (λ (e : timing tb t ≡ 2).
      let low : c ≤ a_of tb t = rw e at h in
      rw e (omega arith)))
      (sorts (timing tb t) (well.timing_sort t))

  -- An image that fits holds a state of the source as it stands: no counter of sort 2 is past its a.
  pub fits_follows : (img : List ℕ) → Fits tb (image img) → Follows tb (state (image img)) (state (image img))
  fits_follows img fits =
      record {
        tokens = λ p h. refl;
        counter = λ t h. not_past t ((state (image img)).counter t) (fits_counter tb (image img) fits t h);
        order = λ t h. refl;
      }

  pub stopping_changes_nothing : {ws img left img' bytes : List ℕ} {n : ℕ} → Fits tb (image img)
      → Steps tb ws img n left img' bytes
      → (word t : ℕ)
      → firable tb (falling tb (state (image img'))) word t ≡ firable tb
      (source_falling tb (source_run tb n ws (state (image img)))) word t
  stopping_changes_nothing {ws} {img} {img' = img'} {n = n} fits steps word t =
      let source = source_run tb n ws (state (image img)) in
      let down = falling_follows source (state (image img')) (run_follows (state (image img)) fits (fits_follows img fits) steps) in
      firable_follows (source_falling tb source) (falling tb (state (image img'))) down word t
