-- The times of a transition are those of the one record that declares it: how far its counter rises is what the page
-- says of its timing.
use mathlib.Core.Bool.{Bool, true, false, cond}
use mathlib.Core.List.{List, [], ◌∷◌}
use mathlib.Core.Logic.{⊎_elim}
use mathlib.Core.Path.{◌≡◌, refl, sym, ◌∙◌}
use Prim.Native.Nat.{ℕ, zero, suc, ◌+◌, ◌≤◌, ◌<◌}
use native.Mathlib.Nat.{not-suc-le-zero, le_of_suc-le-suc}
use native.Mathlib.Numerals.{add-one}
use native.Mathlib.Omega.{arith}
use lib.Dec.{eqb}
use lib.ListN.{get_or}
use borrow.Author.Tests.{eqb-true, eqb-false, eq-eqb, ne_eqb}
use Rattle.meaning.specs.Says.{Shown, Transition}
use Rattle.meaning.specs.Table.{Table, is, declared, transition, timing, a_of, b_of}
use Rattle.meaning.specs.Image.{most}
use Rattle.meaning.proofs.Accepted.{sound_well}
use Rattle.meaning.proofs.Bool.{and_left, and_right, and_true}
use Rattle.meaning.proofs.Reflect.{decided, refutes, not_true_false}
use Rattle.meaning.proofs.Rows.{transition_decides}
use Rattle.meaning.proofs.Same.{of_kind}
use Rattle.meaning.proofs.Sound.{SoundTable, declared_none, transition_column, transition_once}
use Rattle.rows.specs.Rows.{first_of, limit_of, last_of}
use Rattle.rows.specs.Filed.{latest, declares, Timed}
use Rattle.rows.proofs.Arcs.{latest_is}

-- Nothing passes, and the last of it is 0.
pub latest_none : (n : ℕ) (p : ℕ → Bool) (f : ℕ → ℕ) → ((k : ℕ) → k < n → p k ≡ false) → latest n p f ≡ 0
unfolding latest
latest_none zero p f none = refl
latest_none (suc n) p f none = rw (none n (omega arith)) (latest_none n p f (λ k h. none k (omega (arith, h))))

-- The last of what passes, of a number made of three columns, is made of the last of each; 0 is made of zeros.
latest_made : (n : ℕ) (p : ℕ → Bool) (F : ℕ → ℕ → ℕ → ℕ) (f g h : ℕ → ℕ) → F 0 0 0 ≡ 0
    → latest n p (λ k. F (f k) (g k) (h k)) ≡ F (latest n p f) (latest n p g) (latest n p h)
unfolding latest
latest_made zero p F f g h z = sym z
latest_made (suc n) p F f g h z = go (p n) (latest_made n p F f g h z)
  where
    go : (b : Bool) → latest n p (λ k. F (f k) (g k) (h k)) ≡ F (latest n p f) (latest n p g) (latest n p h)
        → cond b (F (f n) (g n) (h n)) (latest n p (λ k. F (f k) (g k) (h k)))
        ≡ F (cond b (f n) (latest n p f)) (cond b (g n) (latest n p g)) (cond b (h n) (latest n p h))
    go true e = refl
    go false e = e

-- What the record of a transition that is not timed has for a.
shown_start : {o t s f x : ℕ} → Shown 2 o t s f x → s ≡ 0 → f ≡ 0
shown_start (Shown.untimed a) e = refl
shown_start (Shown.between a b c d) e = absurd (omega (arith, e))
shown_start (Shown.from a b c) e = absurd (omega (arith, e))

-- The limit of a sort from 0 to 2, where of sort 0 a is 0, chosen from a list.
by_sort : (s a b : ℕ) → s ≤ 2 → (s ≡ 0 → a ≡ 0) → cond (eqb s 1) (suc b) a ≡ get_or (0 ∷ (b + 1) ∷ a ∷ []) s 0
by_sort zero a b h z = z refl
by_sort (suc zero) a b h z = sym (add-one b)
by_sort (suc (suc zero)) a b h z = refl
by_sort (suc (suc (suc s))) a b h z = absurd (not-suc-le-zero (le_of_suc-le-suc (le_of_suc-le-suc h)))

module _ {tb : Table} (sound : SoundTable tb) (t : ℕ) where
  -- A column of the last record that declares a transition is that column of the one that does.
  last_declared : (f : ℕ → ℕ) → latest tb.records (declares tb 2 t) f ≡ declared tb 2 t f
  last_declared f = ⊎_elim one none (decided (transition_decides tb t))
    where
      kind : (r : ℕ) → declares tb 2 t r ≡ true → tb.kind r ≡ 2
      kind r e = eqb-true _ _ (and_left (is tb 2 r) (eqb (tb.one r) t) e)

      named : (r : ℕ) → declares tb 2 t r ≡ true → tb.one r ≡ t
      named r e = eqb-true _ _ (and_right (is tb 2 r) (eqb (tb.one r) t) e)

      one : Transition tb t → latest tb.records (declares tb 2 t) f ≡ declared tb 2 t f
      one w =
          latest_is tb.records (declares tb 2 t) f w.0 w.1 (and_true (eq-eqb _ _ w.2) (eq-eqb _ _ w.3))
          (λ s l q. transition_once tb sound s w.0 l w.1 (kind s q) w.2 (named s q ∙ sym w.3))
          ∙ sym (transition_column tb sound t f w.0 w.1 w.2 w.3)

      none : ¬ Transition tb t → latest tb.records (declares tb 2 t) f ≡ declared tb 2 t f
      none out =
          latest_none tb.records (declares tb 2 t) f
          (λ k l. not_true_false (declares tb 2 t k) (λ e. out (k, l, kind k e, named k e)))
          ∙ sym (declared_none tb 2 t f (λ s l k o. out (s, l, k, o)))

  -- What is no transition is not timed; and what is not timed has no a.
  pub untimed : transition tb t ≡ false → timing tb t ≡ 0
  untimed e = declared_none tb 2 t tb.sort (λ s l k o. refutes (transition_decides tb t) e (s, l, k, o))

  no_start : timing tb t ≡ 0 → a_of tb t ≡ 0
  no_start z = ⊎_elim one none (decided (transition_decides tb t))
    where
      one : Transition tb t → a_of tb t ≡ 0
      one w =
          let column : (f : ℕ → ℕ) → declared tb 2 t f ≡ f w.0 =
          λ f. transition_column tb sound t f w.0 w.1 w.2 w.3 in
          column tb.four
          ∙ shown_start (of_kind tb w.0 2 (sound.shown w.0 w.1) w.2) (sym (column tb.sort) ∙ z)

      none : ¬ Transition tb t → a_of tb t ≡ 0
      none out = declared_none tb 2 t tb.four (λ s l k o. out (s, l, k, o))

  module _ {times : List ℕ} (timed : Timed tb tb.records times) (l : t < 64) where
    -- The first count in time, how far the counter rises, and the last count in time.
    pub first_is : first_of times t ≡ a_of tb t
    first_is = timed.first_is t l ∙ last_declared tb.four

    pub limit_is : limit_of times t ≡ cond (eqb (timing tb t) 1) (suc (b_of tb t)) (a_of tb t)
    limit_is =
        timed.limit_is t l
        ∙ latest_made tb.records (declares tb 2 t) (λ s a b. cond (eqb s 1) (suc b) a) tb.sort tb.four
        tb.six refl
        ∙ rw (last_declared tb.sort, last_declared tb.four, last_declared tb.six)

    pub last_is : last_of times t ≡ cond (eqb (timing tb t) 2) 4294967295 (b_of tb t)
    last_is =
        timed.last_is t l
        ∙ latest_made tb.records (declares tb 2 t) (λ s a b. cond (eqb s 2) 4294967295 b) tb.sort tb.four
        tb.six refl
        ∙ rw (last_declared tb.sort, last_declared tb.six)

    -- The limit is the highest counter that fits.
    pub limit_is_most : limit_of times t ≡ most tb t
    unfolding most
    limit_is_most =
        limit_is ∙ by_sort (timing tb t) (a_of tb t) (b_of tb t) ((sound_well tb sound).timing_sort t) no_start

    -- A counter rises exactly if its transition is timed, and to no more than 65,535.
    pub limit_timed : eqb (limit_of times t) 0 ≡ eqb (timing tb t) 0
    limit_timed = rw limit_is (go (eqb (timing tb t) 0) (eqb (timing tb t) 1) refl refl)
      where
        go : (x y : Bool) → eqb (timing tb t) 0 ≡ x → eqb (timing tb t) 1 ≡ y
            → eqb (cond y (suc (b_of tb t)) (a_of tb t)) 0 ≡ x
        go true true e f = absurd (omega (arith, eqb-true (timing tb t) 0 e, eqb-true (timing tb t) 1 f))
        go true false e f = eq-eqb _ 0 (no_start (eqb-true (timing tb t) 0 e))
        go false true e f = ne_eqb (suc (b_of tb t)) 0 (λ z. omega (arith, z))
        go false false e f =
            let least = (sound_well tb sound).a_low t (eqb-false (timing tb t) 0 e) in
            ne_eqb (a_of tb t) 0 (λ z. omega (arith, z, least))

    pub limit_low : limit_of times t ≤ 65535
    limit_low = rw limit_is (go (eqb (timing tb t) 1))
      where
        go : (y : Bool) → cond y (suc (b_of tb t)) (a_of tb t) ≤ 65535
        go true = omega (arith, (sound_well tb sound).b_high t)
        go false = (sound_well tb sound).a_high t
