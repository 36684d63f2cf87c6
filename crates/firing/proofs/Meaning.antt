-- From the rows to the meaning: what the fired rivals of a transition take by the rows is what the fired ones above it
-- withdraw by the table, wherever it has an input arc, so a set that fires by the rows meets definition 6, and only
-- the fired set does.
use mathlib.Core.Bool.{Bool, true, false, cond, not, ◌&&◌, ◌||◌, and-true, and-false}
use mathlib.Core.List.{List}
use mathlib.Core.Path.{◌≡◌, refl, sym, ap, ap₂, ◌∙◌}
use Prim.Native.Nat.{ℕ, ◌+◌, ◌-◌, ◌≤◌, ◌<◌}
use native.Mathlib.Nat.{zero-add}
use native.Mathlib.Omega.{arith}
use lib.Bits.{bit_and}
use lib.Dec.{eqb}
use lib.ListN.{get_or}
use borrow.Author.Tests.{eqb-true, not-true}
use Rattle.meaning.specs.Below.{some, within}
use Rattle.meaning.specs.Bytes.{bit}
use Rattle.meaning.specs.Table.{Table, table, transition}
use Rattle.meaning.specs.Priority.{above}
use Rattle.meaning.specs.Image.{State}
use Rattle.meaning.specs.Cycle.{enabled, as_wanted, in_time, firable, withdrawn, residual, rule, fired}
use Rattle.meaning.proofs.Bool.{and_left, and_right, and_true as both}
use Rattle.meaning.proofs.Below.{some_same, some_intro, some_elim, none_elim, sum_same, sum_zero}
use Rattle.meaning.proofs.Well.{Well}
use Rattle.meaning.proofs.Accepted.{accepted_well}
use Rattle.meaning.proofs.Fired.{and_same, height, height_falls, height_bound, agree, fired_meets}
use Rattle.sets.proofs.Bits.{bit_zero, bit-and}
use Rattle.rows.specs.declared.Declared.{Declared}
use Rattle.rows.specs.Rows.{inputs, takers, below, cell, taken_at}
use Rattle.rows.specs.Filed.{input, joins, Sizes, NetOf}
use Rattle.arcs.specs.Arcs.{low, high, rivals_of, rival, Rivals}
use Rattle.sets.proofs.Some.{some_split}
use Rattle.firing.specs.Fired.{stops_with, stopped_at, left_enabled, keeps, There, Housed, Ranks, Fires}
use Rattle.rows.proofs.Arcs.{accepted_laid, joins_test, inputs_are}
use Rattle.firing.proofs.Arcs.{enabled_is}
use Rattle.firing.proofs.Taken.{taken_is}

-- Whoever is firable is enabled.
firable_enabled : (tb : Table) (st : State) (word t : ℕ) → firable tb st word t ≡ true
    → enabled tb st.tokens t ≡ true
unfolding firable
firable_enabled tb st word t e =
    let rest =
    and_right (transition tb t) (enabled tb st.tokens t && as_wanted tb word t && in_time tb (st.counter t) t)
    e in
    and_left _ (as_wanted tb word t) (and_left _ (in_time tb (st.counter t) t) rest)

module _ {bs : List ℕ} {n : ℕ} {rows : List ℕ} {w s : List (List ℕ)} {heads posts times : List ℕ} {known : Declared}
    (net : NetOf bs n rows w s heads posts times known) {arcs : List ℕ} {lower : ℕ} (x : Rivals rows arcs lower) where
  abbrev tb : Table
  tb = table bs

  well : Well tb
  well = accepted_well bs net.sound

  -- A transition's rank is how many stand above it: a rival stands above.
  pub ranks : Ranks arcs lower
  ranks =
      record {
        rank = height tb;
        few = height_bound tb well;
        falls = λ t u h l e.
            height_falls tb well u t l h
            (sym (net.closed.holds u t l h) ∙ and_left (bit (below rows u) t) _ (sym (x.rivals_are t u h l) ∙ e));
        lower_is = λ t h e u l. x.rivals_are t u h l ∙ none_elim 64 (rival rows t) (sym (x.lower_is t h) ∙ e) u l;
      }

  -- A place with an input arc is below n.
  pub near : (p t : ℕ) → p < 128 → t < 64 → bit (inputs rows p) t ≡ true → p < n
  near p t h l e =
      let r =
      some_elim tb.records (λ r. input tb r && joins tb p t r)
      (sym (inputs_are (accepted_laid net) p t h l) ∙ e) in
      let place : tb.one r.0 ≡ p = (joins_test tb p t r.0 (and_right (input tb r.0) _ r.2)).0 in
      omega (arith, net.below r.0 r.1)

  -- So the places of the transitions' words have their rows.
  pub housed : Sizes n tb.records rows w s heads posts times → Housed rows arcs w s
  housed z =
      record {
        low_in = λ t h. there t h (low arcs t) 0 (omega arith) (λ k l e. rw (zero-add k) (sym (x.low_is t k h l) ∙ e));
        high_in = λ t h. there t h (high arcs t) 64 (omega arith) (λ k l e. sym (x.high_is t k h l) ∙ e);
      }
    where
      there : (t : ℕ) → t < 64 → (word first : ℕ) → first ≤ 64
          → ((k : ℕ) → k < 64 → bit word k ≡ true → bit (inputs rows (first + k)) t ≡ true) → There word first rows w s
      there t h word first few has =
          record {
            sets_in = λ k l e. omega (arith, near (first + k) t (omega arith) h (has k l e), z.rows_are);
            weights_in = λ k l e. omega (arith, near (first + k) t (omega arith) h (has k l e), z.weights_are);
            sorts_in = λ k l e. omega (arith, near (first + k) t (omega arith) h (has k l e), z.sorts_are);
          }

  -- Some place of t's two words passes exactly if some place whose row has t does.
  by_places : (f : ℕ → Bool) (t : ℕ) → t < 64
      → (some 64 (λ p. bit (low arcs t) p && f (0 + p)) || some 64 (λ p. bit (high arcs t) p && f (64 + p)))
      ≡ some 128 (λ p. bit (inputs rows p) t && f p)
  by_places f t h =
      ap₂ (λ (a b : Bool). a || b) (some_same 64 _ _ (λ p l. rw (x.low_is t p h l, zero-add p)))
      (some_same 64 _ _ (λ p l. rw (x.high_is t p h l)))
      ∙ sym (some_split 64 64 (λ p. bit (inputs rows p) t && f p))

  -- Whoever takes from a place of an input arc of t and stands above t is a rival: what the rivals in r take there is
  -- what those above t withdraw.
  rivals_take : (r t p : ℕ) → t < 64 → p < 128 → bit (inputs rows p) t ≡ true
      → taken_at (bit_and r (rivals_of arcs t)) rows w p ≡ withdrawn tb (λ u. bit r u && above tb u t) p
  rivals_take r t p h l i =
      sum_same 64 _ _ (λ u k. ap (λ (b : Bool). cond b (cell w p u) 0) (go u k (bit (takers rows p) u) refl))
      ∙ taken_is net (λ u. bit r u && above tb u t) p l
    where
      go : (u : ℕ) → u < 64 → (b : Bool) → bit (takers rows p) u ≡ b
          → (bit (bit_and r (rivals_of arcs t)) u && b) ≡ ((bit r u && above tb u t) && b)
      go u k true e =
          rw (
            bit-and r (rivals_of arcs t) u,
            x.rivals_are t u h k,
            net.closed.holds u t k h,
            some_intro 128 (λ p. bit (inputs rows p) t && bit (takers rows p) u) p l (both i e),
            and-true (above tb u t),
          )
      go u k false e = and-false (bit (bit_and r (rivals_of arcs t)) u) ∙ sym (and-false (bit r u && above tb u t))

  module _ (st : State) (m : List ℕ) (tokens : (p : ℕ) → p < 128 → get_or m p 0 ≡ st.tokens p) where
    -- At a place of its input arcs t is stopped by what its rivals in r leave exactly if it is by its residual
    -- marking: where they take nothing the marking itself does not stop it.
    stopped_is : (r t p : ℕ) → t < 64 → p < 128 → bit (inputs rows p) t ≡ true
        → stops_with (st.tokens p) w s t p ≡ false
        → stopped_at m rows w s (bit_and r (rivals_of arcs t)) t p
        ≡ stops_with (residual tb st.tokens (bit r) t p) w s t p
    unfolding residual
    stopped_is r t p h l i off = go (eqb (bit_and g (takers rows p)) 0) refl
      where
        g : ℕ
        g = bit_and r (rivals_of arcs t)

        out : ℕ
        out = withdrawn tb (λ u. bit r u && above tb u t) p

        go : (b : Bool) → eqb (bit_and g (takers rows p)) 0 ≡ b
            → (not b && stops_with (get_or m p 0 - taken_at g rows w p) w s t p)
            ≡ stops_with (st.tokens p - out) w s t p
        go true z =
            let none : taken_at g rows w p ≡ 0 =
            sum_zero 64 _
            (λ u k. rw (sym (bit-and g (takers rows p) u)
            ∙ ap (λ (y : ℕ). bit y u) (eqb-true (bit_and g (takers rows p)) 0 z) ∙ bit_zero u)) in
            let same : st.tokens p - out ≡ st.tokens p = omega (arith, rivals_take r t p h l i) in
            sym (ap (λ (k : ℕ). stops_with k w s t p) same ∙ off)
        go false z = ap₂ (λ (a b : ℕ). stops_with (a - b) w s t p) (tokens p l) (rivals_take r t p h l i)

    -- So a firable transition stays enabled by what its rivals in r leave exactly if its residual marking enables it.
    pays_is : (word r t : ℕ) → t < 64 → firable tb st word t ≡ true
        → keeps m rows arcs w s r t ≡ enabled tb (residual tb st.tokens (bit r) t) t
    unfolding left_enabled
    pays_is word r t h e =
        ap not
        (by_places (stopped_at m rows w s (bit_and r (rivals_of arcs t)) t) t h
        ∙ some_same 128 _ _ (λ p l. and_same (bit (inputs rows p) t) _ _ (λ i. stopped_is r t p h l i (free p l i))))
        ∙ enabled_is net (residual tb st.tokens (bit r) t) t h
      where
        free : (p : ℕ) → p < 128 → bit (inputs rows p) t ≡ true → stops_with (st.tokens p) w s t p ≡ false
        free p l i =
            rw i at
            (none_elim 128 (λ p. bit (inputs rows p) t && stops_with (st.tokens p) w s t p)
            (not-true _ (enabled_is net st.tokens t h ∙ firable_enabled tb st word t e)) p l)

    -- A set that fires by the rows is the fired set.
    pub fires_is : (word able : ℕ) → ((t : ℕ) → t < 64 → bit able t ≡ firable tb st word t) → (r : ℕ)
        → Fires able m rows arcs w s r
        → (t : ℕ) → t < 64 → bit r t ≡ within (fired tb st word) t
    unfolding rule
    fires_is word able is_able r f t h =
        agree tb well st.tokens (firable tb st word) (bit r) (within (fired tb st word)) 64 (λ u l b. meets u l)
        (λ u l b. fired_meets tb well st word u) t h (height_bound tb well t h)
      where
        meets : (u : ℕ) → u < 64 → bit r u ≡ rule tb st.tokens (firable tb st word) (bit r) u
        meets u l = f.meets u l ∙ rw (is_able u l) (and_same (firable tb st word u) _ _ (pays_is word r u l))
