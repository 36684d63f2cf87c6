-- What the parts of a cycle say of the rows is what the meaning says of the table.
use mathlib.Core.Bool.{Bool, true, false, cond, not, ◌&&◌, ◌||◌}
use mathlib.Core.List.{List}
use mathlib.Core.Path.{◌≡◌, refl, sym, ap, ◌∙◌, fun_ext}
use Prim.Native.Nat.{ℕ, ◌+◌, ◌*◌, ◌^◌, ◌≤◌, ◌<◌}
use native.Mathlib.Omega.{arith}
use lib.Dec.{ltb, eqb}
use lib.ListN.{length, get_or}
use borrow.Author.Tests.{eqb-true, ltb-true, ltb-false}
use Rattle.std.proofs.Common.{None}
use Rattle.meaning.specs.Below.{some}
use Rattle.meaning.specs.Bytes.{bit, bits}
use Rattle.meaning.specs.Table.{Table, table, total, is, basic, post, transition, ceiling}
use Rattle.meaning.specs.Image.{State}
use Rattle.meaning.specs.Cycle.{enabled, active, falling, firable, withdrawn, added, fired, rising, marked}
use Rattle.meaning.specs.Cycle.{reset, executed, overfull}
use Rattle.meaning.proofs.Bool.{and_left, and_right, not_both}
use Rattle.meaning.proofs.Below.{some_same, first_same, first_before, sum_zero}
use Rattle.meaning.proofs.Reflect.{not_true_false}
use Rattle.meaning.proofs.Fired.{rounds_out}
use Rattle.meaning.proofs.Rows.{transition_decides}
use Rattle.meaning.proofs.Accepted.{accepted_well}
use Rattle.meaning.proofs.Demand3.{start_pays}
use Rattle.sets.proofs.Bits.{bit_under, bit_out, bits_bit, bits_low, same_set}
use Rattle.rows.specs.declared.Net.{Net}
use Rattle.rows.specs.Rows.{inputs, takers, actions, cell}
use Rattle.edge.specs.Edges.{Raises, Ready, Able}
use Rattle.levels.specs.declared.Kept.{Kept}
use Rattle.levels.specs.Levels.{Levels}
use Rattle.firing.specs.Fired.{Fires}
use Rattle.rows.proofs.Arcs.{accepted_sound, accepted_laid, ranges}
use Rattle.rows.proofs.Times.{limit_timed}
use Rattle.firing.proofs.Arcs.{enabled_is}
use Rattle.firing.proofs.Taken.{taken_is}
use Rattle.firing.proofs.Meaning.{fires_is}
use Rattle.marking.specs.declared.Moved.{Moved}
use Rattle.marking.specs.declared.Moves.{Moves}
use Rattle.marking.specs.declared.Settled.{Settled}
use Rattle.marking.specs.Moves.{put_at, lacking_at, Chains, Leads, TallyAsks, Tallied}
use Rattle.marking.specs.Sweep.{new_at}
use Rattle.marking.specs.Settle.{SettleAsks, Settles}
use Rattle.marking.proofs.ByTable.{chained, put_added, put_low, taken_some}
use Rattle.sets.proofs.Some.{some_short}
use Rattle.state.specs.declared.State.{State as Arrays}
use Rattle.state.specs.Holds.{held}
use Rattle.turn.specs.Turn.{Laid, Poised, fires, Stepped}
use Rattle.turn.proofs.Rows.{no_bit, actions_is, active_bit, functions_is, starved_is, few_records, weight_low}
use Rattle.turn.proofs.Rows.{weighty}
use Rattle.turn.proofs.Firable.{counts_are, counts_low, able_are}

-- The set with what passes p is the number made of p.
bits_of : (x : ℕ) (p : ℕ → Bool) → x < 2 ^ 64 → ((k : ℕ) → k < 64 → bit x k ≡ p k) → x ≡ bits p
bits_of x p h f = same_set x (bits p) h (bits_low p) (λ k l. f k l ∙ sym (bits_bit p k l))

-- What the parts of a cycle have told up to the set that fires, from a poised state: whom the places hold back, which
-- actions they activate, who is enabled, the counters after the falling edge, and the firable.
pub record Told (net : Net) (state : Arrays) (word : ℕ) (kept : Kept) (none : Moves) (counters' : List ℕ)
    (shut shown on ready able f : ℕ) : Type 0 where
  pub poised : Poised net state kept none
  pub shut_is : (t : ℕ) → bit shut t ≡ some (8 * net.eights) (λ p. bit (get_or kept.held p 0) t)
  pub shown_is : (k : ℕ) → bit shown k ≡ some (8 * net.eights) (λ p. bit (get_or kept.active p 0) k)
  pub on_is : (t : ℕ) → bit on t ≡ (bit net.known t && not (bit shut t))
  pub raises : Raises net.timed state.orders on net.times.now state.counters counters'
  pub ready_is : Ready net.timed on net.times.now counters' ready
  pub able_is : Able on net.timed ready net.rows.now word able
  pub low_set : f < 2 ^ 64
  pub fires_it : Fires able state.tokens net.rows.now net.arcs.now net.weights.now net.sorts.now f

module _ {bs : List ℕ} {net : Net} (laid : Laid bs net) where
  abbrev tb : Table
  tb = table bs

  -- The post arcs of the table.
  post_range : (r : ℕ) → r < tb.records → post tb r ≡ true → tb.kind r ≡ 3
  post_range r h e = eqb-true (tb.kind r) 3 (and_left (is tb 3 r) _ e)

  post_low : (r : ℕ) → r < tb.records → post tb r ≡ true → tb.two r < 64
  post_low r h e = (ranges (accepted_laid laid.net_of) r h (post_range r h e)).1

  pub put_most : (f p : ℕ) → put_at f net.heads.now net.posts.now p ≤ 67107840
  put_most f p =
      put_low laid.net_of.filed.posted post_low (few_records bs laid.net_of.sound)
      (λ r h e. weight_low bs laid.net_of.sound r h (post_range r h e)) f p

  -- A transition of the table has its rows, and a place from which somebody takes has its row of weights.
  pub rows_of : (t : ℕ) → transition tb t ≡ true → 8 * t + 8 ≤ length net.rows.now
  rows_of t e =
      let w = (transition_decides tb t).0 e in
      omega (arith, laid.net_of.below w.0 w.1, w.3, laid.sizes.rows_are)

  pub weights_of : (p t : ℕ) → p < 128 → t < 64 → bit (takers net.rows.now p) t ≡ true → p < length net.weights.now
  weights_of p t h l e = under (ltb p (8 * net.eights)) refl
    where
      under : (b : Bool) → ltb p (8 * net.eights) ≡ b → p < length net.weights.now
      under true q = omega (arith, ltb-true p (8 * net.eights) q, laid.sizes.weights_are)
      under false q = not_both e (no_bit laid.net_of 1 p t (omega arith) (ltb-false p (8 * net.eights) q) h l)

  -- What tallying asks for of the chains.
  pub chains : (c : Chains net.posts.now) × ((t : ℕ) → t < 64 → Leads c.arc (get_or net.heads.now t 0))
  chains =
      chained laid.net_of.filed.posted laid.sizes.posts_are
      (λ r h e. (ranges (accepted_laid laid.net_of) r h (post_range r h e)).0)

  module _ {state : Arrays} {word : ℕ} {kept : Kept} {none : Moves} {counters' : List ℕ}
      {shut shown on ready able f : ℕ} (told : Told net state word kept none counters' shut shown on ready able f) where
    abbrev h : State
    h = held state.tokens state.counters state.orders

    levels : Levels net.rows.now net.weights.now net.sorts.now state.tokens kept
    levels = told.poised.levels_hold

    -- Whom the places hold back is not enabled.
    pub on_bit : (t : ℕ) → t < 64 → bit on t ≡ (transition tb t && enabled tb h.tokens t)
    on_bit t l =
        told.on_is t
        ∙ rw (
          laid.known_is t l,
          told.shut_is t,
          some_same (8 * net.eights) (λ p. bit (get_or kept.held p 0) t) by_place
              (λ p h. at p (omega (arith, h, laid.net_of.few))),
          some_short (8 * net.eights) 128 by_place laid.net_of.few
              (λ p past h. rw (no_bit laid.net_of 0 p t (omega arith) past h l)),
          enabled_is laid.net_of (λ p. get_or state.tokens p 0) t l,
        )
      where
        by_place : ℕ → Bool
        by_place p =
            bit (inputs net.rows.now p) t
            && cond (eqb (cell net.sorts.now p t) 2) (lib.Dec.leb (cell net.weights.now p t) (get_or state.tokens p 0))
            (ltb (get_or state.tokens p 0) (cell net.weights.now p t))

        at : (p : ℕ) → p < 128 → bit (get_or kept.held p 0) t ≡ by_place p
        at p h =
            (levels.spans p h).held_is (get_or state.tokens p 0) (levels.inside p h).0 (levels.inside p h).1 t

    -- The firable.
    able_bit : (t : ℕ) → t < 64 → bit able t ≡ firable tb (falling tb h) word t
    able_bit =
        able_are laid state.tokens state.counters state.orders on on_bit told.raises told.poised.counters_low ready
        able word told.ready_is told.able_is

    -- Whoever fires is a transition of the table, so it has its rows.
    pub fired_known : (t : ℕ) → bit f t ≡ true → (t < 64) × (transition tb t ≡ true)
    unfolding firable
    fired_known t e =
        let l : t < 64 = bit_under f t told.low_set e in (
          l,
          and_left (transition tb t) _
              (sym (able_bit t l) ∙ and_left (bit able t) _ (sym (told.fires_it.meets t l) ∙ e)),
        )

    -- What tallying asks for.
    pub tally_asks : TallyAsks f none.taken none.put net.rows.now net.arcs.now net.weights.now net.heads.now
        net.posts.now
    tally_asks =
        record {
          none_taken = told.poised.none_taken;
          none_put = told.poised.none_put;
          rows_there = λ t e. rows_of t (fired_known t e).1;
          takes_low_is = laid.rivals.takes_low_is;
          takes_high_is = laid.rivals.takes_high_is;
          weights_there = λ t p e h b. weights_of p t h (fired_known t e).0 b;
          chains = chains.0;
          begins = λ t e. chains.1 t (fired_known t e).0;
          put_low = λ p h. put_most f p;
        }

    -- The set that fires is the fired set.
    fired_bit : (t : ℕ) → t < 64 → bit f t ≡ fires tb h word t
    unfolding falling
    fired_bit =
        fires_is laid.net_of laid.rivals (falling tb h) state.tokens (λ p l. refl) word able able_bit f
        told.fires_it

    -- So both sets are one.
    one_set : bit f ≡ fires tb h word
    unfolding fired
    one_set = fun_ext (λ t. all t (ltb t 64) refl)
      where
        all : (t : ℕ) (b : Bool) → ltb t 64 ≡ b → bit f t ≡ fires tb h word t
        all t true e = fired_bit t (ltb-true t 64 e)
        all t false e = bit_out f t told.low_set (ltb-false t 64 e) ∙ sym (rounds_out tb _ _ 64 t (ltb-false t 64 e))

    module _ {moves : Moves} {moved : Moved}
        (tallied : Tallied f net.rows.now net.weights.now net.heads.now net.posts.now kept moves.taken moves.put
        moved) where
      -- What is taken and put.
      is_taken : (p : ℕ) → p < 128 → get_or moves.taken p 0 ≡ withdrawn tb (bit f) p
      is_taken p l = tallied.taken_is p l ∙ taken_is laid.net_of (bit f) p l

      is_put : (p : ℕ) → p < 128 → get_or moves.put p 0 ≡ added tb (bit f) p
      is_put p l = tallied.put_is p l ∙ put_added laid.net_of.filed.posted (post_low) f p

      -- Nobody moves a token at a place that no arc names.
      nothing_at : (q : ℕ → Bool) (p : ℕ) → 8 * net.eights ≤ p → ((r : ℕ) → q r ≡ true → tb.one r ≡ p)
          → total tb q tb.four ≡ 0
      unfolding total
      nothing_at q p past at =
          sum_zero tb.records _
          (λ r l. rw (not_true_false (q r) (λ e. omega (arith, laid.net_of.below r l, past, at r e))))

      -- The tokens pay for what is taken (demand 3).
      pays : (p : ℕ) → p < 128 → get_or moves.taken p 0 ≤ get_or state.tokens p 0
      unfolding falling
      pays p l =
          let there = start_pays tb (accepted_well bs laid.net_of.sound) (falling tb h) word p in
          let same : get_or moves.taken p 0 ≡ withdrawn tb (fires tb h word) p =
          is_taken p l ∙ ap (λ (F : ℕ → Bool). withdrawn tb F p) one_set in
          rw same there

      -- What settling asks for.
      pub settle_asks : SettleAsks (8 * net.eights) moved.lack net.rows.now net.weights.now net.sorts.now state.tokens
          kept moves.taken moves.put
      unfolding withdrawn added
      settle_asks =
          record {
            few = laid.net_of.few;
            rows_there = laid.sizes.rows_are;
            weights_there = laid.sizes.weights_are;
            sorts_there = laid.sizes.sorts_are;
            tokens_low = told.poised.tokens_low;
            pays = pays;
            put_low = λ p l. rw (tallied.put_is p l) (put_most f p);
            none_taken = λ p past l.
                is_taken p l
                ∙ nothing_at (λ r. basic tb r && eqb (tb.one r) p && bit f (tb.two r)) p past
                (λ r e. eqb-true (tb.one r) p (and_right (basic tb r) (eqb (tb.one r) p)
                (and_left (basic tb r && eqb (tb.one r) p) (bit f (tb.two r)) e)));
            none_put = λ p past l.
                is_put p l
                ∙ nothing_at (λ r. post tb r && eqb (tb.one r) p && bit f (tb.two r)) p past
                (λ r e. eqb-true (tb.one r) p (and_right (post tb r) (eqb (tb.one r) p)
                (and_left (post tb r && eqb (tb.one r) p) (bit f (tb.two r)) e)));
            levels_hold = levels;
            lack_is = λ j.
                tallied.lack_is j
                ∙ some_same 128 _ _
                (λ p l.
                ap (λ (b : Bool). b && bit (lacking_at kept p) j)
                (sym (ap (ltb 0) (tallied.taken_is p l)
                ∙ taken_some f net.rows.now net.weights.now p (λ t k e. weighty laid.net_of p t l k e))));
          }

      -- The new tokens are those of the new marking.
      token_is : (p : ℕ) → p < 128
          → new_at state.tokens moves.taken moves.put p ≡ marked tb h.tokens (fires tb h word) p
      unfolding marked
      token_is p l =
          let here : new_at state.tokens moves.taken moves.put p ≡ marked tb h.tokens (bit f) p =
          rw (is_taken p l, is_put p l) in
          here ∙ ap (λ (F : ℕ → Bool). marked tb h.tokens F p) one_set

      module _ {tokens' : List ℕ} {kept' : Kept} {moves' : Moves} {x : Settled}
          (settles : Settles net.rows.now net.weights.now net.sorts.now state.tokens moves.taken moves.put tokens' kept'
          moves'.taken moves'.put x) where
        -- The orders are those after the rising edge.
        order_is : (orders' : ℕ) → ((t : ℕ) → bit orders' t ≡ (bit net.timed t && (bit f t || bit x.starved t)))
            → (t : ℕ) → t < 64
            → bit orders' t ≡ reset tb h.tokens (fires tb h word) t
        unfolding reset
        order_is orders' after t l =
            let here : bit orders' t ≡ reset tb h.tokens (bit f) t =
            after t
            ∙ rw (
              laid.timed_is t l,
              ap not (limit_timed (accepted_sound bs laid.net_of.sound) t laid.net_of.filed.timed l),
              settles.starved_are t,
              starved_is laid.net_of (λ p. get_or state.tokens p 0) (bit f) (λ p. get_or moves.taken p 0) is_taken t l,
            ) in
            here ∙ ap (λ (F : ℕ → Bool). reset tb h.tokens F t) one_set

        -- The whole cycle.
        pub stepped : shown < 2 ^ 64 → moved.functions < 2 ^ 64 → (orders' : ℕ)
            → ((t : ℕ) → bit orders' t ≡ (bit net.timed t && (bit f t || bit x.starved t)))
            → Stepped tb h word
            (record { fired = f; actions = shown; functions = moved.functions; full = x.full })
            (record { tokens = tokens'; counters = counters'; orders = orders' })
        unfolding falling rising overfull ceiling
        stepped shown_low functions_low orders' after =
            record {
              fired_is = bits_of f _ told.low_set fired_bit;
              actions_are = bits_of shown _ shown_low shown_bit;
              functions_are =
                  bits_of moved.functions _ functions_low
                  (λ k l.
                  tallied.functions_are k
                  ∙ functions_is laid.net_of (bit f) k l ∙ ap (λ (F : ℕ → Bool). executed tb F k) one_set);
              full_is =
                  rw (← first_same 128 (λ p. ltb 65535 (get_or tokens' p 0))
                  (overfull tb (rising tb (falling tb h) (fires tb h word)))
                  (λ p l. ap (ltb 65535) (settles.tokens_are p l ∙ token_is p l)))
                  settles.full_is;
              tokens_are = λ p l. settles.tokens_are p l ∙ token_is p l;
              counters_are = counts_are laid state.tokens state.counters state.orders on on_bit told.raises;
              orders_are = order_is orders' after;
            }
          where
            -- The active actions.
            shown_bit : (k : ℕ) → k < 64 → bit shown k ≡ active tb h.tokens k
            shown_bit k l =
                told.shown_is k
                ∙ some_same (8 * net.eights) _ (λ p. bit (actions net.rows.now p) k && ltb 0 (get_or state.tokens p 0))
                (λ p q.
                let low : p < 128 = omega (arith, q, laid.net_of.few) in
                let inside = levels.inside p low in
                active_bit laid.net_of (get_or state.tokens p 0) k p ((levels.spans p low).active_is
                (get_or state.tokens p 0) inside.0 inside.1))
                ∙ some_short (8 * net.eights) 128
                (λ p. bit (actions net.rows.now p) k && ltb 0 (get_or state.tokens p 0)) laid.net_of.few
                (λ p past q. rw (no_bit laid.net_of 3 p k (omega arith) past q l))
                ∙ actions_is laid.net_of (λ p. get_or state.tokens p 0) k l

        -- All is poised for the next cycle where no place is full.
        pub poised : (orders' : ℕ) → x.full ≡ None
            → Poised net (record { tokens = tokens'; counters = counters'; orders = orders' }) kept' moves'
        poised orders' none =
            record {
              tokens_low = λ p l.
                  ltb-false 65535 (get_or tokens' p 0)
                  (first_before 128 (λ p. ltb 65535 (get_or tokens' p 0)) p
                  (omega (arith, l, rw none at settles.full_is)));
              counters_low =
                  counts_low laid state.tokens state.counters state.orders on on_bit told.raises
                  told.poised.counters_low;
              levels_hold = settles.levels_hold;
              none_taken = settles.no_taken;
              none_put = settles.no_put;
            }
