-- The firable by the rows are the firable by the table: a bit of a row is a condition record, and the times are those
-- of the table.
use mathlib.Core.Bool.{Bool, true, false, cond, not, ◌&&◌, ◌||◌, beq}
use mathlib.Core.List.{List}
use mathlib.Core.Path.{◌≡◌, refl, sym, ap, ◌∙◌}
use Prim.Native.Nat.{ℕ, ◌≤◌, ◌<◌}
use native.Mathlib.Omega.{arith}
use lib.Dec.{eqb}
use lib.ListN.{get_or}
use borrow.Author.Tests.{eqb-true, eq-eqb, lt-ltb, not-true}
use Rattle.meaning.specs.Below.{some}
use Rattle.meaning.specs.Bytes.{bit}
use Rattle.meaning.specs.Says.{Same}
use Rattle.meaning.specs.Table.{Table, table, is, transition, timing}
use Rattle.meaning.specs.Cycle.{enabled, counted, falling, as_wanted, firable}
use Rattle.meaning.proofs.Bool.{and_left, and_right, and_true, same_test}
use Rattle.meaning.proofs.Below.{some_intro, some_elim, none_intro, none_elim, every_intro}
use Rattle.meaning.proofs.Pays.{condition_met}
use Rattle.meaning.proofs.Sound.{SoundTable, same_record}
use Rattle.rows.specs.declared.Declared.{Declared}
use Rattle.rows.specs.declared.Net.{Net}
use Rattle.rows.specs.Rows.{looks, wanted_true}
use Rattle.rows.specs.Filed.{kept_in, joins, NetOf}
use Rattle.rows.proofs.Shown.{two_low}
use Rattle.edge.specs.Edges.{as_asked, FirableAsks, Raises, Ready, Able}
use Rattle.rows.proofs.Arcs.{accepted_sound, joins_test}
use Rattle.rows.proofs.Times.{limit_timed}
use Rattle.state.specs.Holds.{held}
use Rattle.turn.specs.Turn.{Laid}
use Rattle.turn.proofs.Times.{count_is, count_low, in_time_is}

-- A test behind another that need not pass.
behind : (a b : Bool) → (a ≡ true → b ≡ true) → (not a || b) ≡ true
behind a b f = grind arith

-- What is not other than wanted is as wanted, and the other way round.
met_by : (b w : Bool) → cond b (not w) w ≡ false → beq w b ≡ true
met_by b w e = grind arith

agrees : (b : Bool) → cond b (not b) b ≡ false
agrees b = grind arith

module _ {bs : List ℕ} {n : ℕ} {rows : List ℕ} {w s : List (List ℕ)} {heads posts times : List ℕ} {known : Declared}
    (net : NetOf bs n rows w s heads posts times known) where
  abbrev tb : Table
  tb = table bs

  sound : SoundTable tb
  sound = accepted_sound bs net.sound

  -- Record r is condition k of transition t.
  abbrev Looks : ℕ → ℕ → ℕ → Type 0
  Looks t k r = (r < tb.records) × (tb.kind r ≡ 4) × (tb.one r ≡ t) × (tb.two r ≡ k)

  module _ (t k : ℕ) (ht : t < 64) (hk : k < 64) where
    -- The row of conditions has those of t, and the next row those wanted true.
    looked_record : bit (looks rows t) k ≡ true → (r : ℕ) × Looks t k r
    unfolding kept_in
    looked_record e =
        let w =
        some_elim tb.records (λ r. kept_in tb 4 r && joins tb t k r)
        (sym (net.filed.rowed.holds 4 t k (omega arith) (omega (arith, ht)) hk) ∙ e) in
        let j = joins_test tb t k w.0 (and_right (kept_in tb 4 w.0) _ w.2) in
        (w.0, (w.1, eqb-true (tb.kind w.0) 4 (and_left (kept_in tb 4 w.0) _ w.2), j.0, j.1))

    record_looked : (r : ℕ) → Looks t k r → bit (looks rows t) k ≡ true
    unfolding kept_in
    record_looked r n =
        net.filed.rowed.holds 4 t k (omega arith) (omega (arith, ht)) hk
        ∙ some_intro tb.records (λ r. kept_in tb 4 r && joins tb t k r) r n.0
        (and_true (eq-eqb _ _ n.1) (and_true (eq-eqb _ _ n.2) (eq-eqb _ _ n.3)))

    true_record : bit (wanted_true rows t) k ≡ true → (r : ℕ) × Looks t k r × (tb.sort r ≡ 0)
    unfolding kept_in
    true_record e =
        let w =
        some_elim tb.records (λ r. kept_in tb 5 r && joins tb t k r)
        (sym (net.filed.rowed.holds 5 t k (omega arith) (omega (arith, ht)) hk) ∙ e) in
        let kept = and_left (kept_in tb 5 w.0) (joins tb t k w.0) w.2 in
        let j = joins_test tb t k w.0 (and_right (kept_in tb 5 w.0) _ w.2) in (
          w.0,
          (w.1, eqb-true (tb.kind w.0) 4 (and_left (is tb 4 w.0) _ kept), j.0, j.1),
          eqb-true (tb.sort w.0) 0 (and_right (is tb 4 w.0) _ kept),
        )

    record_true : (r : ℕ) → Looks t k r → tb.sort r ≡ 0 → bit (wanted_true rows t) k ≡ true
    unfolding kept_in
    record_true r n z =
        net.filed.rowed.holds 5 t k (omega arith) (omega (arith, ht)) hk
        ∙ some_intro tb.records (λ r. kept_in tb 5 r && joins tb t k r) r n.0
        (and_true (and_true (eq-eqb _ _ n.1) (eq-eqb _ _ z)) (and_true (eq-eqb _ _ n.2) (eq-eqb _ _ n.3)))

    -- What is wanted true is looked at.
    wanted_looked : bit (wanted_true rows t) k ≡ true → bit (looks rows t) k ≡ true
    wanted_looked e = let w = true_record e in record_looked w.0 w.1

  -- Two records of one condition of one transition are one.
  once : (t k r q : ℕ) → Looks t k r → Looks t k q → r ≡ q
  once t k r q a b =
      same_record tb sound r q a.0 b.0 (Same.condition a.1 b.1 (a.2 ∙ sym b.2) (a.3 ∙ sym b.3))
      (Same.condition b.1 a.1 (b.2 ∙ sym a.2) (b.3 ∙ sym a.3))

  module _ (t : ℕ) (h : t < 64) where
    -- A condition of t is looked at, and it is wanted true exactly if its sort is 0.
    module _ (r : ℕ) (m : r < tb.records) (k : tb.kind r ≡ 4) (o : tb.one r ≡ t) where
      low : tb.two r < 64
      low = two_low (sound.shown r m)

      own : Looks t (tb.two r) r
      own = (m, k, o, refl)

      looked : bit (looks rows t) (tb.two r) ≡ true
      looked = record_looked t (tb.two r) h low r own

      wanted_bit : bit (wanted_true rows t) (tb.two r) ≡ eqb (tb.sort r) 0
      wanted_bit =
          same_test _ _
          (λ e.
          let w = true_record t (tb.two r) h low e in
          eq-eqb (tb.sort r) 0 (ap tb.sort (once t (tb.two r) r w.0 own w.1) ∙ w.2))
          (λ e. record_true t (tb.two r) h low r own (eqb-true (tb.sort r) 0 e))

    -- Conditions are as the two rows ask exactly if they are as wanted.
    asked_is : (word : ℕ) → as_asked (looks rows t) (wanted_true rows t) word ≡ as_wanted tb word t
    unfolding as_asked as_wanted
    asked_is word =
        same_test _ (as_wanted tb word t) forth (λ e. ap not (none_intro 64 amiss
        (λ k l. back e k l (bit (looks rows t) k) refl)))
      where
        amiss : ℕ → Bool
        amiss k = bit (looks rows t) k && cond (bit (wanted_true rows t) k) (not (bit word k)) (bit word k)

        forth : not (some 64 amiss) ≡ true → as_wanted tb word t ≡ true
        forth e =
            every_intro tb.records _
            (λ r m.
            behind (is tb 4 r && eqb (tb.one r) t) _
            (λ b. met r m (eqb-true _ _ (and_left (is tb 4 r) _ b)) (eqb-true _ _ (and_right (is tb 4 r) _ b))))
          where
            met : (r : ℕ) → r < tb.records → tb.kind r ≡ 4 → tb.one r ≡ t
                → beq (bit word (tb.two r)) (eqb (tb.sort r) 0) ≡ true
            met r m k o =
                met_by (eqb (tb.sort r) 0) (bit word (tb.two r))
                (sym (rw (looked r m k o, wanted_bit r m k o))
                ∙ none_elim 64 amiss (not-true _ e) (tb.two r) (low r m k o))

        back : as_wanted tb word t ≡ true → (k : ℕ) → k < 64 → (b : Bool) → bit (looks rows t) k ≡ b
            → (b && cond (bit (wanted_true rows t) k) (not (bit word k)) (bit word k)) ≡ false
        back e k l false z = refl
        back e k l true z =
            let w = looked_record t k h l z in
            let r : ℕ = w.0 in
            let n : Looks t k r = w.1 in
            rw (
              ← n.3,
              wanted_bit r n.0 n.1 n.2,
              condition_met tb word t e r n.0 (eq-eqb _ _ n.1) n.2,
            ) (agrees (eqb (tb.sort r) 0))

module _ {bs : List ℕ} {net : Net} (laid : Laid bs net) where
  -- A number that is not there has no conditions.
  pub firable_asks : FirableAsks net.conditional net.rows.now
  firable_asks =
      record {
        conditional_is = laid.conditional_is;
        looked_at = λ t k h l. wanted_looked laid.net_of t k h l;
        rows_there = λ t h e. omega (arith, laid.conditional_low t h e, laid.sizes.rows_are);
      }

  module _ (tokens counters : List ℕ) (orders on : ℕ)
      (on_is : (t : ℕ) → t < 64 → bit on t ≡ (transition (table bs) t && enabled (table bs) (λ p. get_or tokens p 0) t))
      {counters' : List ℕ}
      (raises : Raises net.timed orders on net.times.now counters counters') where
    -- The counters after the falling edge.
    pub counts_are : (t : ℕ) → t < 64 → get_or counters' t 0 ≡ counted (table bs) (held tokens counters orders) t
    counts_are t l =
        raises.holds t l
        ∙ count_is (sound laid.net_of) t laid.net_of.filed.timed l (held tokens counters orders) orders on
        net.timed (get_or counters t 0) refl refl
        (laid.timed_is t l) (on_is t l)

    pub counts_low : ((t : ℕ) → t < 64 → get_or counters t 0 ≤ 65535) → (t : ℕ) → t < 64 → get_or counters' t 0 ≤ 65535
    counts_low small t l =
        rw (raises.holds t l)
        (count_low (sound laid.net_of) t laid.net_of.filed.timed l orders on net.timed (get_or counters t 0)
        (small t l))

    -- The firable at the rising edge.
    pub able_are : ((t : ℕ) → t < 64 → get_or counters t 0 ≤ 65535) → (ready able word : ℕ)
        → Ready net.timed on net.times.now counters' ready
        → Able on net.timed ready net.rows.now word able → (t : ℕ) → t < 64
        → bit able t ≡ firable (table bs) (falling (table bs) (held tokens counters orders)) word t
    unfolding firable falling
    able_are small ready able word ready_is able_is t l =
        able_is t
        ∙ rw (
          lt-ltb t 64 l,
          ready_is t,
          on_is t l,
          laid.timed_is t l,
          limit_timed (sound laid.net_of) t laid.net_of.filed.timed l,
          asked_is laid.net_of t l word,
          ← counts_are t l,
          ← in_time_is (sound laid.net_of) t laid.net_of.filed.timed l (get_or counters' t 0)
              (counts_low small t l),
        )
        (order (transition (table bs) t) (enabled (table bs) (λ p. get_or tokens p 0) t) (eqb (timing (table bs) t) 0) _
        (as_wanted (table bs) word t))
      where
        order : (a b z i c : Bool) → ((((a && b) && not (not z)) || ((not z && (a && b)) && i)) && c)
            ≡ (a && ((b && c) && (z || i)))
        order a b z i c = grind arith
