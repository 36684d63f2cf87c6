-- One cycle, whole: what `cycle` comes to is a turn by the rules and the only one, place 13 is the rules' own, and
-- the 24 bytes of a cycle's record are read back to its three sets. Each part is its rule's law; definition 6 has one
-- set, so nothing else is a turn.
use mathlib.Core.Bool.{Bool, true}
use mathlib.Core.List.{List, ◌++◌, append_assoc}
use mathlib.Core.Logic.{◌↔◌}
use mathlib.Core.Path.{◌≡◌, refl, sym, ap, ◌∙◌, fun_ext}
use Prim.Native.Nat.{ℕ, ◌≤◌, ◌<◌}
use native.Mathlib.Omega.{arith}
use lib.ListN.{length, take, drop, length-append}
use lib.Seq.{take_at, drop_at, take_all}
use Rattle.meaning.specs.Below.{within}
use Rattle.meaning.specs.Bytes.{number, bytes, bit}
use Rattle.meaning.specs.Table.{Table, table, ceiling}
use Rattle.meaning.specs.Answer.{Answer, accepted}
use Rattle.meaning.specs.Defined.{check}
use Rattle.meaning.specs.Image.{State, state, image}
use Rattle.meaning.specs.Cycle.{active, falling, fired, executed, reset, rising, record_of, cycle}
use Rattle.meaning.specs.Says.{Shown}
use Rattle.meaning.specs.Steps.{Stays, Bursts}
use Rattle.meaning.specs.Finished.{fired_in, actions_in, functions_in}
use Rattle.meaning.specs.Rules.{Fires, Marked, Overfull, Full, Turn}
use Rattle.meaning.proofs.Bool.{same_test}
use Rattle.meaning.proofs.Reflect.{refuted}
use Rattle.meaning.proofs.Bits.{set_back}
use Rattle.meaning.proofs.Same.{of_kind}
use Rattle.meaning.proofs.Sound.{SoundTable, check_sound}
use Rattle.meaning.proofs.Falling.{active_is, counter_is}
use Rattle.meaning.proofs.Rising.{rule_is, marked_is, reset_is, executed_is}
use Rattle.meaning.proofs.Accepted.{accepted_well}
use Rattle.meaning.proofs.Fired.{rounds_out, fired_meets, fired_only}
use Rattle.meaning.proofs.Demand3.{start_pays}
use Rattle.meaning.proofs.Run.{bytes_length}

-- Two tests that decide the same are the same.
decide_same : {a b : Bool} {A : Type 0} → (a ≡ true) ↔ A → (b ≡ true) ↔ A → a ≡ b
decide_same {a} {b} d e = same_test a b (λ p. e.1 (d.0 p)) (λ p. d.1 (e.0 p))

-- The sets of a cycle, and the marking and state it starts from.
abbrev pub start_of : List ℕ → State
start_of img = state (image img)

abbrev pub fires : Table → List ℕ → ℕ → ℕ → Bool
fires tb img word = within (cycle tb img word).fired

module _ (bs : List ℕ) (ok : check bs ≡ accepted 0) where
  sound : SoundTable (table bs)
  sound = check_sound bs (ap (λ (a : Answer). a.number) ok)

  module _ (img : List ℕ) (word : ℕ) where
    -- DEFINITION 6, of the cycle: the fired set is the set whose members are those that fire by the rule.
    pub fired_is : (t : ℕ)
        → (fires (table bs) img word t ≡ true)
        ↔ Fires (table bs) (start_of img).tokens (cycle (table bs) img word).after.counter word (fires (table bs) img word) t
    unfolding cycle falling rising
    fired_is t =
        let s = falling (table bs) (start_of img) in
        let F = within (fired (table bs) s word) in
        rw (fired_meets (table bs) (accepted_well bs ok) s word t) (rule_is (table bs) sound s word F t)

    pub fired_alone : (F : ℕ → Bool)
        → ((t : ℕ)
        → (F t ≡ true) ↔ Fires (table bs) (start_of img).tokens (cycle (table bs) img word).after.counter word F t)
        → (t : ℕ) → F t ≡ fires (table bs) img word t
    unfolding cycle falling rising
    fired_alone F meets =
        let s = falling (table bs) (start_of img) in
        fired_only (table bs) (accepted_well bs ok) s word F (λ t. decide_same (meets t) (rule_is (table bs) sound s word F t))

    -- RULE 7, of the cycle: M pays for what is withdrawn, and each place ends with M less it and plus what is put.
    pub marking_is : (p x : ℕ)
        → ((cycle (table bs) img word).after.tokens p ≡ x) ↔ Marked (table bs) (start_of img).tokens
        (fires (table bs) img word) p x
    unfolding cycle falling rising
    marking_is p =
        let s = falling (table bs) (start_of img) in
        let F = within (fired (table bs) s word) in
        marked_is (table bs) sound s.tokens F p (start_pays (table bs) (accepted_well bs ok) s word p)

    -- ALL OF IT: the cycle is a turn,
    pub cycle_turns : Turn (table bs) (start_of img) word (fires (table bs) img word)
        (active (table bs) (start_of img).tokens)
        (executed (table bs) (fires (table bs) img word)) (cycle (table bs) img word).after
    unfolding cycle falling rising
    cycle_turns =
        record {
          actions = active_is (table bs) sound (start_of img).tokens;
          counters = λ t. (counter_is (table bs) sound (start_of img) t _).0 refl;
          fired = fired_is;
          marking = λ p. (marking_is p _).0 refl;
          orders = reset_is (table bs) sound (start_of img).tokens (fires (table bs) img word);
          functions = executed_is (table bs) sound (fires (table bs) img word);
        }

    -- and nothing else is one.
    pub cycle_only : (F A X : ℕ → Bool) (after : State) → Turn (table bs) (start_of img) word F A X after
        → ((t : ℕ) → F t ≡ fires (table bs) img word t)
        × ((k : ℕ) → A k ≡ active (table bs) (start_of img).tokens k)
        × ((k : ℕ) → X k ≡ executed (table bs) (fires (table bs) img word) k)
        × ((p : ℕ) → after.tokens p ≡ (cycle (table bs) img word).after.tokens p)
        × ((t : ℕ) → after.counter t ≡ (cycle (table bs) img word).after.counter t)
        × ((t : ℕ) → after.order t ≡ (cycle (table bs) img word).after.order t)
    unfolding cycle falling rising
    cycle_only F A X after turn = (
      same_fired,
      λ k. decide_same (turn.actions k) (active_is (table bs) sound (start_of img).tokens k),
      λ k. decide_same (turn.functions k) (same_set (λ G. executed (table bs) G k) (executed_is (table bs) sound F k)),
      λ p. sym ((marking_is p (after.tokens p)).1 (rw (fun_ext same_fired) at (turn.marking p))),
      same_counter,
      λ t. decide_same (turn.orders t) (same_set (λ G. reset (table bs) (start_of img).tokens G t) (reset_is (table bs) sound (start_of img).tokens F t)),
    )
      where
        s : State
        s = falling (table bs) (start_of img)

        same_counter : (t : ℕ) → after.counter t ≡ s.counter t
        same_counter t = sym ((counter_is (table bs) sound (start_of img) t (after.counter t)).1 (turn.counters t))

        same_fired : (t : ℕ) → F t ≡ within (fired (table bs) s word) t
        same_fired = fired_alone F (λ t. rw (fun_ext same_counter) at (turn.fired t))

        same_set : (test : (ℕ → Bool) → Bool) {A : Type 0} → (test F ≡ true) ↔ A
            → (test (within (fired (table bs) s word)) ≡ true) ↔ A
        same_set test d = rw (sym (ap test (fun_ext same_fired))) d

    -- 13: the cycle is refused at p exactly if p is the lowest place that would end it above 65,535, and done exactly
    -- if no place would.
    over_is : (p : ℕ)
        → (65535 < (cycle (table bs) img word).after.tokens p) ↔ Overfull (table bs) (start_of img).tokens
        (fires (table bs) img word) p
    over_is p = (
      λ l. ((cycle (table bs) img word).after.tokens p, (marking_is p _).0 refl, l),
      λ (x, h, l). omega (arith, (marking_is p x).1 h),
    )

    pub full_is : (p : ℕ)
        → Bursts (table bs) img word p ↔ Full (table bs) (start_of img).tokens (fires (table bs) img word) p
    unfolding ceiling
    full_is p = (
      λ (l, o, low). (l, (over_is p).0 o, λ q h over. omega (arith, (over_is q).1 over, low q h)),
      λ (l, o, low). (l, (over_is p).1 o, λ q h. below q (λ over. low q h ((over_is q).0 over))),
    )
      where
        below : (q : ℕ) → ¬ (65535 < (cycle (table bs) img word).after.tokens q)
            → (cycle (table bs) img word).after.tokens q ≤ 65535
        below q n = omega arith

    pub stays_is : Stays (table bs) img word
        ↔ ((p : ℕ) → p < 128 → ¬ Overfull (table bs) (start_of img).tokens (fires (table bs) img word) p)
    unfolding ceiling
    stays_is = (
      λ stays p l over. omega (arith, (over_is p).1 over, stays p l),
      λ none p l. below p (λ over. none p l ((over_is p).0 over)),
    )
      where
        below : (q : ℕ) → ¬ (65535 < (cycle (table bs) img word).after.tokens q)
            → (cycle (table bs) img word).after.tokens q ≤ 65535
        below q n = omega arith

-- Three numbers, spelt in eight bytes each, are found again one behind the other.
module _ (x y z : ℕ) where
  abbrev three : List ℕ
  three = bytes 8 x ++ bytes 8 y ++ bytes 8 z

  first_set : take 8 three ≡ bytes 8 x
  first_set = rw (append_assoc (bytes 8 x) (bytes 8 y) (bytes 8 z)) (take_at (bytes 8 x) (bytes 8 y ++ bytes 8 z) 8 (bytes_length 8 x))

  second_set : take 8 (drop 8 three) ≡ bytes 8 y
  second_set =
      rw (append_assoc (bytes 8 x) (bytes 8 y) (bytes 8 z), drop_at (bytes 8 x) (bytes 8 y ++ bytes 8 z) 8 (bytes_length 8 x))
      (take_at (bytes 8 y) (bytes 8 z) 8 (bytes_length 8 y))

  third_set : take 8 (drop 16 three) ≡ bytes 8 z
  third_set =
      let sixteen : length (bytes 8 x ++ bytes 8 y) ≡ 16 =
      length-append (bytes 8 x) (bytes 8 y) ∙ omega (arith, bytes_length 8 x, bytes_length 8 y) in
      rw (drop_at (bytes 8 x ++ bytes 8 y) (bytes 8 z) 16 sixteen) (take_all 8 (bytes 8 z) (omega (arith, bytes_length 8 z)))

-- Actions and functions of a record that the page shows are below 64.
shown_action : {o t s f x : ℕ} → Shown 6 o t s f x → t ≤ 63
shown_action (Shown.action a b) = b

shown_function : {o t s f x : ℕ} → Shown 7 o t s f x → t ≤ 63
shown_function (Shown.function a b) = b

-- THE RECORD READ BACK: bit k of its first eight bytes is set exactly if transition k fired, of the next eight if
-- action k is active, of the last eight if function k is executed.
module _ (bs : List ℕ) (ok : check bs ≡ accepted 0) (img : List ℕ) (word : ℕ) where
  pub fired_read : (k : ℕ) → bit (fired_in (cycle (table bs) img word).written) k ≡ fires (table bs) img word k
  unfolding cycle record_of fired
  fired_read k =
      ap (λ (l : List ℕ). bit (number l) k) (first_set _ _ _)
      ∙ set_back (fires (table bs) img word) (rounds_out (table bs) _ _ 64) k

  pub actions_read : (k : ℕ)
      → bit (actions_in (cycle (table bs) img word).written) k ≡ active (table bs) (start_of img).tokens k
  unfolding cycle record_of falling
  actions_read k =
      ap (λ (l : List ℕ). bit (number l) k) (second_set _ _ _)
      ∙ set_back (active (table bs) (start_of img).tokens)
      (λ j h.
      refuted (active_is (table bs) (sound bs ok) (start_of img).tokens j)
      (λ (r, l, e, o, m). omega (arith, shown_action (of_kind (table bs) r 6 ((sound bs ok).shown r l) e))))
      k

  pub functions_read : (k : ℕ)
      → bit (functions_in (cycle (table bs) img word).written) k ≡ executed (table bs) (fires (table bs) img word) k
  unfolding cycle record_of
  functions_read k =
      ap (λ (l : List ℕ). bit (number l) k) (third_set _ _ _)
      ∙ set_back (executed (table bs) (fires (table bs) img word))
      (λ j h.
      refuted (executed_is (table bs) (sound bs ok) (fires (table bs) img word) j)
      (λ (r, l, e, o, m). omega (arith, shown_function (of_kind (table bs) r 7 ((sound bs ok).shown r l) e))))
      k

  -- So the record's own sets make the turn.
  pub record_turns : Turn (table bs) (start_of img) word (bit (fired_in (cycle (table bs) img word).written))
      (bit (actions_in (cycle (table bs) img word).written))
      (bit (functions_in (cycle (table bs) img word).written))
      (cycle (table bs) img word).after
  record_turns = rw (fun_ext fired_read, fun_ext actions_read, fun_ext functions_read) (cycle_turns bs ok img word)
