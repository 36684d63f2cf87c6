-- A count for the day: what the three calls promise, carried to what their callers want to know. Each theorem speaks of
-- the promises that the calls' `ensures` give.
use mathlib.Core.List.{List, ◌++◌}
use mathlib.Core.Logic.{◌↔◌, ◌⊎◌}
use mathlib.Core.Path.{◌≡◌, refl, sym, ap, ap₂, ◌∙◌}
use Prim.Native.Nat.{ℕ, ◌+◌, ◌*◌, ◌/◌, ◌≤◌, ◌<◌}
use native.Mathlib.Omega.{arith}
use lib.IntN.{ℤ, pos, ◌+ℤ◌, ◌-ℤ◌}
use lib.ListN.{length, get_or, take}
use Rattle.meaning.specs.Table.{table}
use Rattle.meaning.specs.Answer.{Answer, accepted, refused}
use Rattle.meaning.specs.Defined.{check}
use Rattle.meaning.specs.Says.{First}
use Rattle.meaning.specs.Orders.{Order}
use Rattle.meaning.specs.History.{tokens_in}
use Rattle.meaning.specs.Promise.{Ran}
use Rattle.meaning.proofs.Accepted.{accepted_well}
use Rattle.meaning.proofs.Answers.{check_accepts}
use Rattle.meaning.proofs.Run.{verdict}
use Rattle.meaning.proofs.Demands.{went}
use Rattle.summary.specs.Day.{empty, no_change, cycles_of, times_of, summary, plus, Summed, change}
use Rattle.summary.specs.Day.{count, add, net_change}
use Rattle.summary.specs.Spoken.{CountSays, AddSays, ChangeSays, TooOften, FiredIn, Times, Net, CycleFires}
use Rattle.summary.specs.Promised.{Counted, Added, NetChanged, Total}
use Rattle.summary.proofs.Listed.{get_or_listed}
use Rattle.summary.proofs.Refusals.{count_answer, count_refuses, count_accepts, add_refuses, add_accepts}
use Rattle.summary.proofs.Refusals.{add_answer, change_refuses, change_accepts, accepted_right}
use Rattle.summary.proofs.Reading.{times_is, change_is}
use Rattle.summary.proofs.Adding.{given, withheld, Addable, adds, added, plus_at, plus_fair, add_commutes}
use Rattle.summary.proofs.Adding.{add_groups, any_order, total_once, empty_first, empty_last}
use Rattle.summary.proofs.Moving.{change_plus, given_change, withheld_change}
use Rattle.summary.proofs.Reports.{summary_cycles, summary_times, summary_fair, summary_joined, none_joined}
use Rattle.summary.proofs.Runs as runs

-- The number of an answer.
abbrev number_of : Answer → ℕ
number_of a = a.number

-- COUNT

module _ (bs report : List ℕ) (a : Answer) (counts : List ℕ) (promised : Counted bs report a counts) where
  -- A report is refused exactly by the first number that is said of it, and accepted exactly if none is.
  pub count_is_refused : (n w : ℕ) → 0 < n → (a ≡ refused n w) ↔ First (CountSays bs report) n w
  count_is_refused n w l = rw promised.answer_is (count_refuses bs report n w l)

  pub count_is_accepted : (a ≡ accepted 0) ↔ ((n w : ℕ) → ¬ CountSays bs report n w)
  count_is_accepted = rw promised.answer_is (count_accepts bs report)

  -- Refused, all numbers are 0.
  pub refused_count_is_empty : (a.number ≡ 0 → ⊥) → counts ≡ empty
  unfolding count
  refused_count_is_empty n =
      promised.counts_are
      ∙ withheld _ (summary report) (λ z. n (ap number_of (promised.answer_is ∙ count_answer bs report) ∙ z))

  pub counts_are_the_summary : a.number ≡ 0 → counts ≡ summary report
  unfolding count
  counts_are_the_summary z =
      promised.counts_are
      ∙ given _ (summary report) (sym (ap number_of (promised.answer_is ∙ count_answer bs report)) ∙ z)

  -- Accepted, the cycles are the records, and count k is the number of records whose fired set has transition k.
  pub counts_the_records : a.number ≡ 0
      → (cycles_of counts ≡ length report / 24)
      × ((k : ℕ) → k < 64 → Times (FiredIn report k) (length report / 24) (times_of counts k))
  counts_the_records z =
      rw (counts_are_the_summary z)
      (summary_cycles report, λ k l. (times_is report (length report / 24) k _).0 (sym (summary_times report k l)))

-- ADD

module _ (one other : List ℕ) (a : Answer) (counts : List ℕ) (promised : Added one other a counts) where
  pub add_is_refused : (n w : ℕ) → 0 < n → (a ≡ refused n w) ↔ First (AddSays one other) n w
  add_is_refused n w l = rw promised.answer_is (add_refuses one other n w l)

  pub add_is_accepted : (a ≡ accepted 0) ↔ ((n w : ℕ) → ¬ AddSays one other n w)
  add_is_accepted = rw promised.answer_is (add_accepts one other)

  pub refused_sum_is_empty : (a.number ≡ 0 → ⊥) → counts ≡ empty
  unfolding add
  refused_sum_is_empty n =
      promised.counts_are
      ∙ withheld _ (plus one other) (λ z. n (ap number_of (promised.answer_is ∙ add_answer one other) ∙ z))

  -- Accepted, each number is the sum of the two.
  pub adds_each_number : a.number ≡ 0 → (i : ℕ) → i < 65 → get_or counts i 0 ≡ get_or one i 0 + get_or other i 0
  unfolding add
  adds_each_number z i l =
      rw (promised.counts_are
      ∙ given _ (plus one other) (sym (ap number_of (promised.answer_is ∙ add_answer one other)) ∙ z))
      (plus_at one other i l)

  -- The other way round: the same answer and the same numbers, refused too.
  pub add_is_commutative : Added other one a counts
  add_is_commutative =
      let same = add_commutes one other in
      record {
        answer_is = promised.answer_is ∙ ap (λ (o : Summed). o.answer) same;
        counts_are = promised.counts_are ∙ ap (λ (o : Summed). o.counts) same;
      }

-- For any list of summaries and any order of it: if one order's total is accepted every order's is, and they are the
-- same. (`Total s xs end`: adding the summaries of xs to s, one by one, is accepted and comes to `end`.)
pub adding_in_any_order : {s end : List ℕ} {xs ys : List (List ℕ)} → Order xs ys → Total s xs end → Total s ys end
adding_in_any_order = any_order

pub one_total : {s end end' : List ℕ} {xs : List (List ℕ)} → Total s xs end → Total s xs end' → end ≡ end'
one_total = total_once

-- Of three, where the one grouping is accepted the other is, with the same sum.
pub adding_in_groups : (x y z xy s : List ℕ) → Added x y (accepted 0) xy → Added xy z (accepted 0) s
    → (yz : List ℕ) × Added y z (accepted 0) yz × Added x yz (accepted 0) s
adding_in_groups x y z xy s a b =
    let (c, d) = add_groups x y z xy s a b in
    (plus y z, c, d)

-- The empty summary is neutral, on both sides, for every summary that can be added at all.
pub empty_is_neutral : (s : List ℕ) → length s ≡ 65 → cycles_of s ≤ 4294967295 → ¬ TooOften s
    → Added empty s (accepted 0) s × Added s empty (accepted 0) s
empty_is_neutral s long few fair = (empty_first s long few fair, empty_last s long few fair)

-- NET CHANGE

module _ (bs s : List ℕ) (a : Answer) (d : List ℤ) (promised : NetChanged bs s a d) where
  pub change_is_refused : (n w : ℕ) → 0 < n → (a ≡ refused n w) ↔ First (ChangeSays bs s) n w
  change_is_refused n w l = rw promised.answer_is (change_refuses bs s n w l)

  pub change_is_accepted : (a ≡ accepted 0) ↔ ((n w : ℕ) → ¬ ChangeSays bs s n w)
  change_is_accepted = rw promised.answer_is (change_accepts bs s)

  pub refused_change_is_none : (a.number ≡ 0 → ⊥) → d ≡ no_change
  refused_change_is_none n =
      promised.change_is ∙ withheld_change bs s (λ z. n (ap number_of promised.answer_is ∙ z))

  change_at : a.number ≡ 0 → (p : ℕ) → p < 128 → get_or d p (pos 0) ≡ change (table bs) s p
  change_at z p l =
      ap (λ (x : List ℤ). get_or x p (pos 0))
      (promised.change_is ∙ given_change bs s (sym (ap number_of promised.answer_is) ∙ z))
      ∙ get_or_listed (change (table bs) s) 128 p (pos 0) l

  -- Accepted, each place's number is what post arcs put there less what basic arcs take, each weight as often as its
  -- transition fired.
  pub change_is_net : a.number ≡ 0 → (p : ℕ) → p < 128 → Net (table bs) s p (get_or d p (pos 0))
  change_is_net z p l = (change_is (table bs) s p _).0 (sym (change_at z p l))

  -- The table of an accepted call is accepted.
  table_accepted : a ≡ accepted 0 → check bs ≡ accepted 0
  table_accepted e = (check_accepts bs).1 (λ n w h. change_is_accepted.0 e n w (ChangeSays.of_table h))

-- A fair summary has a net change by every accepted table.
changes_fairly : (bs s : List ℕ) → check bs ≡ accepted 0 → ((k : ℕ) → k < 64 → times_of s k ≤ cycles_of s)
    → (a : Answer) (d : List ℤ) → NetChanged bs s a d → a ≡ accepted 0
changes_fairly bs s ok fair a d promised = (change_is_accepted bs s a d promised).1 never
  where
    never : (n w : ℕ) → ChangeSays bs s n w → ⊥
    never n w (ChangeSays.of_table h) = (check_accepts bs).0 ok n w h
    never n w (ChangeSays.wrong (k, l, h)) = omega (arith, fair k l, h)

-- The net change of a sum is the sum of the net changes, at every place.
pub change_of_a_sum : (bs x y s : List ℕ) → Added x y (accepted 0) s
    → (a b c : Answer) (dx dy ds : List ℤ) → NetChanged bs x a dx → NetChanged bs y b dy → NetChanged bs s c ds
    → a ≡ accepted 0
    → (b ≡ accepted 0) × (c ≡ accepted 0)
    × ((p : ℕ) → p < 128 → get_or ds p (pos 0) ≡ get_or dx p (pos 0) +ℤ get_or dy p (pos 0))
change_of_a_sum bs x y s sum a b c dx dy ds px py ps e =
    let ok = table_accepted bs x a dx px e in
    let (can, is) = added x y s sum in
    let e' = changes_fairly bs y ok can.other b dy py in
    let e'' = changes_fairly bs s ok (rw is (plus_fair x y can.one can.other)) c ds ps in (
      e',
      e'',
      λ p l.
          change_at bs s c ds ps (ap number_of e'') p l
          ∙ ap (λ (z : List ℕ). change (table bs) z p) is
          ∙ change_plus (table bs) (accepted_well bs ok).arc_transition x y p
          ∙ sym (ap₂ (λ (u v : ℤ). u +ℤ v) (change_at bs x a dx px (ap number_of e) p l)
          (change_at bs y b dy py (ap number_of e') p l)),
    )

-- TWO REPORTS, one behind the other, both accepted and together of 512 records at most: their summary is the sum of
-- their summaries.
pub summary_of_two_reports : (bs one other : List ℕ) (a b c : Answer) (x y s : List ℕ)
    → Counted bs one a x → Counted bs other b y → Counted bs (one ++ other) c s
    → a ≡ accepted 0 → b ≡ accepted 0 → length one + length other ≤ 12288
    → (c ≡ accepted 0) × Added x y (accepted 0) s
summary_of_two_reports bs one other a b c x y s px py ps e f short =
    let none = (count_is_accepted bs one a x px).0 e in
    let none' = (count_is_accepted bs other b y py).0 f in
    let ok = (count_is_accepted bs (one ++ other) c s ps).1 (none_joined bs one other none none' short) in
    let right = accepted_right bs one none in
    let right' = accepted_right bs other none' in
    let can : Addable (summary one) (summary other) =
    record {
      one = summary_fair one;
      other = summary_fair other;
      few = omega (arith, summary_cycles one, summary_cycles other, right.1, right'.1);
    } in (
      ok,
      rw (
        counts_are_the_summary bs one a x px (ap number_of e),
        counts_are_the_summary bs other b y py (ap number_of f),
        counts_are_the_summary bs (one ++ other) c s ps (ap number_of ok),
        sym (summary_joined one other right.0 right'.0),
      )
          (adds (summary one) (summary other) can),
    )

-- THE REPORT OF A RUN

-- Of a run that ended with 0 or 13, the records of the finished cycles are counted.
module _ (bs img ws report : List ℕ) (a : Answer) (img' report' : List ℕ)
    (ran : Ran bs img ws report a img' report')
    (end : (a.number ≡ 0) ⊎ (a.number ≡ 13))
    (b : Answer) (counts : List ℕ)
    (promised : Counted bs (take (24 * a.cycles) report') b counts) where
  v : verdict bs img ws report ≡ accepted 0
  v = went bs img ws report (rw ran.answer_is at end)

  -- These records are those of the run of the meaning.
  these : take (24 * a.cycles) report' ≡ runs.kept bs img ws report v
  these =
      ap₂ (λ (n : ℕ) (x : List ℕ). take (24 * n) x) (ap (λ (x : Answer). x.cycles) ran.answer_is) ran.report_is

  counted : Counted bs (runs.kept bs img ws report v) b counts
  counted = rw these at promised

  -- Count accepts them, its cycles are the cycles done,
  pub run_is_counted : b ≡ accepted 0
  run_is_counted = counted.answer_is ∙ runs.counted bs img ws report v

  counts_kept : counts ≡ summary (runs.kept bs img ws report v)
  counts_kept = counts_are_the_summary bs _ b counts counted (ap number_of run_is_counted)

  pub counts_the_cycles_done : cycles_of counts ≡ a.cycles
  counts_the_cycles_done =
      ap cycles_of counts_kept ∙ summary_cycles _ ∙ runs.kept_cycles bs img ws report v
      ∙ ap (λ (x : Answer). x.cycles) (sym ran.answer_is)

  -- count k is the number of finished cycles whose fired set, by definition 6, has transition k,
  pub counts_what_fired : (k : ℕ) → k < 64 → Times (CycleFires bs img ws k) a.cycles (times_of counts k)
  counts_what_fired k l =
      rw (counts_kept, ap (λ (x : Answer). x.cycles) ran.answer_is) (runs.times_fired bs img ws report v k l)

  -- and at every place the net change is the end marking less the start marking, from the bytes of the images.
  pub change_is_end_less_start : (c : Answer) (d : List ℤ) → NetChanged bs counts c d
      → (c ≡ accepted 0)
      × ((p : ℕ) → p < 128 → get_or d p (pos 0) ≡ pos (tokens_in img' p) -ℤ pos (tokens_in img p))
  change_is_end_less_start c d net =
      let here = rw counts_kept at net in
      let e = here.answer_is ∙ runs.changed bs img ws report v in (
        e,
        λ p l.
            change_at bs _ c d here (ap number_of e) p l ∙ runs.change_ends bs img ws report v p l
            ∙ ap (λ (x : List ℕ). pos (tokens_in x p) -ℤ pos (tokens_in img p)) (sym ran.image_is),
      )

-- NO SECOND OUTCOME: two outcomes that a call's promise allows are equal, in every part; and there is one.

pub no_second_count : (bs report : List ℕ) (a b : Answer) (x y : List ℕ) → Counted bs report a x → Counted bs report b y
    → (a ≡ b) × (x ≡ y)
no_second_count bs report a b x y p q = (cc, cc)

pub no_second_add : (one other : List ℕ) (a b : Answer) (x y : List ℕ) → Added one other a x → Added one other b y
    → (a ≡ b) × (x ≡ y)
no_second_add one other a b x y p q = (cc, cc)

pub no_second_change : (bs s : List ℕ) (a b : Answer) (x y : List ℤ) → NetChanged bs s a x → NetChanged bs s b y
    → (a ≡ b) × (x ≡ y)
no_second_change bs s a b x y p q = (cc, cc)

pub some_count : (bs report : List ℕ) → Counted bs report (count bs report).answer (count bs report).counts
some_count bs report = record { answer_is = refl; counts_are = refl }

pub some_add : (one other : List ℕ) → Added one other (add one other).answer (add one other).counts
some_add one other = record { answer_is = refl; counts_are = refl }

pub some_change : (bs s : List ℕ) → NetChanged bs s (net_change bs s).answer (net_change bs s).change
some_change bs s = record { answer_is = refl; change_is = refl }
