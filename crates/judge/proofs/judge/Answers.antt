-- The stages one after the other: each answers where its search finds one, and hands on where it finds none.
use mathlib.Core.List.{List}
use mathlib.Core.Path.{◌≡◌, refl, ◌∙◌}
use Prim.Native.Nat.{ℕ}
use native.Mathlib.Omega.{arith}
use Rattle.std.proofs.lemmas.Result.{err_from_is_err_and}
use Rattle.meaning.specs.Below.{first}
use Rattle.meaning.specs.Bytes.{bit}
use Rattle.meaning.specs.Table.{table}
use Rattle.rows.specs.declared.Declared.{Declared}
use Rattle.rows.specs.Rows.{below}
use Rattle.named.specs.Named.{isolated_in}
use Rattle.named.proofs.Says.{quiet}
use Rattle.closure.specs.Closure.{Closes}
use Rattle.closure.proofs.Priority.{low_kept}
use Rattle.judge.specs.Judged.{unknown_first, none_of}
use Rattle.judge.proofs.Stages.{from_7, from_8, from_9, Left}
use Rattle.judge.proofs.Answers.{few_bytes, refusal, Faultless, whole, rows_there, sorts_there}
use Rattle.judge.proofs.Answers.{verdict_2, no_fault_asked, verdict_5, none_unknown, past_5}
use Rattle.judge.proofs.Answers.{verdict_6, past_6, verdict_7, past_7}
use Rattle.judge.proofs.Ranks.{low_pairs, verdict_8, past_8, takerless, least_asks}
use Rattle.judge.proofs.Ranks.{verdict_9, accepted_is, net_of}
use Rattle.judge.proofs.judge.Goals as goal

-- WHAT IS KNOWN BEHIND THE STAGES

module _ {bs : List ℕ} {n : ℕ} {known : Declared} {rows : List ℕ} {w s : List (List ℕ)} {heads posts times : List ℕ}
    (fine : Faultless bs n known rows w s heads posts times)
    (none_5 : unknown_first (table bs) rows known n ≡ (table bs).records) where
  left_7 : first 2 (none_of known) ≡ 2 → Left bs (from_7 bs)
  left_7 none_6 = past_6 fine (past_5 fine none_5) none_6

  module _ (none_6 : first 2 (none_of known) ≡ 2) (none_7 : first 192 (isolated_in rows known) ≡ 192) where
    left_8 : Left bs (from_8 bs)
    left_8 = past_7 fine (left_7 none_6) none_7

    left_9 : {rows' : List ℕ} → Closes rows rows' → first 64 (λ t. bit (below rows' t) t) ≡ 64 → Left bs (from_9 bs)
    left_9 closes none_8 = past_8 fine closes left_8 none_8

-- THE WAYS OUT

pub returns-in_err-known : goal.returns-in_err-known
returns-in_err-known c =
    let gone = err_from_is_err_and c.from_residual.result c.from_residual.ensures.1 in
    rw (gone.1, gone.2) (refusal (verdict_2 _ c.requires.right_length c.in_err-known.ensures))

pub returns-in-Some : goal.returns-in-Some
returns-in-Some c =
    let fine = no_fault_asked _ c.requires.right_length c.requires.judge_asks c.in_ok-known.ensures in
    refusal (verdict_5 fine c.in-Some.ensures)

pub returns-in-Some-first_none : goal.returns-in-Some-first_none
returns-in-Some-first_none c =
    let fine = no_fault_asked _ c.requires.right_length c.requires.judge_asks c.in_ok-known.ensures in
    let found = c.in-Some-first_none.ensures in
    refusal (found.1 ∙ verdict_6 fine (past_5 fine c.in_default.ensures) found.0)

pub returns-in-Some-first_isolated : goal.returns-in-Some-first_isolated
returns-in-Some-first_isolated c =
    let fine = no_fault_asked _ c.requires.right_length c.requires.judge_asks c.in_ok-known.ensures in
    refusal
    (verdict_7 fine (left_7 fine c.in_default.ensures c.in_default-first_none.ensures)
    c.in-Some-first_isolated.ensures)

pub returns-in-Some-circle : goal.returns-in-Some-circle
returns-in-Some-circle c =
    let fine = no_fault_asked _ c.requires.right_length c.requires.judge_asks c.in_ok-known.ensures in
    refusal
    (verdict_8 fine c.close.ensures
    (left_8 fine c.in_default.ensures c.in_default-first_none.ensures c.in_default-first_isolated.ensures)
    c.in-Some-circle.ensures)

pub returns-in-Some-least : goal.returns-in-Some-least
returns-in-Some-least c =
    let fine = no_fault_asked _ c.requires.right_length c.requires.judge_asks c.in_ok-known.ensures in
    let left =
    left_9 fine c.in_default.ensures c.in_default-first_none.ensures c.in_default-first_isolated.ensures
    c.close.ensures c.in_default-circle.ensures in
    let pair = c.in-Some-least.pair in
    refusal
    (verdict_9 fine c.close.ensures (none_unknown fine c.in_default.ensures) left c.conflicts.ensures
    (omega (arith, pair.low.0, pair.low.1)) c.in-Some-least.ensures)

pub returns : goal.returns
returns c =
    let fine = no_fault_asked _ c.requires.right_length c.requires.judge_asks c.in_ok-known.ensures in
    let declared = none_unknown fine c.in_default.ensures in
    let left =
    left_9 fine c.in_default.ensures c.in_default-first_none.ensures c.in_default-first_isolated.ensures
    c.close.ensures c.in_default-circle.ensures in
    let none = c.in_default-least.ensures in
    record {
      answer = accepted_is fine c.close.ensures declared left c.conflicts.ensures none;
      net_of = net_of fine c.close.ensures declared left c.conflicts.ensures none;
      lengths = c.in_ok-known.ensures.lengths;
    }

-- THE CALLS

pub scan-requires-clause-t_len_bound : goal.scan-requires-clause-t_len_bound
scan-requires-clause-t_len_bound c = few_bytes _ c.requires.right_length

pub first_isolated-requires : goal.first_isolated-requires
first_isolated-requires c =
    let fine = no_fault_asked _ c.requires.right_length c.requires.judge_asks c.in_ok-known.ensures in
    (quiet (whole fine), omega (arith, rows_there c.requires.judge_asks, c.scan.auto.rows))

pub close-requires : goal.close-requires
close-requires c =
    let fine = no_fault_asked _ c.requires.right_length c.requires.judge_asks c.in_ok-known.ensures in
    low_pairs fine (none_unknown fine c.in_default.ensures) c.transitions-m.ensures
    (omega (arith, rows_there c.requires.judge_asks, c.scan.auto.rows))

pub circle-requires : goal.circle-requires
circle-requires c =
    let fine = no_fault_asked _ c.requires.right_length c.requires.judge_asks c.in_ok-known.ensures in
    low_kept
    (low_pairs fine (none_unknown fine c.in_default.ensures) c.transitions-m.ensures
    (omega (arith, rows_there c.requires.judge_asks, c.scan.auto.rows)))
    c.close.ensures

pub conflicts-requires : goal.conflicts-requires
conflicts-requires c =
    let fine = no_fault_asked _ c.requires.right_length c.requires.judge_asks c.in_ok-known.ensures in (
      takerless fine c.close.ensures (none_unknown fine c.in_default.ensures)
          (rw c.close.ensures.size (omega (arith, rows_there c.requires.judge_asks, c.scan.auto.rows))),
      refl,
    )

pub least-requires : goal.least-requires
least-requires c =
    let asks = c.requires.judge_asks in
    let fine = no_fault_asked _ c.requires.right_length asks c.in_ok-known.ensures in
    least_asks fine c.close.ensures (none_unknown fine c.in_default.ensures) c.conflicts.ensures
    (rw c.close.ensures.size (omega (arith, rows_there asks, c.scan.auto.rows)))
    (omega (arith, asks.enough, c.scan.auto.w)) (omega (arith, sorts_there asks, c.scan.auto.s))
