-- Answers 8 and 9 by the closed rows; and where neither is given the rows hold the net of an accepted table.
use mathlib.Core.Bool.{false}
use mathlib.Core.List.{List, []}
use mathlib.Core.Path.{◌≡◌, refl, sym, ap, ◌∙◌}
use Prim.Native.Nat.{ℕ, ◌*◌, ◌≤◌, ◌<◌}
use native.Mathlib.Omega.{arith}
use lib.ListN.{length}
use Rattle.meaning.specs.Below.{first}
use Rattle.meaning.specs.Bytes.{bit}
use Rattle.meaning.specs.Table.{table}
use Rattle.meaning.specs.Answer.{accepted, refused}
use Rattle.meaning.specs.Defined.{twice, unknown, in_unsettled, same, check}
use Rattle.meaning.proofs.Below.{none_elim, first_none}
use Rattle.meaning.proofs.Same.{of_kind, shown_priority}
use Rattle.meaning.proofs.Faults.{faultless}
use Rattle.rows.specs.declared.Declared.{Declared}
use Rattle.rows.specs.Rows.{below, transitions_below}
use Rattle.rows.specs.Filed.{Closed, Filed, NetOf}
use Rattle.closure.specs.Closure.{LowPairs, Closes}
use Rattle.closure.proofs.Priority.{LowNumbers, low_from, closed_is, filed_kept, circle_same}
use Rattle.conflict.specs.Pairs.{TakerlessFrom, Conflicts}
use Rattle.conflict.specs.Settled.{unsettled_by, LeastAsks}
use Rattle.conflict.proofs.Whole as conflict
use Rattle.conflict.proofs.Say.{least_pair, no_pair}
use Rattle.judge.proofs.Stages.{from_8, from_9, Left, stops, passes, accepts}
use Rattle.judge.proofs.Answers.{Faultless, whole}

module _ {bs : List ℕ} {n : ℕ} {known : Declared} {rows : List ℕ} {w s : List (List ℕ)} {heads posts times : List ℕ}
    (f : Faultless bs n known rows w s heads posts times) where
  -- Only transitions below n stand above or below another: no record names an unknown.
  pub low_pairs : ((r : ℕ) → r < (table bs).records → unknown (table bs) r ≡ false) → {m : ℕ} → m ≡ transitions_below n
      → 8 * n ≤ length rows → LowPairs m rows
  low_pairs declared e size = rw e (low_from f.paired n size f.below declared)

  priorities : LowNumbers (table bs)
  priorities r h k =
      let range = shown_priority (of_kind (table bs) r 5 ((whole f).shown r h) k) in
      (omega (arith, range.0), omega (arith, range.1))

  single : (q r : ℕ) → q < r → r < (table bs).records → same (table bs) r q ≡ false
  unfolding twice
  single q r l h = none_elim r (same (table bs) r) (faultless (table bs) r (f.fine r h)).1 q l

  module _ {rows' : List ℕ} (closes : Closes rows rows') where
    closed : Closed (table bs) rows'
    closed = closed_is f.paired priorities closes

    filed : Filed (table bs) (table bs).records rows' w s heads posts times known
    filed = filed_kept f.filed closes

    -- Answer 8: the first transition above itself by the closed rows.
    module _ (left : Left bs (from_8 bs)) where
      pub verdict_8 : {k : ℕ} → (k < 64) × (first 64 (λ t. bit (below rows' t) t) ≡ k) → refused 8 k ≡ check bs
      verdict_8 found = stops bs _ (from_9 bs) left found.0 (sym (circle_same closed) ∙ found.1)

      pub past_8 : first 64 (λ t. bit (below rows' t) t) ≡ 64 → Left bs (from_9 bs)
      past_8 none = passes bs _ (from_9 bs) left (sym (circle_same closed) ∙ none)

    -- Answer 9: the first pair that nothing settles by the rows. No record names an unknown.
    module _ (declared : (r : ℕ) → r < (table bs).records → unknown (table bs) r ≡ false) where
      all : conflict.Whole (table bs) n rows' w s heads posts times known
      all =
          record {
            laid = record { shown = (whole f).shown; single = single; filed = filed };
            closed = closed;
            declared = declared;
            few = f.few;
            below = f.below;
          }

      pub takerless : 8 * n ≤ length rows' → TakerlessFrom n rows'
      takerless = conflict.takerless all

      pub least_asks : {pairs : List ℕ} → Conflicts rows' pairs → 8 * n ≤ length rows' → n ≤ length w → n ≤ length s
          → LeastAsks n pairs rows' w s
      least_asks = conflict.least_asks all

      module _ (left : Left bs (from_9 bs)) {pairs : List ℕ} (conflicts : Conflicts rows' pairs) where
        pub verdict_9 : {q : ℕ} → q < 4096 → first 4096 (unsettled_by pairs rows' w s n) ≡ q
            → refused 9 q ≡ check bs
        verdict_9 low found =
            let pair = least_pair all conflicts (rw found low) in
            ap (refused 9) (sym found ∙ pair.1) ∙ stops bs _ [] left pair.0 refl

        -- Nothing is found: the table is accepted.
        module _ (none : first 4096 (unsettled_by pairs rows' w s n) ≡ 4096) where
          pub accepted_is : accepted 0 ≡ check bs
          accepted_is =
              accepts bs
              (passes bs _ [] left (first_none 64 (in_unsettled (table bs)) (no_pair all conflicts none)))

          pub net_of : NetOf bs n rows' w s heads posts times known
          net_of =
              record { sound = sym accepted_is; filed = filed; closed = closed; few = f.few; below = f.below }
