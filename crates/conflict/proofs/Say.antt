-- From the rows to the table: the candidates that nothing settles are the table's unsettled pairs, and the first is its
-- least pair.
use mathlib.Core.Bool.{Bool, true, false, not, ◌&&◌, ◌||◌, and-false, or_assoc}
use mathlib.Core.List.{List}
use mathlib.Core.Path.{◌≡◌, refl, sym, ap, ◌∙◌}
use Prim.Native.Nat.{ℕ, ◌+◌, ◌*◌, ◌/◌, ◌%◌, ◌<◌}
use native.Mathlib.Omega.{arith}
use lib.Dec.{ltb}
use Rattle.meaning.specs.Below.{first}
use Rattle.meaning.specs.Table.{Table}
use Rattle.meaning.specs.Priority.{above}
use Rattle.meaning.specs.Defined.{conflict, complementary, inhibited, settled, unsettled, in_unsettled}
use Rattle.meaning.proofs.Bool.{and_true}
use Rattle.meaning.proofs.Below.{some_intro, none_intro, first_passes, first_before, first_is}
use Rattle.meaning.proofs.Rows.{transition_decides, unsettled_decides}
use Rattle.meaning.proofs.Tables.{arc_transition}
use Rattle.rows.specs.declared.Declared.{Declared}
use Rattle.conflict.specs.Pairs.{Conflicts}
use Rattle.conflict.specs.Settled.{settled_in, unsettled_by}
use Rattle.conflict.proofs.Candidates.{candidate_at}
use Rattle.conflict.proofs.Whole.{Whole, conflict_same}
use Rattle.conflict.proofs.Wanted.{crossed_same}
use Rattle.conflict.proofs.Inhibited.{apart_same}

-- The tests of a pair bracketed the other way.
in_order : (l c x : Bool) → ((l && c) && x) ≡ (l && (c && x))
in_order true c x = refl
in_order false c x = refl

module _ {tb : Table} {n : ℕ} {rows : List ℕ} {w s : List (List ℕ)} {heads posts times : List ℕ} {known : Declared}
    {pairs : List ℕ}
    (whole : Whole tb n rows w s heads posts times known) (conflicts : Conflicts rows pairs) where
  -- A pair is settled by the rows exactly if it is by the table.
  settled_same : (i j : ℕ) → i < 64 → j < 64 → settled_in rows w s n i j ≡ settled tb i j
  unfolding settled_in settled
  settled_same i j h l =
      rw (
        whole.closed.holds i j h l,
        whole.closed.holds j i l h,
        crossed_same whole.laid i j h l,
        apart_same whole i j h l,
      )
      (sym (or_assoc (above tb i j || above tb j i || complementary tb i j) (inhibited tb i j) (inhibited tb j i)))

  -- Candidate 64i + j is one exactly if the pair is unsettled.
  pub unsettled_same : (i j : ℕ) → i < 64 → j < 64 → unsettled_by pairs rows w s n (64 * i + j) ≡ unsettled tb i j
  unfolding unsettled
  unsettled_same i j h l =
      candidate_at pairs rows w s n i j l
      ∙ rw (settled_same i j h l, conflicts.holds i j h l, conflict_same whole i j h l)
      (in_order (ltb i j) (conflict tb i j) (not (settled tb i j)))

  -- A pair before the first candidate is not unsettled.
  before_first : (i j : ℕ) → i < 64 → j < 64 → 64 * i + j < first 4096 (unsettled_by pairs rows w s n)
      → unsettled tb i j ≡ false
  before_first i j h l m = sym (unsettled_same i j h l)
      ∙ first_before 4096 (unsettled_by pairs rows w s n) (64 * i + j) m

  -- A transition all of whose pairs stand before it is in no unsettled pair.
  none_unsettled : (i : ℕ) → i < 64 → 64 * i + 63 < first 4096 (unsettled_by pairs rows w s n)
      → in_unsettled tb i ≡ false
  unfolding in_unsettled
  none_unsettled i h m = rw (none_intro 64 (unsettled tb i) (λ j l. before_first i j h l (omega arith)), and-false)

  -- A transition of an unsettled pair is declared, and so it is in one.
  one_unsettled : (i j : ℕ) → j < 64 → unsettled tb i j ≡ true → in_unsettled tb i ≡ true
  unfolding in_unsettled
  one_unsettled i j l e =
      let c = ((unsettled_decides tb i j whole.laid.shown).0 e).1.0 in
      and_true ((transition_decides tb i).1 (arc_transition tb whole.declared c.3))
      (some_intro 64 (unsettled tb i) j l e)

  -- The first candidate is the least unsettled pair: the least transition that is in one, and the least that it is in
  -- one with.
  pub least_pair : first 4096 (unsettled_by pairs rows w s n) < 4096
      → (first 64 (in_unsettled tb) < 64)
      × (first 4096 (unsettled_by pairs rows w s n)
      ≡ 64 * first 64 (in_unsettled tb) + first 64 (unsettled tb (first 64 (in_unsettled tb))))
  least_pair low = (omega (arith, here), rw (here, there) whole_pair)
    where
      k : ℕ
      k = first 4096 (unsettled_by pairs rows w s n)

      whole_pair : k ≡ 64 * (k / 64) + k % 64
      whole_pair = omega arith

      first_unsettled : unsettled tb (k / 64) (k % 64) ≡ true
      first_unsettled =
          sym (unsettled_same (k / 64) (k % 64) (omega arith) (omega arith))
          ∙ ap (unsettled_by pairs rows w s n) (sym whole_pair)
          ∙ first_passes 4096 (unsettled_by pairs rows w s n) low

      here : first 64 (in_unsettled tb) ≡ k / 64
      here =
          first_is 64 (in_unsettled tb) (k / 64) (omega arith)
          (one_unsettled (k / 64) (k % 64) (omega arith) first_unsettled)
          (λ i l. none_unsettled i (omega arith) (omega arith))

      there : first 64 (unsettled tb (k / 64)) ≡ k % 64
      there =
          first_is 64 (unsettled tb (k / 64)) (k % 64) (omega arith) first_unsettled
          (λ j l. before_first (k / 64) j (omega arith) (omega arith) (omega arith))

  -- Where there is no candidate no transition is in an unsettled pair.
  pub no_pair : first 4096 (unsettled_by pairs rows w s n) ≡ 4096 → (i : ℕ) → i < 64 → in_unsettled tb i ≡ false
  no_pair e i h = none_unsettled i h (omega arith)
