-- Conditions by what is looked at and what is wanted true: a table says of a transition and a condition one thing at
-- most, so that what a transition looks at and does not want true it wants false.
use mathlib.Core.Bool.{not, ◌&&◌}
use mathlib.Core.List.{List}
use mathlib.Core.Logic.{inl, inr, ⊎_elim}
use mathlib.Core.Path.{◌≡◌, refl, sym, ap, ◌∙◌}
use Prim.Native.Nat.{ℕ, ◌<◌}
use native.Mathlib.Omega.{arith}
use borrow.Author.Tests.{not-true}
use Rattle.meaning.specs.Bytes.{bit}
use Rattle.meaning.specs.Table.{Table}
use Rattle.meaning.specs.Defined.{complementary}
use Rattle.meaning.specs.Says.{Same, Wanted}
use Rattle.meaning.proofs.Bool.{not_both, and_left, and_right, and_true}
use Rattle.meaning.proofs.Reflect.{Decides, recast, eq_decides, and_decides, or_decides, some_decides, not_true_false}
use Rattle.meaning.proofs.Rows.{complementary_decides}
use Rattle.meaning.proofs.Same.{of_kind, shown_condition}
use Rattle.rows.specs.declared.Declared.{Declared}
use Rattle.rows.specs.Rows.{looks, wanted_true}
use Rattle.rows.specs.Filed.{kept_in}
use Rattle.rows.proofs.Arcs.{Laid, one_record}
use Rattle.rows.proofs.Shown.{two_low}
use Rattle.conflict.specs.Settled.{wants_false, crossed_in}
use Rattle.conflict.proofs.Whole.{same_decided, decides_by, some_below}

module _ {tb : Table} {rows : List ℕ} {w s : List (List ℕ)} {heads posts times : List ℕ} {known : Declared}
    (laid : Laid tb rows w s heads posts times known) where
  module _ (t k : ℕ) (ht : t < 64) (hk : k < 64) where
    -- What t looks at, and what it wants true, by its records.
    looks_decides : Decides (bit (looks rows t) k) ((x : ℕ) × Wanted tb t k x)
    unfolding kept_in
    looks_decides =
        decides_by (laid.filed.rowed.holds 4 t k (omega arith) (omega arith) hk)
        (recast
        (some_decides tb.records
        (λ r. and_decides (eq_decides (tb.kind r) 4)
        (and_decides (eq_decides (tb.one r) t) (eq_decides (tb.two r) k))))
        (λ x. (tb.sort x.0, (x.0, x.1, x.2.0, x.2.1.0, x.2.1.1, refl)))
        (λ x.
        let a = x.1 in
        (a.0, a.1, (a.2, (a.3, a.4)))))

    true_decides : Decides (bit (wanted_true rows t) k) (Wanted tb t k 0)
    unfolding kept_in
    true_decides =
        decides_by (laid.filed.rowed.holds 5 t k (omega arith) (omega arith) hk)
        (recast
        (some_decides tb.records
        (λ r.
        and_decides (and_decides (eq_decides (tb.kind r) 4) (eq_decides (tb.sort r) 0))
        (and_decides (eq_decides (tb.one r) t) (eq_decides (tb.two r) k))))
        (λ x. (x.0, x.1, x.2.0.0, x.2.1.0, x.2.1.1, x.2.0.1))
        (λ a. (a.0, a.1, ((a.2, a.5), (a.3, a.4)))))

    -- No condition is wanted both ways.
    not_both_ways : Wanted tb t k 0 → Wanted tb t k 1 → ⊥
    not_both_ways a b =
        let one = one_record laid a.0 b.0 a.1 b.1
        (Same.condition a.2 b.2 (a.3 ∙ sym b.3) (a.4 ∙ sym b.4))
        (Same.condition b.2 a.2 (b.3 ∙ sym a.3) (b.4 ∙ sym a.4)) in
        let sorts : tb.sort a.0 ≡ tb.sort b.0 = ap tb.sort one in
        omega (arith, sorts, a.5, b.5)

    -- So what is looked at and not wanted true is wanted false.
    false_decides : Decides (wants_false rows t k) (Wanted tb t k 1)
    false_decides = (
      λ e.
          let a = (looks_decides.0 (and_left (bit (looks rows t) k) _ e)).1 in
          let lacks = not-true (bit (wanted_true rows t) k) (and_right (bit (looks rows t) k) _ e) in
          let other : ¬ (tb.sort a.0 ≡ 0) =
          λ z. not_both (true_decides.1 (a.0, a.1, a.2, a.3, a.4, z)) lacks in
          let most = shown_condition (of_kind tb a.0 4 (laid.shown a.0 a.1) a.2) in
          (a.0, a.1, a.2, a.3, a.4, omega (arith, other, most)),
      λ b.
          and_true (looks_decides.1 (1, b))
          (ap not (not_true_false (bit (wanted_true rows t) k) (λ e. not_both_ways (true_decides.0 e) b))),
    )

  -- A condition that a record wants is below 64.
  condition_low : {t k x : ℕ} → Wanted tb t k x → k < 64
  condition_low a = omega (arith, two_low (laid.shown a.0 a.1), a.4)

  -- The rows say of two transitions what the table says.
  pub crossed_same : (i j : ℕ) → i < 64 → j < 64 → crossed_in rows i j ≡ complementary tb i j
  unfolding crossed_in
  crossed_same i j hi hj =
      same_decided
      (recast
      (or_decides
      (some_below 64 (λ k. bit (wanted_true rows i) k && wants_false rows j k)
      (λ k h. and_decides (true_decides i k hi h) (false_decides j k hj h)))
      (some_below 64 (λ k. wants_false rows i k && bit (wanted_true rows j) k)
      (λ k h. and_decides (false_decides i k hi h) (true_decides j k hj h))))
      (⊎_elim (λ x. inl (x.0, x.2.0, x.2.1)) (λ x. inr (x.0, x.2.0, x.2.1)))
      (⊎_elim (λ x. inl (x.0, condition_low x.1, (x.1, x.2)))
      (λ x. inr (x.0, condition_low x.1, (x.1, x.2)))))
      (complementary_decides tb i j laid.shown)
