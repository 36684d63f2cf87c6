-- Lookup's part is empty, or it is the 24 bytes of a cycle that the report holds whole.
use mathlib.Core.List.{List}
use mathlib.Core.Logic.{◌≢◌, ◌⊎◌, inl, inr, ⊎_elim}
use mathlib.Core.Path.{◌≡◌, refl, sym, ap, ◌∙◌}
use Prim.Native.Nat.{ℕ, ◌*◌, ◌-◌, ◌/◌, ◌≤◌, ◌<◌}
use native.Mathlib.Omega.{arith}
use lib.ListN.{length, take, drop}
use Rattle.meaning.specs.Calls.{lookup}
use Rattle.meaning.proofs.Reflect.{decided, le_decides}
use Rattle.meaning.proofs.Outcomes.{lookup_whole, lookup_none}
use Rattle.moezelkring.specs.Exported.{PartOf}

module _ (report : List ℕ) (cycle : ℕ) where
  -- The report holds the cycle whole, or it does not.
  whole_or_none : ((1 ≤ cycle) × (24 * cycle ≤ length report)) ⊎ ((cycle < 1) ⊎ (length report < 24 * cycle))
  whole_or_none = ⊎_elim (λ low. ⊎_elim (λ high. inl (low, high)) (λ high. inr (inr (omega arith))) (decided (le_decides (24 * cycle) (length report)))) (λ low. inr (inl (omega arith))) (decided (le_decides 1 cycle))

  -- An empty part.
  pub part_none : length (lookup report cycle) ≡ 0 → PartOf report cycle (record { from = 0; length = 0 })
  part_none z =
      ⊎_elim (λ (low, high). absurd (omega (arith, (lookup_whole report cycle low high).1)))
      (λ n.
      let none = lookup_none report cycle n in
      record { from_is = sym none.1; length_is = sym z; bytes_are = sym none.0 })
      whole_or_none

  -- Another part.
  module _ (n : length (lookup report cycle) ≢ 0) where
    held : (1 ≤ cycle) × (24 * cycle ≤ length report)
    held = ⊎_elim (λ h. h) (λ none. absurd (n (ap length (lookup_none report cycle none).0))) whole_or_none

    pub in_report : (1 ≤ cycle) × (cycle ≤ length report / 24)
    in_report = (held.0, omega (arith, held.1))

    pub part_some : PartOf report cycle (record { from = 24 * (cycle - 1); length = length (lookup report cycle) })
    part_some =
        let found = lookup_whole report cycle held.0 held.1 in
        record {
          from_is = sym found.2;
          length_is = refl;
          bytes_are = ap (λ (k : ℕ). take k (drop (24 * (cycle - 1)) report)) found.1 ∙ sym found.0;
        }
