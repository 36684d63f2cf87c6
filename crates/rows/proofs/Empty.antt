-- A set of 64 numbers is 0 exactly if it has none of them.
use mathlib.Core.Bool.{Bool, true, false, not}
use mathlib.Core.Path.{◌≡◌, sym, ap, ◌∙◌}
use Prim.Native.Nat.{ℕ, ◌^◌, ◌<◌}
use borrow.Author.Tests.{eq-eqb, ne_eqb}
use Rattle.meaning.specs.Below.{some}
use Rattle.meaning.specs.Bytes.{bit}
use Rattle.sets.proofs.Bits.{zero_set}

-- A test is what the double of its contrary says.
pub back : (a b : Bool) → not a ≡ b → a ≡ not b
back true b e = ap not e
back false b e = ap not e

pub has_none : (a : ℕ) → a < 2 ^ 64 → a ≡ 0 → some 64 (bit a) ≡ false
has_none a h e = back (some 64 (bit a)) true (sym (zero_set a h) ∙ eq-eqb a 0 e)

pub has_some : (a : ℕ) → a < 2 ^ 64 → ¬ (a ≡ 0) → some 64 (bit a) ≡ true
has_some a h n = back (some 64 (bit a)) false (sym (zero_set a h) ∙ ne_eqb a 0 n)
