-- `single` has k alone: 1 shifted by k is 2 ^ k.
use mathlib.Core.Path.{ap, ◌∙◌}
use Prim.Native.Nat.{ℕ}
use Rattle.meaning.specs.Bytes.{bit}
use Rattle.sets.proofs.Bits.{bit_one, one_shifted}
use Rattle.sets.proofs.single.Goals as goal

pub returns : goal.returns
returns c j = ap (λ (x : ℕ). bit x j) (one_shifted c.args.k c.requires) ∙ bit_one c.args.k j
