-- The two halves are four bytes each, and together they spell the number.
use mathlib.Core.Path.{◌∙◌}
use native.Mathlib.Omega.{arith}
use Rattle.numbers.proofs.Spelt.{halves}
use Rattle.numbers.proofs.eight.Goals as goal

pub returns : goal.returns
returns c =
    c.whole.ensures
    ∙ halves c.args.bytes.now c.args.at c.from_le_bytes-low.result c.from_le_bytes-high.result c.requires
    (omega arith)
    (omega arith)
