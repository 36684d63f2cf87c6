-- Each byte 1 is below the extent; and where the extent is above 128, each that may be a number is below 128.
use native.Mathlib.Omega.{arith}
use Rattle.engine.proofs.Room.{extent_above}
use Rattle.engine.proofs.numbers.Goals as goal

pub returns : goal.returns
returns c =
    (λ r h l. omega (arith, l, extent_above _ c.extent.ensures r h, c.min.ensures), omega (arith, c.min.ensures))
