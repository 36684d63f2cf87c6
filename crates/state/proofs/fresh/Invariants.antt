use mathlib.Core.Path.{◌≡◌}
use Rattle.meaning.specs.Table.{table}
use Rattle.meaning.specs.Image.{image_bytes}
use Rattle.state.proofs.Begun.{begun}
use Rattle.state.proofs.fresh.Given as goal

abbrev pub invariant-loop-r : goal.invariant-loop-r
invariant-loop-r l = l.image ≡ image_bytes (begun (table l.t) l.r)
