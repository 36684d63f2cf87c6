use mathlib.Core.Path.{◌≡◌}
use Prim.Native.Nat.{◌≤◌}
use Rattle.meaning.specs.Table.{table}
use Rattle.rows.specs.Extent.{top}
use Rattle.rows.proofs.extent.Given as goal

abbrev pub invariant-loop-r : goal.invariant-loop-r
invariant-loop-r l = (l.high ≡ top (table l.t) l.r) × (l.high ≤ 255)
