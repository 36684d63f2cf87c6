use mathlib.Core.Bool.{false}
use mathlib.Core.Path.{◌≡◌}
use Prim.Native.Nat.{ℕ, ◌<◌}
use Rattle.meaning.specs.Table.{table}
use Rattle.named.specs.Named.{unknown_at}
use Rattle.named.proofs.first_unknown.Given as goal

abbrev pub invariant-loop-r : goal.invariant-loop-r
invariant-loop-r l = (j : ℕ) → j < l.r → unknown_at (table l.t) l.k j ≡ false
