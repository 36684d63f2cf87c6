use mathlib.Core.Bool.{not, ◌&&◌}
use mathlib.Core.Path.{◌≡◌}
use Prim.Native.Nat.{ℕ}
use lib.Dec.{eqb}
use Rattle.meaning.specs.Below.{some}
use Rattle.meaning.specs.Bytes.{bit}
use Rattle.meaning.specs.Table.{table, is}
use Rattle.summary.proofs.undeclared.Given as goal

abbrev pub invariant-loop-r : goal.invariant-loop-r
invariant-loop-r l =
    (k : ℕ) → bit l.left k
    ≡ (bit 18446744073709551615 k && not (some l.r (λ q. is (table l.t) 2 q && eqb ((table l.t).one q) k)))
