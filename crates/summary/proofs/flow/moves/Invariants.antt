use mathlib.Core.Bool.{cond, ◌&&◌}
use mathlib.Core.List.{List}
use mathlib.Core.Path.{◌≡◌}
use Prim.Native.Nat.{ℕ, ◌*◌, ◌≤◌, ◌<◌}
use lib.Dec.{eqb}
use lib.ListN.{length, get_or}
use Rattle.meaning.specs.Below.{sum}
use Rattle.meaning.specs.Table.{table, arc}
use Rattle.summary.specs.Day.{times_of}
use Rattle.summary.proofs.flow.moves.Given as goal

-- What the first records move at a place.
abbrev pub so_far : List ℕ → ℕ → List ℕ → ℕ → ℕ → ℕ
so_far t sort s p r =
    sum r (λ q. cond (arc (table t) sort q && eqb ((table t).one q) p) ((table t).four q * times_of s ((table t).two
    q)) 0)

abbrev pub invariant-loop-r : goal.invariant-loop-r
invariant-loop-r l =
    (length l.moved ≡ 128)
    × ((p : ℕ) → p < 128 → get_or l.moved p 0 ≡ so_far l.t l.sort l.s p l.r)
    × ((p : ℕ) → p < 128 → get_or l.moved p 0 ≤ l.r * 281470681677825)
