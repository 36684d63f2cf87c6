use mathlib.Core.Bool.{true}
use mathlib.Core.Path.{◌≡◌}
use Prim.Native.Nat.{ℕ, ◌*◌}
use lib.ListN.{get_or}
use Rattle.std.proofs.Common.{None}
use Rattle.meaning.specs.Bytes.{bit}
use Rattle.conflict.proofs.Candidates.{NoneBelow, candidate, Out}
use Rattle.conflict.proofs.least.Given as goal

abbrev pub invariant-loop-j : goal.invariant-loop-j
invariant-loop-j l =
    (l.found ≡ None) × Out l.pairs l.rows l.w l.s l.n l.i l.j-iterator.left
    × ((j : ℕ) → bit l.j-iterator.left j ≡ true → bit (get_or l.pairs l.i 0) j ≡ true)

abbrev pub invariant-search : goal.invariant-search
invariant-search l = (l.found ≡ None) × NoneBelow (candidate l.pairs l.rows l.w l.s l.n) (64 * l.i)
