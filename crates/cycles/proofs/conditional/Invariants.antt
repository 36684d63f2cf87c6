use mathlib.Core.Bool.{not, ◌&&◌}
use mathlib.Core.Path.{◌≡◌}
use Prim.Native.Nat.{ℕ}
use lib.Dec.{ltb, eqb}
use Rattle.meaning.specs.Bytes.{bit}
use Rattle.rows.specs.Rows.{looks}
use Rattle.cycles.proofs.conditional.Given as goal

abbrev pub invariant-loop-t : goal.invariant-loop-t
invariant-loop-t l = (j : ℕ) → bit l.r j ≡ (ltb j l.t && not (eqb (looks l.rows j) 0))
