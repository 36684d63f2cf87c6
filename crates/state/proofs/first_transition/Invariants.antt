use mathlib.Core.Bool.{false}
use mathlib.Core.Path.{◌≡◌}
use Prim.Native.Nat.{ℕ, ◌<◌}
use Rattle.state.specs.Fit.{wrong_transition_by}
use Rattle.state.proofs.first_transition.Given as goal

abbrev pub invariant-loop-t : goal.invariant-loop-t
invariant-loop-t l = (u : ℕ) → u < l.t → wrong_transition_by l.image l.times u ≡ false
