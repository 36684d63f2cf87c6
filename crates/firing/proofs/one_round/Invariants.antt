use mathlib.Core.Bool.{Bool, not, ◌&&◌}
use mathlib.Core.List.{List}
use Prim.Native.Nat.{ℕ}
use Rattle.firing.specs.Fired.{keeps, waits_for}
use Rattle.firing.proofs.Rounds.{Walked}
use Rattle.firing.proofs.one_round.Given as goal

-- Transition t waits for none of those left, and its rivals in `out` leave it enabled.
abbrev pub fires_now : ℕ → ℕ → List ℕ → List ℕ → List ℕ → List (List ℕ) → List (List ℕ) → ℕ → Bool
fires_now left out m rows arcs w s t = not (waits_for arcs left t) && keeps m rows arcs w s out t

abbrev pub invariant-loop-t : goal.invariant-loop-t
invariant-loop-t l =
    let net = l.net in
    Walked l.round.left l.round.out (waits_for net.arcs.now l.round.left)
    (fires_now l.round.left l.round.out l.tokens net.rows.now net.arcs.now net.weights.now net.sorts.now)
    l.t-iterator.left l.after.left l.after.out
