use Prim.Native.Nat.{ℕ, ◌+◌}
use Rattle.firing.specs.Fired.{stopped_at}
use Rattle.firing.proofs.Words.{Searched}
use Rattle.firing.proofs.stopped_in.Given as goal

abbrev pub invariant-loop-k : goal.invariant-loop-k
invariant-loop-k l =
    let net = l.net in
    Searched (λ (k : ℕ). stopped_at l.tokens net.rows.now net.weights.now net.sorts.now l.g l.t (l.from + k)) l.word
    l.k-iterator.left
