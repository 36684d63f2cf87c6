use mathlib.Core.Path.{◌≡◌}
use Prim.Native.Nat.{ℕ, ◌≤◌}
use lib.ListN.{length, get_or, replicate}
use Rattle.meaning.specs.Image.{image, state}
use Rattle.state.proofs.Read.{Lists, Marked}
use Rattle.state.proofs.load.Given as goal

abbrev pub invariant-loop-p : goal.invariant-loop-p
invariant-loop-p l =
    record {
      size : length l.state.tokens ≡ 128;
      listed : Lists l.p (state (image l.image)).tokens l.state.tokens;
      rest : (i : ℕ) → l.p ≤ i → get_or l.state.tokens i 0 ≡ 0;
      counters : l.state.counters ≡ replicate 64 0;
      orders : l.state.orders ≡ 0;
    }

abbrev pub invariant-loop-t : goal.invariant-loop-t
invariant-loop-t l =
    record {
      places : length l.state.tokens ≡ 128;
      tokens : Lists 128 (state (image l.image)).tokens l.state.tokens;
      size : length l.state.counters ≡ 64;
      listed : Lists l.t (state (image l.image)).counter l.state.counters;
      rest : (i : ℕ) → l.t ≤ i → get_or l.state.counters i 0 ≡ 0;
      marked : Marked l.t (state (image l.image)).order l.state.orders;
    }
