use mathlib.Core.Path.{◌≡◌}
use Prim.Native.Nat.{◌+◌}
use Rattle.state.specs.Records.{Quiet}
use Rattle.state.proofs.quiet.Given as goal

abbrev pub invariant-loop-byte : goal.invariant-loop-byte
invariant-loop-byte l = l.any ≡ 0 → Quiet l.bytes l.from (l.from + l.byte-index)
