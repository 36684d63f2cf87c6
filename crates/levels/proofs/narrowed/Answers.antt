-- An arc whose weight the tokens miss ends the level below the weight.
use Prim.Native.Nat.{◌<◌}
use native.Mathlib.Omega.{arith}
use Rattle.levels.proofs.narrowed.Goals as goal

pub returns-then-sort-eq2 : goal.returns-then-sort-eq2
returns-then-sort-eq2 c =
    let missed : c.args.tokens < c.args.weight = omega arith in
    grind arith
