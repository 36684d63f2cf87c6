-- Of the places below n and of those from n on the first that is wrong; places whose bytes are 0 are not.
use Prim.Native.Nat.{◌<◌}
use native.Mathlib.Omega.{arith}
use Rattle.meaning.proofs.Below.{first_is}
use Rattle.state.proofs.first_wrong_place.Goals as goal

pub returns-in-Some : goal.returns-in-Some
returns-in-Some c =
    let found = c.in-Some.ensures in
    let low : c.in-Some.p < 128 = omega (arith, found.0) in
    (low, first_is 128 _ c.in-Some.p low (found.1.passes found.0) (λ k l. found.1.before k (omega arith) l))
