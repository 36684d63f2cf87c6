-- One of the five sets of a transition gains members: it alone changes, as no two sets stand at one place of the array.
use mathlib.Core.Bool.{Bool, ◌&&◌, ◌||◌}
use mathlib.Core.List.{List}
use mathlib.Core.Path.{◌≡◌}
use Prim.Native.Nat.{ℕ, ◌+◌, ◌*◌, ◌<◌}
use native.Mathlib.Omega.{arith}
use lib.Dec.{eqb}
use lib.ListN.{length, get_or, set}
use lib.Seq.{get_or-set_same, get_or-set_other}
use Rattle.std.proofs.lemmas.Bool.Decides.{nat_tests}
use Rattle.meaning.specs.Bytes.{bit}

-- Set k of transition m gains what w has.
module _ (arcs : List ℕ) (m k v : ℕ) (few : k < 5) (there : 5 * m + k < length arcs) (w : ℕ → Bool)
    (gains : (j : ℕ) → bit v j ≡ (bit (get_or arcs (5 * m + k) 0) j || w j)) where
  pub one_put : (t c j : ℕ) → c < 5
      → bit (get_or (set arcs (5 * m + k) v) (5 * t + c) 0) j
      ≡ (bit (get_or arcs (5 * t + c) 0) j || ((eqb c k && eqb m t) && w j))
  one_put t c j h =
      let same = get_or-set_same arcs (5 * m + k) v 0 there in
      let other = get_or-set_other arcs (5 * m + k) (5 * t + c) v 0 in
      grind (arith, nat_tests, gains j, same, other)
