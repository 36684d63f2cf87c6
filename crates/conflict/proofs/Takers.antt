-- Who takes from one place, the lowest taken off one after the other: what is left then are the takers after it.
use mathlib.Core.Bool.{Bool, true, false, not, ◌&&◌, ◌||◌}
use mathlib.Core.List.{List}
use mathlib.Core.Path.{◌≡◌}
use Prim.Native.Nat.{ℕ, ◌<◌}
use native.Mathlib.Omega.{arith}
use lib.Dec.{eqb, ltb}
use lib.ListN.{length, get_or, set}
use lib.Seq.{get_or-set_same, get_or-set_other}
use Rattle.std.proofs.lemmas.Bool.Decides.{nat_tests}
use Rattle.meaning.specs.Bytes.{bit}
use Rattle.sets.proofs.Bits.{bit_zero}

-- The later j is with i, or is to come to it: both are among those that are left.
abbrev pub due : List ℕ → ℕ → ℕ → ℕ → Bool
due pairs left i j = bit (get_or pairs i 0) j || (ltb i j && (bit left i && bit left j))

-- Number k is taken off, the lowest of what is left.
module _ (left k rest : ℕ) (has : bit left k ≡ true) (before : (j : ℕ) → j < k → bit left j ≡ false)
    (off : (j : ℕ) → bit rest j ≡ (bit left j && not (eqb k j))) where
  -- Row k gets them: with whom each is or is to be stays the same.
  pub paired : (pairs : List ℕ) (v : ℕ) → k < length pairs
      → ((j : ℕ) → bit v j ≡ (bit (get_or pairs k 0) j || bit rest j))
      → (i j : ℕ) → due (set pairs k v) rest i j ≡ due pairs left i j
  paired pairs v h gains i j =
      let same = get_or-set_same pairs k v 0 h in
      let other = get_or-set_other pairs k i v 0 in
      grind (arith, nat_tests, gains j, off i, off j, has, before i, before j, same, other)

-- With nobody left each has all who come to it.
pub all_paired : (pairs : List ℕ) (left i j : ℕ) → left ≡ 0 → bit (get_or pairs i 0) j ≡ due pairs left i j
all_paired pairs left i j e = grind (arith, nat_tests, e, bit_zero i)
