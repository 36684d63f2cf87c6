-- The numbers of a record that the page shows are in range.
use mathlib.Core.Bool.{false, ◌||◌}
use mathlib.Core.Path.{◌≡◌, refl}
use Prim.Native.Nat.{ℕ, ◌<◌}
use native.Mathlib.Omega.{arith}
use lib.Dec.{eqb}
use Rattle.meaning.specs.Says.{Shown}
use Rattle.meaning.proofs.Bool.{not_both}

-- Its byte 1 and its byte 2.
pub one_low : {k o t s f x : ℕ} → Shown k o t s f x → o < 128
one_low (Shown.place a b) = omega arith
one_low (Shown.untimed a) = omega arith
one_low (Shown.between a b c d) = omega arith
one_low (Shown.from a b c) = omega arith
one_low (Shown.arc a b c d e) = omega arith
one_low (Shown.condition a b c) = omega arith
one_low (Shown.priority a b) = omega arith
one_low (Shown.action a b) = omega arith
one_low (Shown.function a b) = omega arith

pub two_low : {k o t s f x : ℕ} → Shown k o t s f x → t < 64
two_low (Shown.place a b) = omega arith
two_low (Shown.untimed a) = omega arith
two_low (Shown.between a b c d) = omega arith
two_low (Shown.from a b c) = omega arith
two_low (Shown.arc a b c d e) = omega arith
two_low (Shown.condition a b c) = omega arith
two_low (Shown.priority a b) = omega arith
two_low (Shown.action a b) = omega arith
two_low (Shown.function a b) = omega arith

-- Byte 1 of a kind that names no place is a transition.
pub transition_low : {k o t s f x : ℕ} → Shown k o t s f x → (eqb k 1 || eqb k 3 || eqb k 6) ≡ false → o < 64
transition_low (Shown.place a b) n = not_both refl n
transition_low (Shown.untimed a) n = omega arith
transition_low (Shown.between a b c d) n = omega arith
transition_low (Shown.from a b c) n = omega arith
transition_low (Shown.arc a b c d e) n = not_both refl n
transition_low (Shown.condition a b c) n = omega arith
transition_low (Shown.priority a b) n = omega arith
transition_low (Shown.action a b) n = not_both refl n
transition_low (Shown.function a b) n = omega arith
