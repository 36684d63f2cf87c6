-- Entries of three numbers each: one is stored, and there are as many as before.
use mathlib.Core.List.{List}
use mathlib.Core.Path.{◌≡◌}
use Prim.Native.Nat.{ℕ, ◌+◌, ◌*◌, ◌≤◌}
use native.Mathlib.Omega.{arith}
use lib.ListN.{length, set}
use Rattle.std.proofs.lemmas.Grind.{common_steps}

-- Entry r as it is stored: three numbers.
abbrev pub with_entry : List ℕ → ℕ → ℕ → ℕ → ℕ → List ℕ
with_entry posts r a b c = set (set (set posts (3 * r + 0) a) (3 * r + 1) b) (3 * r + 2) c

module _ (posts : List ℕ) (r a b c : ℕ) (there : 3 * r + 3 ≤ length posts) where
  pub stored_size : length (with_entry posts r a b c) ≡ length posts
  stored_size = grind (arith, common_steps)
