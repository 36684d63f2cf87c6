use mathlib.Core.Bool.{true, false, ◌&&◌, ◌||◌}
use mathlib.Core.List.{List}
use mathlib.Core.Path.{◌≡◌}
use Prim.Native.Nat.{ℕ, ◌≤◌}
use lib.ListN.{get_or}
use Rattle.meaning.specs.Bytes.{bit}
use Rattle.levels.specs.declared.Level.{Level}
use Rattle.levels.specs.Levels.{stops_of, lacks_of}
use Rattle.levels.proofs.Sides.{KeepsSide}
use Rattle.levels.proofs.level_of.Given as goal

-- The level so far, with these arcs left to ask.
pub record SoFar (tokens arcs : ℕ) (w s : List ℕ) (x : Level) (left : ℕ) : Type 0 where
  pub roof : x.upto ≤ 2147483647
  pub low : x.from ≤ tokens
  pub high : tokens ≤ x.upto
  pub some_token : ¬ (tokens ≡ 0) → 1 ≤ x.from
  pub no_token : tokens ≡ 0 → x.upto ≡ 0
  pub held_is : (t : ℕ)
      → (bit x.held t || (bit left t && stops_of w s tokens t)) ≡ (bit arcs t && stops_of w s tokens t)
  pub lacks_is : (t : ℕ) → (bit x.lacks t || (bit left t && lacks_of w s tokens t))
      ≡ (bit arcs t && lacks_of w s tokens t)
  pub sides : (t : ℕ) → bit left t ≡ false → bit arcs t ≡ true → KeepsSide tokens (get_or w t 0) x.from x.upto

abbrev pub invariant-loop-t : goal.invariant-loop-t
invariant-loop-t l = SoFar l.tokens l.arcs l.w l.s l.x l.t-iterator.left
