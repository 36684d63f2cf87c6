-- Both numbers are far below 2^63, so the casts keep them and the difference has its place.
use mathlib.Core.Path.{◌≡◌, sym, ap₂, subst, ◌∙◌}
use native.Mathlib.Omega.{arith}
use lib.IntN.{ℤ, pos, ◌-ℤ◌}
use mir.Syntax.{w64}
use mir.Val.{SFits, to_z}
use mir.Facts.{to_z_pos, to_z-of_z}
use Rattle.summary.proofs.Whole.{difference_fits}
use Rattle.summary.proofs.flow.less.Goals as goal
use Rattle.summary.proofs.flow.less.Goals.{Start}

-- The two as the machine reads them.
read : (c : Start)
    → (to_z w64 c.args.put -ℤ to_z w64 c.args.taken) ≡ (pos c.args.put -ℤ pos c.args.taken)
read c =
    ap₂ (λ (x y : ℤ). x -ℤ y) (to_z_pos w64 {n = c.args.put} (omega (arith, c.requires.0)))
    (to_z_pos w64 {n = c.args.taken} (omega (arith, c.requires.1)))

pub overflow_sub-result : goal.overflow_sub-result
overflow_sub-result c =
    subst (SFits w64) (sym (read c))
    (difference_fits c.args.put c.args.taken (omega (arith, c.requires.0)) (omega (arith, c.requires.1)))

pub returns : goal.returns
returns c = to_z-of_z {w = w64} (overflow_sub-result c) ∙ read c
