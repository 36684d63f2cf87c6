-- The transition joins the declared ones, and the places stay.
use mathlib.Core.Bool.{Bool, ◌||◌}
use mathlib.Core.Path.{refl, ap, ◌∙◌}
use Rattle.meaning.specs.Bytes.{bit}
use Rattle.rows.specs.Rows.{has}
use Rattle.rows.proofs.Declared.with_transition.Goals as goal

pub returns : goal.returns
unfolding has
returns c = (
  λ u. c.union.ensures u ∙ ap (λ (b : Bool). bit c.args.self.transitions u || b)
      (c.single.ensures u),
  λ q. refl,
)
