-- The two tests of a length in their order.
use borrow.Author.Tests.{eq-eqb, ne_eqb}
use Rattle.meaning.specs.Defined.{bad_length}
use Rattle.engine.proofs.bad_length.Goals as goal

pub returns-then-t-ne0 : goal.returns-then-t-ne0
unfolding bad_length
returns-then-t-ne0 c = rw (ne_eqb _ 0 c.if-t-ne0.true)

pub returns-else-t-ne0 : goal.returns-else-t-ne0
unfolding bad_length
returns-else-t-ne0 c = rw (eq-eqb _ 0 c.if-t-ne0.false)
