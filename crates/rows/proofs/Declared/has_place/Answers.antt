-- Each half of the places has its own set.
use borrow.Author.Tests.{lt-ltb, le-ltb}
use Rattle.rows.specs.Rows.{has}
use Rattle.rows.proofs.Declared.has_place.Goals as goal

pub returns-then-p-lt64 : goal.returns-then-p-lt64
unfolding has
returns-then-p-lt64 c = rw (lt-ltb _ 64 c.if-p-lt64.true) c.has.ensures

pub returns-else-p-lt64 : goal.returns-else-p-lt64
unfolding has
returns-else-p-lt64 c = rw (le-ltb _ 64 c.if-p-lt64.false) c.has-else-p-lt64.ensures
