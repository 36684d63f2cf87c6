-- Within the table the columns are the eight bytes from 8r on; past its end all is 0.
use mathlib.Core.Path.{refl}
use Rattle.records.proofs.Columns.{inside, outside, reads_same}
use Rattle.records.proofs.read.Goals as goal

pub returns-then-r-t : goal.returns-then-r-t
returns-then-r-t c =
    let first = c in
    let at = first in
    reads_same _ _ _ _ (inside _ _ at.if-r-t.true) refl refl refl refl first.two.ensures c.two-then-r-t.ensures

pub returns-else-r-t : goal.returns-else-r-t
returns-else-r-t c = outside _ _ c.if-r-t.false
