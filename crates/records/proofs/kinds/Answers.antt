-- The constants are the table of kinds, row by row.
use mathlib.Core.Path.{refl}
use Rattle.meaning.specs.Table.{kinds}
use Rattle.records.specs.Record.{kind_rows}
use Rattle.records.proofs.kinds.Goals as goal

pub returns : goal.returns
unfolding kind_rows kinds
returns c = refl
