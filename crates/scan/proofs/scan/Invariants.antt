use Rattle.meaning.specs.Table.{table}
use Rattle.scan.proofs.Passed.{Passed}
use Rattle.scan.proofs.scan.Given as goal

abbrev pub invariant-loop-r : goal.invariant-loop-r
invariant-loop-r l = Passed (table l.t) l.r l.rows l.w l.s l.heads l.posts l.times l.known
