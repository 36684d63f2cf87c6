-- Record r names one by what is read of it; no record before it does.
use mathlib.Core.Bool.{true}
use mathlib.Core.Path.{◌≡◌, sym, ◌∙◌}
use Rattle.meaning.specs.Table.{table}
use Rattle.meaning.proofs.Below.{first_is}
use Rattle.named.specs.Named.{unknown_at}
use Rattle.named.proofs.first_unknown.Goals as goal

pub returns-then-names_unknown : goal.returns-then-names_unknown
unfolding table
returns-then-names_unknown c =
    let at = c.loop-r in
    let reads = c.read.ensures in
    let names : true ≡ unknown_at (table c.args.t.now) c.args.k at.r =
    sym c.if-names_unknown.true ∙ c.names_unknown.ensures ∙ rw (reads.kind, reads.one, reads.two) in
    (c.loop-r-test.true, first_is _ _ at.r c.loop-r-test.true (sym names) at.invariant)
