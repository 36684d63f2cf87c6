-- A byte that is no kind's number names nobody.
use mathlib.Core.Path.{sym}
use borrow.Author.Tests.{ne_eqb}
use Rattle.records.specs.declared.kind.Kind.TheVariants.{Arc, Condition, Priority, Action, Function}
use Rattle.named.specs.Named.{unknown_by}
use Rattle.named.proofs.names_unknown.Goals as goal

pub returns-in-Err : goal.returns-in-Err
unfolding unknown_by
returns-in-Err c =
    let kind = c.args.x.kind in
    let other = c.in-Err.ensures in
    rw (
      ne_eqb kind 3 (λ e. other Arc (sym e)),
      ne_eqb kind 4 (λ e. other Condition (sym e)),
      ne_eqb kind 5 (λ e. other Priority (sym e)),
      ne_eqb kind 6 (λ e. other Action (sym e)),
      ne_eqb kind 7 (λ e. other Function (sym e)),
    )
