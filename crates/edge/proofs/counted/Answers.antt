-- A counter below its limit rises by one.
use native.Mathlib.Omega.{arith}
use borrow.Author.Tests.{lt-ltb}
use Rattle.edge.specs.Edges.{raised}
use Rattle.edge.proofs.counted.Goals as goal

pub returns-then-c-limit : goal.returns-then-c-limit
unfolding raised
returns-then-c-limit c =
    let a = c.args in
    rw (c.if-again.false, lt-ltb a.c a.limit c.if-c-limit.true) (omega arith)
