-- The cycles are done from the image; where one is refused those before it are done again, and what they leave is
-- saved.
use native.Mathlib.Omega.{arith}
use Rattle.cycles.proofs.Laying.{lay_asks, all_of, refused, again_of}
use Rattle.cycles.proofs.Again.{all_again, at_once, again, all_done, no_words}
use Rattle.cycles.proofs.play.Goals as goal

pub returns-then-count-eq0 : goal.returns-then-count-eq0
returns-then-count-eq0 c = record { ends = λ bs of. no_words c.if-count-eq0.true }

-- The rows can be laid out.
pub turn-requires-clause-arcless : goal.turn-requires-clause-arcless
turn-requires-clause-arcless c =
    let of = c.requires.of in
    (lay_asks of.net_of (omega (arith, of.enough, of.sizes.rows_are))).arcless

pub rivals-lower-requires : goal.rivals-lower-requires
rivals-lower-requires c =
    let of = c.requires.of in
    rw c.transitions.ensures
    (c.turn.ensures, (lay_asks of.net_of (omega (arith, of.enough, of.sizes.rows_are))).pairs)

pub lay-net-requires : goal.lay-net-requires
lay-net-requires c =
    let of = c.requires.of in
    (lay_asks of.net_of (omega (arith, of.enough, of.sizes.rows_are)), c.rivals-lower.ensures)

pub cycles-requires : goal.cycles-requires
cycles-requires c =
    record { bs = c.requires.bs; of = all_of c.requires.of c.lay-net.ensures; words = c.lay-net.ensures.words }

pub returns-in-Ok : goal.returns-in-Ok
returns-in-Ok c =
    record {
      ends = λ bs of. all_done c.if-count-eq0.false (c.in-Ok.ensures.comes bs (all_of of c.lay-net.ensures));
    }

-- The cycles before the refused one can be done again.
pub cycles-requires-then-done-ne0 : goal.cycles-requires-then-done-ne0
cycles-requires-then-done-ne0 c =
    let lays = c.lay-net.ensures in
    record {
      bs = c.requires.bs;
      of = again_of c.requires.of lays c.in-Err.ensures c.cycles.auto.report;
      words = lays.words;
    }

pub unwrap-requires : goal.unwrap-requires
unwrap-requires c =
    let of = c.requires.of in
    let lays = c.lay-net.ensures in
    let broke = refused of lays c.in-Err.ensures in
    let runs = again_of of lays c.in-Err.ensures c.cycles.auto.report in
    (all_again broke.1 broke.2 c.cycles-then-done-ne0.ensures runs).0

pub returns-then-done-ne0 : goal.returns-then-done-ne0
returns-then-done-ne0 c =
    record {
      ends = λ bs of.
          let lays = c.lay-net.ensures in
          let broke = refused of lays c.in-Err.ensures in
          let runs = again_of of lays c.in-Err.ensures c.cycles.auto.report in
          again broke.1 c.if-done-ne0.true (all_again broke.1 broke.2 c.cycles-then-done-ne0.ensures runs).1;
    }

pub returns-else-done-ne0 : goal.returns-else-done-ne0
returns-else-done-ne0 c =
    record {
      ends = λ bs of.
          let broke = refused of c.lay-net.ensures c.in-Err.ensures in
          at_once broke.1 broke.2 c.if-done-ne0.false;
    }
