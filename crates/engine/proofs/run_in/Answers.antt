-- The rows are enough; a refused table is the answer, and behind an accepted one run proceeds.
use native.Mathlib.Omega.{arith}
use Rattle.std.proofs.lemmas.Result.{err_from_is_err_and}
use Rattle.engine.proofs.Room.{room, goes_on}
use Rattle.engine.proofs.Starts.{not_0}
use Rattle.engine.proofs.Runs.{refused_by_table}
use Rattle.engine.proofs.run_in.Goals as goal

pub judge-requires-clause-judge_asks : goal.judge-requires-clause-judge_asks
judge-requires-clause-judge_asks g c = room c.requires.roomy

pub returns-in_err-known : goal.returns-in_err-known
returns-in_err-known g c =
    let gone = err_from_is_err_and c.from_residual.result c.from_residual.ensures.1 in
    rw (gone.1, gone.2) (refused_by_table _ _ _ _ c.in_err-known.ensures.answer (not_0 c.in_err-known.field-0.0))

-- The rows of an accepted table.
pub proceed-requires : goal.proceed-requires
proceed-requires g c =
    record {
      bs = _;
      of = goes_on c.requires.roomy c.in_ok-known.ensures (omega arith) (omega arith) (omega arith) (omega arith);
    }

pub returns : goal.returns
returns g c =
    c.proceed.ensures.ran _
    (goes_on c.requires.roomy c.in_ok-known.ensures (omega arith) (omega arith) (omega arith) (omega arith))
