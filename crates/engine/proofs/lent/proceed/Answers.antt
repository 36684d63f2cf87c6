-- What is said of the lent bytes is the answer; where nothing is, what the cycles leave is what run leaves.
use mathlib.Core.Path.{sym, ap}
use Rattle.std.proofs.lemmas.Result.{err_from_is_err_and}
use Rattle.meaning.specs.Answer.{Answer}
use Rattle.engine.proofs.Starts.{not_0}
use Rattle.engine.proofs.Runs.{plays, ready, refused_by_lent, ran_through}
use Rattle.engine.proofs.lent.proceed.Goals as goal

pub returns-in_err-judge_lent : goal.returns-in_err-judge_lent
returns-in_err-judge_lent c =
    let gone = err_from_is_err_and c.from_residual.result c.from_residual.ensures.1 in
    let said = c.in_err-judge_lent in
    rw (gone.1, gone.2) (record { ran = λ bs of. refused_by_lent bs _ _ _ of said.ensures (not_0 said.field-0.0) })

pub play-requires : goal.play-requires
play-requires c =
    let asks = c.requires in
    let none = ap (λ (a : Answer). a.number) (sym c.in_ok-judge_lent.ensures) in
    record { bs = asks.bs; of = plays asks.of (ready asks.bs _ _ _ asks.of none) }

pub returns : goal.returns
returns c =
    record {
      ran =
          λ bs of.
          let none = ap (λ (a : Answer). a.number) (sym c.in_ok-judge_lent.ensures) in
          ran_through bs _ _ _ of none (c.play.ensures.ends bs (plays of (ready bs _ _ _ of none)));
    }
