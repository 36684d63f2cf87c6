-- Some number behind the cycles is above them.
use Rattle.std.proofs.Common.{rules}
use mathlib.Core.Path.{◌∙◌}
use Prim.Native.Nat.{ℕ}
use native.Mathlib.Omega.{arith}
use lib.Dec.{ltb}
use lib.ListN.{take, drop}
use Rattle.std.proofs.lemmas.Iterator.{YieldsList-from_slice}
use Rattle.std.proofs.lemmas.Iterator.Search.{any_from_yields_List}
use Rattle.summary.specs.Day.{cycles_of, too_often}
use Rattle.summary.proofs.Counting.{some_behind}
use Rattle.summary.proofs.fires_too_often.Goals as goal

pub returns : goal.returns
unfolding too_often
returns c =
    let s = c.args.s.now in
    let above = λ (n : ℕ). ltb (cycles_of s) n in
    any_from_yields_List above _ _ _ c.any.ensures.ran (YieldsList-from_slice (take 64 (drop 1 s)) c.iter.ensures.rest)
    (λ x b q k. search rules)
    ∙ some_behind above s 64 (omega arith)
