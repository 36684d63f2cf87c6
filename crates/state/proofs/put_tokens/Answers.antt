-- The record's byte 1 is the place, and its bytes 4 and 5 are the tokens.
use mathlib.Core.Path.{◌≡◌, ◌∙◌}
use native.Mathlib.Omega.{arith}
use Rattle.meaning.specs.Table.{table}
use Rattle.records.proofs.Columns.{inside}
use Rattle.state.proofs.put_tokens.Goals as goal

pub returns : goal.returns
returns c =
    let read = inside c.args.t.now c.args.r (omega (arith, c.requires.0)) in
    let four : c.two.result ≡ (table c.args.t.now).four c.args.r = c.two.ensures ∙ read.four in
    c.put_two.ensures ∙ rw (c.from-place.ensures, read.one, c.from-tokens.ensures, four)
