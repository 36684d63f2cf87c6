-- From m on a row has no bit, and as it is one word it is 0.
use mathlib.Core.Bool.{not}
use mathlib.Core.Path.{sym, ap, ◌∙◌}
use Prim.Native.Nat.{◌+◌, ◌*◌, ◌^◌, ◌<◌}
use native.Mathlib.Omega.{arith}
use lib.Dec.{eqb}
use borrow.Author.Tests.{eq-eqb}
use Rattle.sets.proofs.Bits.{bit_zero, same_set}
use Rattle.sets.proofs.Walk.{below_end}
use Rattle.rows.specs.Rows.{looks}
use Rattle.cycles.proofs.conditional.Goals as goal

pub returns-clause-tells : goal.returns-clause-tells
returns-clause-tells c t h =
    let rows = c.args.rows.now in
    c.loop-t.invariant t
    ∙ below_end c.loop-t.t (λ k. not (eqb (looks rows k) 0)) t
    (λ past.
    let word : looks rows t < 2 ^ 64 = omega (arith, c.type_inv.rows (8 * t + 4)) in
    ap not
    (eq-eqb (looks rows t) 0
    (same_set (looks rows t) 0 word (omega arith)
    (λ k l. c.requires.none_past t k (omega arith) h l ∙ sym (bit_zero k)))))
