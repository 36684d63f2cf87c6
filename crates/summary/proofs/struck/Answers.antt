-- Only a record of kind 2 strikes a number, and only one that a set can have.
use mathlib.Core.Bool.{Bool, true, false, not, ◌&&◌, and-true}
use mathlib.Core.Logic.{⊎_elim}
use mathlib.Core.Path.{◌≡◌, refl, sym}
use Prim.Native.Nat.{◌≤◌}
use native.Mathlib.Omega.{arith}
use lib.Dec.{eqb}
use borrow.Author.Tests.{eq-eqb, ne_eqb, eqb-true}
use Rattle.meaning.specs.Bytes.{bit}
use Rattle.sets.proofs.Bits.{bit_out}
use Rattle.summary.proofs.struck.Goals as goal

pub returns-else-kind : goal.returns-else-kind
returns-else-kind c k =
    let a = c.args in
    ⊎_elim (λ (kind, high). rw (eq-eqb _ 2 kind) (out high (eqb a.one k) refl))
    (λ other. rw (ne_eqb _ 2 other) (sym (and-true _))) c.else-kind.either
  where
    out : 64 ≤ c.args.one → (b : Bool) → eqb c.args.one k ≡ b → bit c.args.s k ≡ (bit c.args.s k && not b)
    out high true e =
        rw (bit_out c.args.s k (omega arith) (omega (arith, high, eqb-true c.args.one k e)))
    out high false e = sym (and-true _)
