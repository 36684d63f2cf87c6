-- `least` finds the least unsettled pair: for each i, whoever was taken out of its row makes no unsettled pair with
-- i, and the lowest left is the next; no transition of a pair is past the numbers below n.
use mathlib.Core.Path.{ap, ◌∙◌}
use Prim.Native.Nat.{ℕ}
use native.Mathlib.Omega.{arith}
use lib.ListN.{get_or}
use Rattle.meaning.specs.Bytes.{bit}
use Rattle.meaning.proofs.Below.{first_before}
use Rattle.meaning.proofs.Reflect.{not_true_false}
use Rattle.sets.proofs.Bits.{bit_zero}
use Rattle.conflict.proofs.Candidates.{up_to, found, not_found}
use Rattle.conflict.proofs.least.Goals as goal

pub returns-then-not-settled : goal.returns-then-not-settled
returns-then-not-settled c =
    let a = c.args in
    let at = c.loop-j.invariant in
    let k = c.in-Some.ensures.steps in
    found a.pairs.now a.rows.now a.w.now a.s.now a.n c.search.i c.in-Some.j c.settled.result (omega arith) k.low
    (up_to a.pairs.now a.rows.now a.w.now a.s.now a.n c.search.i c.in-Some.j (omega (arith, k.low))
    c.search.invariant.1
    (λ m l. at.1 m (omega (arith, k.low)) (first_before 64 (bit c.loop-j.j-iterator.left) m (rw k.lowest at l))))
    (at.2 _ k.member) c.settled.ensures (rw c.if-not-settled.true)

pub search-preserved : goal.search-preserved
search-preserved c =
    let a = c.args in
    let at = c.loop-j.invariant in
    let all = up_to a.pairs.now a.rows.now a.w.now a.s.now a.n c.search.i 64 (omega arith) c.search.invariant.1
    (λ k l. at.1 k l (ap (λ (x : ℕ). bit x k) c.in-None.ensures.steps.0 ∙ bit_zero k)) in
    (at.0, λ k m. all k (omega arith))

pub returns-after-search : goal.returns-after-search
returns-after-search c =
    let a = c.args in
    rw c.search.invariant.0
    (not_found a.pairs.now a.rows.now a.w.now a.s.now a.n c.search.i
    (λ k j past h low. not_true_false (bit (get_or a.pairs.now k 0) j)
    (λ e. omega (arith, (c.requires.pairs_low k j h low e).0)))
    c.search.invariant.1)
