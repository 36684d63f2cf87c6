-- `reached` looks at one after the other of those left: a turn finds the row of one more, and with nobody left all are
-- found.
use mathlib.Core.Bool.{true, not, ◌&&◌, ◌||◌}
use mathlib.Core.List.{List}
use mathlib.Core.Path.{◌≡◌, sym, ap, ◌∙◌}
use Prim.Native.Nat.{ℕ, ◌<◌}
use native.Mathlib.Omega.{arith}
use lib.Dec.{eqb}
use Rattle.meaning.specs.Below.{first}
use Rattle.meaning.specs.Bytes.{bit}
use Rattle.meaning.proofs.Below.{first_passes}
use Rattle.closure.proofs.Chains.{ends_low}
use Rattle.closure.proofs.Walk.{set_out, arrived, fresh, Turn, goes_on, one_fewer}
use Rattle.closure.proofs.reached.Goals as goal

-- The lowest of those left is one of them.
member : (left k : ℕ) → (k < 64) × (first 64 (bit left) ≡ k) → bit left k ≡ true
member left k is = ap (bit left) (sym is.1) ∙ first_passes 64 (bit left) (rw is.1 is.0)

-- A turn is done.
turn : {rows : List ℕ} (all left k more all' rest left' : ℕ) → (k < 64) × (first 64 (bit left) ≡ k)
    → ((j : ℕ) → bit more j ≡ fresh rows all k j) → ((j : ℕ) → bit all' j ≡ (bit all j || bit more j))
    → ((j : ℕ) → bit rest j ≡ (bit left j && not (eqb (first 64 (bit left)) j)))
    → ((j : ℕ) → bit left' j ≡ (bit rest j || bit more j)) → Turn rows all left k all' left'
turn all left k more all' rest left' is new all_is rest_is left_is =
    record {
      low = is.0;
      member = member left k is;
      found = λ j. rw (all_is j, new j);
      remain = λ j. rw (left_is j, new j, rest_is j, is.1);
    }

pub loop-k-preserved : goal.loop-k-preserved
loop-k-preserved c =
    goes_on c.loop-k.invariant
    (turn _ _ _ _ _ _ _ c.in-Some.ensures c.less-more.ensures c.union-all.ensures c.rest.ensures c.union-left.ensures)

pub loop-k-smaller : goal.loop-k-smaller
loop-k-smaller c =
    one_fewer c.loop-k.invariant
    (turn _ _ _ _ _ _ _ c.in-Some.ensures c.less-more.ensures c.union-all.ensures c.rest.ensures c.union-left.ensures)

pub loop-k-init : goal.loop-k-init
loop-k-init c = set_out (omega (arith, c.requires.inside, c.requires.low.few))

-- Whom the walk looks at stands below t, and so has its row.
pub bounds-rows-k : goal.bounds-rows-k
bounds-rows-k c =
    let k = c.in-Some.ensures in
    let walk = c.loop-k.invariant in
    let leads = walk.chained _ k.0 (walk.among _ (member _ _ k)) in
    omega (arith, ends_low c.requires.low leads, c.requires.low.there)

pub returns : goal.returns
returns c = arrived c.loop-k.invariant c.in_default.ensures
