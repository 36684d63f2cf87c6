-- The loop keeps what the records passed move, and that each moves no more than a weight times a count.
use mathlib.Core.Path.{◌≡◌, sym, ap, ap₂, ◌∙◌}
use Prim.Native.Nat.{ℕ, suc, ◌+◌, ◌/◌}
use native.Mathlib.Numerals.{add-one}
use native.Mathlib.Omega.{arith}
use lib.ListN.{length, length-replicate, get_or-replicate}
use Rattle.meaning.specs.Below.{sum}
use Rattle.meaning.specs.Table.{table, total}
use Rattle.summary.specs.Day.{moved}
use Rattle.summary.proofs.Counting.{read_shift}
use Rattle.summary.proofs.flow.moves.Invariants.{so_far}
use Rattle.summary.proofs.flow.moves.Goals as goal

pub loop-r-init : goal.loop-r-init
unfolding sum
loop-r-init c = (
  length-replicate {A = ℕ} 128 0,
  λ p h. get_or-replicate {A = ℕ} 128 p 0 0 h,
  λ p h. omega (arith, get_or-replicate {A = ℕ} 128 p 0 0 h),
)

pub shift-requires : goal.shift-requires
unfolding table
shift-requires c =
    let at = c.loop-r in
    let x = c.read.ensures in
    record {
      size = at.invariant.0;
      low =
          λ k.
          let low = c.requires.low_arcs at.r (omega arith) (sym x.kind ∙ k) in
          (omega (arith, x.one, low.0), omega (arith, x.two, low.1));
      room = λ p h. omega (arith, at.invariant.2 p h, c.requires.t_len_bound);
    }

pub loop-r-preserved : goal.loop-r-preserved
unfolding sum
loop-r-preserved c =
    let at = c.loop-r in
    let a = c.args in
    let next : at.r + 1 ≡ suc at.r = add-one at.r in (
      c.shift.ensures.size,
      λ p h.
          c.shift.ensures.adds p h
          ∙ ap₂ (λ (m n : ℕ). m + n) (at.invariant.1 p h)
          (read_shift (table a.t.now) at.r a.sort a.s.now p _ c.read.ensures)
          ∙ ap (so_far a.t.now a.sort a.s.now p) (sym next),
      λ p h. omega (arith, c.shift.ensures.most p h, at.invariant.2 p h),
    )

pub returns : goal.returns
unfolding moved total table
returns c =
    let at = c.loop-r in
    let a = c.args in
    let all : at.r ≡ length a.t.now / 8 = omega arith in
    record {
      size = at.invariant.0;
      moves = λ p h. at.invariant.1 p h ∙ ap (so_far a.t.now a.sort a.s.now p) all;
      most = λ p h. omega (arith, at.invariant.2 p h, all, c.requires.t_len_bound);
    }
