-- The loop keeps that no record before r has a fault, and that they are all filed; a record with a fault ends it.
use mathlib.Core.List.{List}
use mathlib.Core.Path.{◌≡◌, ap, ◌∙◌}
use Prim.Native.Nat.{ℕ, ◌*◌, ◌/◌, ◌≤◌, ◌<◌}
use native.Mathlib.Numerals.{add-one}
use native.Mathlib.Omega.{arith}
use lib.ListN.{length, replicate, length-replicate}
use Rattle.std.proofs.Common.{Option, None, Some, Err, ok_or, MatchOption}
use Rattle.std.proofs.lemmas.Option.{MatchOption-at_some}
use Rattle.std.proofs.lemmas.Result.{err_from_is_err_and}
use Rattle.meaning.specs.Table.{table}
use Rattle.scan.proofs.Sound.{one_there}
use Rattle.scan.proofs.Passed.{passed_none, passed_one, ends_own, ends_again, ends_all}
use Rattle.scan.proofs.scan.Goals as goal

-- A record before the last of the count is one of the table; and one that is not ends it.
inside : (bs : List ℕ) (r : ℕ) → r < length bs / 8 → r < (table bs).records
unfolding table
inside bs r h = h

all : (bs : List ℕ) (r : ℕ) → r ≤ length bs / 8 → length bs / 8 ≤ r → r ≡ (table bs).records
unfolding table
all bs r h l = omega (arith, h, l)

-- What is an error because there was nothing.
nothing : {T E : Type 0} (o : Option T) (d e : E) (P : Type 0) (Q : T → Type 0) → Err e ≡ ok_or o d
    → MatchOption o P Q → (e ≡ d) × P
nothing None d e P Q q m = (cc, m)
nothing (Some x) d e P Q q m = absurd (cc)

pub loop-r-init : goal.loop-r-init
loop-r-init c = passed_none _ c.default-known.result c.requires.blank c.default-known.ensures

pub keep-requires-clause-keep_asks : goal.keep-requires-clause-keep_asks
keep-requires-clause-keep_asks c =
    let at = c.loop-r in
    let reads = c.read-x.ensures in
    let blank = c.requires.blank in
    let here = inside c.args.t.now at.r c.loop-r-test.true in
    let one = blank.roomy at.r here (rw reads.one at (one_there _ c.in_ok-kind.ensures.0)) in
    let rows_long = ap length blank.no_rows ∙ length-replicate {A = ℕ} (8 * length c.args.w.now) 0 in
    let sorts_long =
    ap length blank.no_sorts ∙ length-replicate (length c.args.w.now) (replicate {A = ℕ} 64 0) in
    record {
      sound = c.in_ok-kind.ensures.0;
      rows_there = omega (arith, reads.one, one, at.auto.rows, rows_long);
      weights_there = omega (arith, reads.one, one, at.auto.w);
      sorts_there = omega (arith, reads.one, one, at.auto.s, sorts_long);
      heads_size = at.invariant.heads_size;
      few = omega (arith, c.requires.t_len_bound, c.loop-r-test.true);
      posts_there = omega (arith, here, blank.posts_there, at.auto.posts);
      times_size = at.invariant.times_size;
    }

pub returns-in_err-kind : goal.returns-in_err-kind
returns-in_err-kind c =
    let at = c.loop-r in
    let gone = err_from_is_err_and c.from_residual.result c.from_residual.ensures.1 in
    let fault = c.in_err-kind.ensures in
    rw (gone.1, gone.2)
    (ends_own at.invariant c.read-x.ensures (inside _ at.r c.loop-r-test.true) fault.0 fault.1)

pub returns-in_err-known : goal.returns-in_err-known
returns-in_err-known c =
    let at = c.loop-r in
    let gone = err_from_is_err_and c.from_residual-in_err-known.result c.from_residual-in_err-known.ensures.1 in
    let again = nothing c.keep.result _ _ _ _ c.in_err-known.ensures.value c.keep.ensures.told in
    rw (gone.1, gone.2, again.0)
    (ends_again at.invariant c.read-x.ensures c.in_ok-kind.ensures.0 (inside _ at.r c.loop-r-test.true) again.1)

pub loop-r-preserved : goal.loop-r-preserved
loop-r-preserved c =
    let at = c.loop-r in
    let kept = MatchOption-at_some _ _ c.in_ok-known.known c.in_ok-known.ensures.ok_part c.keep.ensures.told in
    rw (add-one at.r)
    (passed_one at.invariant c.read-x.ensures c.in_ok-kind.ensures.0 kept.0 kept.1 c.keep.ensures.room)

pub returns : goal.returns
returns c =
    let at = c.loop-r in
    ends_all at.invariant (all _ at.r at.auto.r-end c.loop-r-test.false)
