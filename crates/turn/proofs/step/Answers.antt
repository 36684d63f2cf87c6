-- Each part says of the rows what the law `Whole` carries to the table.
use mathlib.Core.Path.{◌≡◌, ◌∙◌}
use mathlib.Core.Bool.{◌&&◌, ◌||◌}
use Prim.Native.Nat.{ℕ}
use native.Mathlib.Omega.{arith}
use lib.Bits.{bit_and}
use Rattle.std.proofs.Common.{rules}
use Rattle.meaning.specs.Bytes.{bit}
use Rattle.sets.proofs.Bits.{bit-and}
use Rattle.firing.proofs.Meaning.{ranks, housed}
use Rattle.turn.proofs.Firable.{firable_asks}
use Rattle.turn.proofs.Whole.{Told, tally_asks, settle_asks, stepped, poised}
use Rattle.turn.proofs.step.Goals as goal

pub returns : goal.returns
returns c =
    let a = c.args in
    let told : Told a.net.now a.state.now a.word a.kept.now a.moves.now c.fall-ready.new.counters
    c.gather-seen.result.held c.gather-seen.result.actions c.less-on.result c.fall-ready.result c.firable-able.result
    c.fired-fired.result =
    record {
      poised = c.requires.poised;
      shut_is = c.gather-seen.ensures.held;
      shown_is = c.gather-seen.ensures.shown;
      on_is = c.less-on.ensures;
      raises = c.fall-ready.ensures.raises;
      ready_is = c.fall-ready.ensures.ready;
      able_is = c.firable-able.ensures;
      low_set = omega arith;
      fires_it = c.fired-fired.ensures;
    } in
    let orders : (t : ℕ)
    → bit (bit_and a.net.now.timed c.union.result) t
    ≡ (bit a.net.now.timed t && (bit c.fired-fired.result t || bit c.settle-settled.result.starved t)) =
    λ t. bit-and a.net.now.timed c.union.result t ∙ rw (c.union.ensures t) in
    let tallied = c.tally-moved.ensures in
    let settles = c.settle-settled.ensures in
    record {
      stepped = λ bs laid. stepped laid told tallied settles (omega arith) (omega arith) _ orders;
      poised = poised c.requires.laid told tallied settles _;
    }

pub firable-able-requires : goal.firable-able-requires
firable-able-requires c = firable_asks c.requires.laid

pub fired-fired-requires : goal.fired-fired-requires
fired-fired-requires c =
    let laid = c.requires.laid in
    (housed laid.net_of laid.rivals laid.sizes, ranks laid.net_of laid.rivals)

pub tally-moved-requires : goal.tally-moved-requires
tally-moved-requires c =
    let a = c.args in
    let told : Told a.net.now a.state.now a.word a.kept.now a.moves.now c.fall-ready.new.counters
    c.gather-seen.result.held c.gather-seen.result.actions c.less-on.result c.fall-ready.result c.firable-able.result
    c.fired-fired.result =
    search rules in
    tally_asks c.requires.laid told

pub settle-settled-requires : goal.settle-settled-requires
settle-settled-requires c =
    let a = c.args in
    let told : Told a.net.now a.state.now a.word a.kept.now a.moves.now c.fall-ready.new.counters
    c.gather-seen.result.held c.gather-seen.result.actions c.less-on.result c.fall-ready.result c.firable-able.result
    c.fired-fired.result =
    search rules in
    settle_asks c.requires.laid told c.tally-moved.ensures
