-- Each turn is one step of the meaning's run.
use mathlib.Core.Path.{◌≡◌, refl}
use native.Mathlib.Numerals.{add-one}
use native.Mathlib.Omega.{arith}
use Rattle.state.proofs.Read.{empty_row}
use Rattle.turn.proofs.Rows.{no_bit}
use Rattle.cycles.proofs.Turns.{load_asks, save_asks, begins, idle, finished, bursts, turned}
use Rattle.cycles.proofs.cycles.Goals as goal

pub load-requires : goal.load-requires
load-requires c = load_asks c.requires.of

pub level-requires : goal.level-requires
level-requires c =
    let load = c.load.ensures in
    let of = c.requires.of in
    let net = of.laid.net_of in
    record {
      few = net.few;
      rows_there = of.laid.sizes.rows_are;
      weights_there = of.laid.sizes.weights_are;
      sorts_there = of.laid.sizes.sorts_are;
      tokens_low = load.small.few_tokens;
      no_token = (idle of (begins of load)).no_tokens;
      no_arc = λ p t h l. no_bit net 0 p t (omega arith) h l;
      words = c.requires.words;
      none_held = refl;
      none_active = refl;
      none_lacking = refl;
      none_from = refl;
      none_upto = refl;
    }

pub loop-i-init : goal.loop-i-init
loop-i-init c =
    let load = c.load.ensures in
    record {
      within = omega arith;
      at = λ bs of. begins of load;
      poised =
          record {
            tokens_low = load.small.few_tokens;
            counters_low = load.small.low_counters;
            levels_hold = c.level.ensures;
            none_taken = λ p h. (empty_row 128 _ refl).1 p;
            none_put = λ p h. (empty_row 128 _ refl).1 p;
          };
    }

pub returns-in-Some : goal.returns-in-Some
returns-in-Some c =
    record {
      comes = λ bs of. (
        c.loop-i-test.true,
        bursts of (c.loop-i.invariant.at bs of) c.loop-i-test.true c.eight-word.ensures
            (c.step-r.ensures.stepped bs of.laid) c.in-Some.is,
        refl,
      );
    }

pub loop-i-preserved : goal.loop-i-preserved
loop-i-preserved c =
    record {
      within = omega (arith, c.loop-i-test.true);
      at = λ bs of.
          rw add-one
          (turned of (c.loop-i.invariant.at bs of) c.loop-i-test.true c.eight-word.ensures
          (c.step-r.ensures.stepped bs of.laid) c.in_default.is c.write.ensures);
      poised = c.step-r.ensures.poised c.in_default.is;
    }

pub save-requires : goal.save-requires
save-requires c = save_asks c.requires.of (c.loop-i.invariant.at _ c.requires.of)

pub returns : goal.returns
returns c =
    let at = c.loop-i in
    let all : at.i ≡ c.args.count = omega (arith, c.loop-i-test.false, at.invariant.within) in
    record { comes = λ bs of. finished of (rw all at (at.invariant.at bs of)) c.save.ensures }
