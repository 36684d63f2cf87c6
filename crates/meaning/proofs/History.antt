-- The history of a marking: each finished cycle leaves at a place what it found less what its fired set took and plus
-- what it put, so all together do.
use mathlib.Core.List.{List}
use mathlib.Core.Path.{◌≡◌, ap, ◌∙◌}
use Prim.Native.Nat.{ℕ, zero, suc, ◌+◌, ◌*◌, ◌-◌, ◌≤◌, ◌<◌}
use native.Mathlib.Nat.{add-zero, le_refl}
use native.Mathlib.Omega.{arith}
use lib.ListN.{get_or}
use Rattle.meaning.specs.Below.{sum}
use Rattle.meaning.specs.Table.{table}
use Rattle.meaning.specs.Image.{State, state, image}
use Rattle.meaning.specs.Cycle.{withdrawn, added}
use Rattle.meaning.specs.Calls.{run}
use Rattle.meaning.specs.Steps.{Steps, Reaches}
use Rattle.meaning.specs.Rules.{StateSpelt}
use Rattle.meaning.specs.Finished.{Finished}
use Rattle.meaning.specs.History.{tokens_in, fired_set, History}
use Rattle.meaning.proofs.Spelt.{state_spelt}
use Rattle.meaning.proofs.Rising.{withdrawn_is, added_is}
use Rattle.meaning.proofs.Run.{words}
use Rattle.meaning.proofs.Finished.{reached_once, finished, image_reached}

-- The tokens that bytes spell are those of the state.
pub tokens_spelt : (img : List ℕ) (s : State) → StateSpelt img s → (p : ℕ) → p < 128 → s.tokens p ≡ tokens_in img p
tokens_spelt img s spelt p h =
    spelt.tokens p h ∙ ap (λ (i : ℕ). get_or img i 0 + 256 * get_or img (i + 1) 0) (add-zero (4 * p))

-- One finished cycle.
cycle_balances : (bs img ws out : List ℕ) (k : ℕ) (c : Finished bs img ws out (suc k)) (p : ℕ) → p < 128
    → tokens_in c.after p + withdrawn (table bs) (fired_set out k) p
    ≡ tokens_in c.before p + added (table bs) (fired_set out k) p
cycle_balances bs img ws out k c p h =
    let m = c.turn.marking p in
    omega (
      arith,
      m.holds,
      (withdrawn_is (table bs) (fired_set out k) p m.taken).1 m.takes,
      (added_is (table bs) (fired_set out k) p m.put).1 m.puts,
      tokens_spelt c.after c.next c.after_spells p h,
      tokens_spelt c.before (state (image c.before)) (state_spelt c.before) p h,
    )

module _ (bs img ws report : List ℕ) where
  -- So many finished cycles of a run.
  cycles_balance : (n : ℕ) → n ≤ (run bs img ws report).answer.cycles → (there : List ℕ)
      → Reaches (table bs) (words ws) img n there → (p : ℕ) → p < 128
      → tokens_in there p + sum n (λ j. withdrawn (table bs) (fired_set (run bs img ws report).report j) p)
      ≡ tokens_in img p + sum n (λ j. added (table bs) (fired_set (run bs img ws report).report j) p)
  unfolding sum
  cycles_balance zero l there (left, bytes, steps) p h =
      ap (λ (x : List ℕ). tokens_in x p + 0) (reached_once steps (Steps.none {ws = words ws} {img = img}))
  cycles_balance (suc n) l there (left, bytes, steps) p h =
      let c = finished bs img ws report (suc n) (omega arith) l in
      let this : suc n - 1 ≡ n = omega arith in
      let earlier = cycles_balance n (omega (arith, l)) c.before (rw this at c.before_is) p h in
      rw (reached_once steps c.after_is.2)
      (omega (arith, earlier, cycle_balances bs img ws (run bs img ws report).report n c p h))

  -- All finished cycles of a run, however it ended: refused before any cycle, there are none.
  pub run_history : History (table bs) (run bs img ws report).report (run bs img ws report).answer.cycles
      (tokens_in img) (tokens_in (run bs img ws report).image)
  run_history = record { balances = cycles_balance _ (le_refl _) _ (image_reached bs img ws report) }
