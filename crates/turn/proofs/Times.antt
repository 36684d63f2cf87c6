-- What the rows say of a transition's times is the meaning's: its counter after the falling edge, and when it is in
-- time.
use mathlib.Core.Bool.{cond, not, ◌&&◌, ◌||◌}
use mathlib.Core.List.{List}
use mathlib.Core.Path.{◌≡◌}
use Prim.Native.Nat.{ℕ, ◌≤◌, ◌<◌}
use native.Mathlib.Omega.{arith}
use lib.Dec.{eqb}
use Rattle.std.proofs.lemmas.Bool.Decides.{nat_tests}
use Rattle.meaning.specs.Bytes.{bit}
use Rattle.meaning.specs.Table.{Table, transition, timing}
use Rattle.meaning.specs.Image.{State}
use Rattle.meaning.specs.Cycle.{enabled, risen, counted, in_time}
use Rattle.meaning.proofs.Sound.{SoundTable}
use Rattle.rows.specs.Rows.{first_of, limit_of, last_of}
use Rattle.rows.specs.Filed.{Timed}
use Rattle.rows.proofs.Times.{untimed, first_is, limit_is, last_is, limit_timed, limit_low}
use Rattle.edge.specs.Edges.{raised, in_span, next_count}

module _ {tb : Table} (sound : SoundTable tb) (t : ℕ) {times : List ℕ} (filed : Timed tb tb.records times)
    (l : t < 64) where
  -- The counter after the falling edge.
  pub count_is : (s : State) (orders on timed c : ℕ) → c ≡ s.counter t → bit orders t ≡ s.order t
      → bit timed t ≡ not (eqb (limit_of times t) 0)
      → bit on t ≡ (transition tb t && enabled tb s.tokens t)
      → cond (bit timed t) (next_count orders on times t c) c ≡ counted tb s t
  unfolding counted risen raised
  count_is s orders on timed c c_is order_is timed_is on_is =
      rw (timed_is, limit_timed sound t filed l, c_is, order_is, on_is, limit_is sound t filed l)
      (grind (arith, nat_tests, untimed sound t))

  -- A counter that fits two bytes still does.
  pub count_low : (orders on timed c : ℕ) → c ≤ 65535 → cond (bit timed t) (next_count orders on times t c) c ≤ 65535
  unfolding raised
  count_low orders on timed c small = grind (arith, nat_tests, limit_low sound t filed l)

  -- To be untimed or ready is to be in time.
  pub in_time_is : (c : ℕ) → c ≤ 65535 → (eqb (timing tb t) 0 || in_span (first_of times t) (last_of times t) c)
      ≡ in_time tb c t
  unfolding in_time
  in_time_is c small =
      rw (first_is sound t filed l, last_is sound t filed l) (grind (arith, nat_tests))
