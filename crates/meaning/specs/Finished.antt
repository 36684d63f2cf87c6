-- What a caller may hold of each finished cycle of a run, from the bytes alone: which word and which image it
-- began with, that it was one cycle by the rules, that lookup hands back its three sets, that it was safe
-- (demand 3), and which image it left.
use Rattle.std.specs.Prelude.{Bool, true, List, ◌↔◌, ◌≡◌, ℕ, ◌-◌, ◌/◌, ◌<◌, length, take, drop}
use Rattle.meaning.specs.Bytes.{number, bit}
use Rattle.meaning.specs.Table.{table}
use Rattle.meaning.specs.Image.{State, state, image}
use Rattle.meaning.specs.Cycle.{cycle}
use Rattle.meaning.specs.Calls.{words_of, lookup}
use Rattle.meaning.specs.Says.{ImageFits}
use Rattle.meaning.specs.Orders.{Order, OneByOne, Safe}
use Rattle.meaning.specs.Steps.{Reaches}
use Rattle.meaning.specs.Rules.{WordSpelt, StateSpelt, Fires, Turn}

-- The three sets that a record of 24 bytes spells: fired transitions, active actions, executed functions.
abbrev pub fired_in : List ℕ → ℕ
fired_in part = number (take 8 part)

abbrev pub actions_in : List ℕ → ℕ
actions_in part = number (take 8 (drop 8 part))

abbrev pub functions_in : List ℕ → ℕ
functions_in part = number (take 8 (drop 16 part))

-- Cycle k, counted from 1, of a run over this table, image and words that left this report.
pub record Finished (bs img ws report : List ℕ) (k : ℕ) : Type 0 where
  -- its word stands in eight bytes of the words, and it began with the image that the cycles before it left
  pub word : ℕ
  pub word_is : WordSpelt ws (k - 1) word
  pub before : List ℕ
  pub before_is : Reaches (table bs) (words_of (length ws / 8) ws) img (k - 1) before
  -- the state after it, spelt by the image after it, which fits again
  pub next : State
  pub after : List ℕ
  pub after_is : Reaches (table bs) (words_of (length ws / 8) ws) img k after
  pub after_spells : StateSpelt after next
  pub after_fits : ImageFits (table bs) after
  -- it was one cycle by the rules, whose sets are the bits of the record that lookup hands back
  pub turn : Turn (table bs) (state (image before)) word (bit (fired_in (lookup report k)))
      (bit (actions_in (lookup report k))) (bit (functions_in (lookup report k))) next
  -- no second set meets definition 6
  pub only : (F : ℕ → Bool)
      → ((t : ℕ) → (F t ≡ true) ↔ Fires (table bs) (state (image before)).tokens next.counter word F t)
      → (t : ℕ) → F t ≡ bit (fired_in (lookup report k)) t
  -- demand 3: the start marking pays for all, each member finds what it takes in every order, every order has
  -- one end, and the image after it holds that
  pub safe : Safe (table bs) before word
  pub ends_there : (order : List ℕ) (m' : ℕ → ℕ) → Order order (cycle (table bs) before word).fired
      → OneByOne (table bs) (state (image before)).tokens order m'
      → (p : ℕ) → p < 128 → (state (image after)).tokens p ≡ m' p
