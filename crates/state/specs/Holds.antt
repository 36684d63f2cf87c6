-- The state that the arrays hold, what it is to hold a state, and what loading and saving ask and give.
use Rattle.std.specs.Prelude.{List, ◌≡◌, ℕ, ◌≤◌, ◌<◌, length, get_or}
use Rattle.meaning.specs.Bytes.{bit}
use Rattle.meaning.specs.Image.{State, image, state}
use Rattle.state.specs.declared.State.{State as Arrays}
use Rattle.state.specs.Records.{BlankPast}

-- The state that the arrays hold.
abbrev pub held : List ℕ → List ℕ → ℕ → State
held tokens counters orders =
    record { tokens = λ p. get_or tokens p 0; counter = λ t. get_or counters t 0; order = λ t. bit orders t }

-- The arrays hold the state s.
pub record Holds (tokens counters : List ℕ) (orders : ℕ) (s : State) : Type 0 where
  pub tokens_are : (p : ℕ) → p < 128 → get_or tokens p 0 ≡ s.tokens p
  pub counters_are : (t : ℕ) → t < 64 → get_or counters t 0 ≡ s.counter t
  pub orders_are : (t : ℕ) → t < 64 → bit orders t ≡ s.order t

-- Each number of the arrays fits two bytes.
pub record Small (tokens counters : List ℕ) : Type 0 where
  pub few_tokens : (p : ℕ) → p < 128 → get_or tokens p 0 ≤ 65535
  pub low_counters : (t : ℕ) → t < 64 → get_or counters t 0 ≤ 65535

-- The arrays have no token from place n on, and no counter stands from transition n on.
pub record IdlePast (tokens counters : List ℕ) (n : ℕ) : Type 0 where
  pub no_tokens : (p : ℕ) → n ≤ p → p < 128 → get_or tokens p 0 ≡ 0
  pub no_counters : (t : ℕ) → n ≤ t → t < 64 → get_or counters t 0 ≡ 0

-- To load: an image of 768 bytes that is 0 from place n and transition n on.
pub record LoadAsks (bs : List ℕ) (n : ℕ) : Type 0 where
  pub whole : length bs ≡ 768
  pub few : n ≤ 128
  pub blank : BlankPast (image bs) n

-- Loaded: the arrays hold the state of the image.
pub record Loaded (bs : List ℕ) (s : Arrays) : Type 0 where
  pub holds : Holds s.tokens s.counters s.orders (state (image bs))
  pub small : Small s.tokens s.counters
  pub places_are : length s.tokens ≡ 128
  pub transitions_are : length s.counters ≡ 64

-- To save: an image of 768 bytes and arrays that have nothing from place n and transition n on.
pub record SaveAsks (bs : List ℕ) (s : Arrays) (n : ℕ) : Type 0 where
  pub whole : length bs ≡ 768
  pub few : n ≤ 128
  pub small : Small s.tokens s.counters
  pub blank : BlankPast (image bs) n
  pub idle : IdlePast s.tokens s.counters n
