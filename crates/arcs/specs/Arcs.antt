-- Of each transition the places of its arcs, and its rivals.
use Rattle.std.specs.Prelude.{Bool, false, ◌&&◌, ◌||◌, List, ◌≡◌, ℕ, ◌+◌, ◌*◌, ◌≤◌, ◌<◌, eqb, length, get_or}
use Rattle.meaning.specs.Below.{some}
use Rattle.meaning.specs.Bytes.{bit}
use Rattle.rows.specs.Rows.{inputs, takers, below}

-- Of transition t: the places of its input arcs, 0 to 63 and 64 to 127, those of its basic arcs, and its rivals.
abbrev pub low : List ℕ → ℕ → ℕ
low arcs t = get_or arcs (5 * t + 0) 0

abbrev pub high : List ℕ → ℕ → ℕ
high arcs t = get_or arcs (5 * t + 1) 0

abbrev pub takes_low : List ℕ → ℕ → ℕ
takes_low arcs t = get_or arcs (5 * t + 2) 0

abbrev pub takes_high : List ℕ → ℕ → ℕ
takes_high arcs t = get_or arcs (5 * t + 3) 0

abbrev pub rivals_of : List ℕ → ℕ → ℕ
rivals_of arcs t = get_or arcs (5 * t + 4) 0

-- Set k of each member of `to` has all of `what` beside what it had, and every other set is as it was.
pub record Put (arcs : List ℕ) (to k what : ℕ) (after : List ℕ) : Type 0 where
  pub size : length after ≡ 320
  pub holds : (t c j : ℕ) → c < 5
      → bit (get_or after (5 * t + c) 0) j
      ≡ (bit (get_or arcs (5 * t + c) 0) j || ((eqb c k && bit to t) && bit what j))

-- Places from n on have no input arcs.
pub record ArclessFrom (n : ℕ) (rows : List ℕ) : Type 0 where
  pub few : n ≤ 128
  pub there : 8 * n ≤ length rows
  pub no_input : (p t : ℕ) → n ≤ p → p < 128 → t < 64 → bit (inputs rows p) t ≡ false
  pub no_taker : (p t : ℕ) → n ≤ p → p < 128 → t < 64 → bit (takers rows p) t ≡ false

-- The places of each transition are those whose rows have it; it has no rivals yet.
pub record Turned (rows arcs : List ℕ) : Type 0 where
  pub size : length arcs ≡ 320
  pub low_is : (t p : ℕ) → t < 64 → p < 64 → bit (low arcs t) p ≡ bit (inputs rows p) t
  pub high_is : (t p : ℕ) → t < 64 → p < 64 → bit (high arcs t) p ≡ bit (inputs rows (64 + p)) t
  pub takes_low_is : (t p : ℕ) → t < 64 → p < 64 → bit (takes_low arcs t) p ≡ bit (takers rows p) t
  pub takes_high_is : (t p : ℕ) → t < 64 → p < 64 → bit (takes_high arcs t) p ≡ bit (takers rows (64 + p)) t
  pub no_rivals : (t u : ℕ) → t < 64 → bit (rivals_of arcs t) u ≡ false

-- Two words have a member in common.
abbrev pub shared : ℕ → ℕ → Bool
shared a b = some 64 (λ k. bit a k && bit b k)

-- Transition u takes from a place of an input arc of t, by their words.
unfoldable pub meeting : List ℕ → ℕ → ℕ → Bool
meeting arcs t u = shared (low arcs t) (takes_low arcs u) || shared (high arcs t) (takes_high arcs u)

-- Transition u is a rival of t: it stands above t, and takes from a place from which t has an input arc.
abbrev pub rival : List ℕ → ℕ → ℕ → Bool
rival rows t u = bit (below rows u) t && some 128 (λ p. bit (inputs rows p) t && bit (takers rows p) u)

-- No transition from n on stands above another.
pub record LowPairs (n : ℕ) (rows : List ℕ) : Type 0 where
  pub few : n ≤ 64
  pub there : 8 * n ≤ length rows
  pub none : (u t : ℕ) → n ≤ u → u < 64 → t < 64 → bit (below rows u) t ≡ false

-- Each transition has its rivals beside its places, and the set `lower` has those with rivals.
pub record Rivals (rows arcs : List ℕ) (lower : ℕ) : Type 0 where
  pub size : length arcs ≡ 320
  pub low_is : (t p : ℕ) → t < 64 → p < 64 → bit (low arcs t) p ≡ bit (inputs rows p) t
  pub high_is : (t p : ℕ) → t < 64 → p < 64 → bit (high arcs t) p ≡ bit (inputs rows (64 + p)) t
  pub takes_low_is : (t p : ℕ) → t < 64 → p < 64 → bit (takes_low arcs t) p ≡ bit (takers rows p) t
  pub takes_high_is : (t p : ℕ) → t < 64 → p < 64 → bit (takes_high arcs t) p ≡ bit (takers rows (64 + p)) t
  pub rivals_are : (t u : ℕ) → t < 64 → u < 64 → bit (rivals_of arcs t) u ≡ rival rows t u
  pub lower_is : (t : ℕ) → t < 64 → bit lower t ≡ some 64 (rival rows t)
