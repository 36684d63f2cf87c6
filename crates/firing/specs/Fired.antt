-- Definition 6 read off the rows: a set fires if each firable transition is in it exactly when its rivals in the set
-- leave it enabled.
use Rattle.std.specs.Prelude.{Bool, true, false, not, ◌&&◌, ◌||◌, List, ◌≡◌, ℕ, ◌+◌, ◌*◌, ◌-◌, ◌≤◌, ◌<◌, eqb, length}
use Rattle.std.specs.Prelude.{get_or}
use Rattle.std.specs.Int.Bits.{bit_and}
use Rattle.meaning.specs.Below.{some}
use Rattle.meaning.specs.Bytes.{bit}
use Rattle.rows.specs.Rows.{takers, cell, stops, taken_at}
use Rattle.arcs.specs.Arcs.{low, high, rivals_of}
use Rattle.firing.specs.declared.Round.{Round}

-- With so many tokens the arc from place p stops transition t.
abbrev pub stops_with : ℕ → List (List ℕ) → List (List ℕ) → ℕ → ℕ → Bool
stops_with tokens w s t p = stops (cell w p t) (cell s p t) tokens

-- Some members of the set g take from place p, and with what they leave there the arc from p stops transition t.
abbrev pub stopped_at : List ℕ → List ℕ → List (List ℕ) → List (List ℕ) → ℕ → ℕ → ℕ → Bool
stopped_at m rows w s g t p =
    not (eqb (bit_and g (takers rows p)) 0) && stops_with (get_or m p 0 - taken_at g rows w p) w s t p

-- Some arc from a place of a word stops transition t so. The word has 64 places, from the first on.
abbrev pub stopped_among : List ℕ → List ℕ → List (List ℕ) → List (List ℕ) → ℕ → ℕ → ℕ → ℕ → Bool
stopped_among m rows w s word first g t = some 64 (λ p. bit word p && stopped_at m rows w s g t (first + p))

-- No arc from a place of the two words does.
unfoldable pub left_enabled : List ℕ → List ℕ → List (List ℕ) → List (List ℕ) → ℕ → ℕ → ℕ → ℕ → Bool
left_enabled m rows w s near far g t = not (stopped_among m rows w s near 0 g t || stopped_among m rows w s far 64 g t)

-- A firable transition stays enabled by what the set g leaves: only where g takes can that stop it.
abbrev pub pays : List ℕ → List ℕ → List ℕ → List (List ℕ) → List (List ℕ) → ℕ → ℕ → Bool
pays m rows arcs w s g t = left_enabled m rows w s (low arcs t) (high arcs t) g t

-- Each place of a word has its rows. The word has 64 places, from the first on.
pub record There (word first : ℕ) (rows : List ℕ) (w s : List (List ℕ)) : Type 0 where
  pub sets_in : (k : ℕ) → k < 64 → bit word k ≡ true → 8 * (first + k) + 8 ≤ length rows
  pub weights_in : (k : ℕ) → k < 64 → bit word k ≡ true → first + k < length w
  pub sorts_in : (k : ℕ) → k < 64 → bit word k ≡ true → first + k < length s

-- So has each place of the transitions' input arcs.
pub record Housed (rows arcs : List ℕ) (w s : List (List ℕ)) : Type 0 where
  pub low_in : (t : ℕ) → t < 64 → There (low arcs t) 0 rows w s
  pub high_in : (t : ℕ) → t < 64 → There (high arcs t) 64 rows w s

-- Whoever is a rival of a transition is ranked lower, and there are 64 ranks; the set `lower` has those with rivals.
pub record Ranks (arcs : List ℕ) (lower : ℕ) : Type 0 where
  pub rank : ℕ → ℕ
  pub few : (t : ℕ) → t < 64 → rank t < 64
  pub falls : (t u : ℕ) → t < 64 → u < 64 → bit (rivals_of arcs t) u ≡ true → rank u < rank t
  pub lower_is : (t : ℕ) → t < 64 → bit lower t ≡ false → (u : ℕ) → u < 64 → bit (rivals_of arcs t) u ≡ false

-- Some transition that is left is a rival of t.
abbrev pub waits_for : List ℕ → ℕ → ℕ → Bool
waits_for arcs left t = some 64 (λ u. bit (rivals_of arcs t) u && bit left u)

-- Transition t stays enabled by what its rivals in the set `out` leave.
abbrev pub keeps : List ℕ → List ℕ → List ℕ → List (List ℕ) → List (List ℕ) → ℕ → ℕ → Bool
keeps m rows arcs w s out t = pays m rows arcs w s (bit_and out (rivals_of arcs t)) t

-- A round's answer: who waits is left, and who does not and stays enabled has fired.
pub record Decided (left out : ℕ) (m rows arcs : List ℕ) (w s : List (List ℕ)) (x : Round) : Type 0 where
  pub waits : (t : ℕ) → t < 64 → bit x.left t ≡ (bit left t && waits_for arcs left t)
  pub fires : (t : ℕ) → t < 64
      → bit x.out t ≡ (bit out t || (bit left t && (not (waits_for arcs left t) && keeps m rows arcs w s out t)))

-- The set r meets definition 6 over these rows.
pub record Fires (able : ℕ) (m rows arcs : List ℕ) (w s : List (List ℕ)) (r : ℕ) : Type 0 where
  pub meets : (t : ℕ) → t < 64 → bit r t ≡ (bit able t && keeps m rows arcs w s r t)
