-- Whom the tokens of a place hold back, which actions they activate, who lacks tokens there, and between which numbers
-- of tokens that stays the same.
use Rattle.std.specs.Prelude.{Bool, cond, not, ◌&&◌, ◌||◌, List, ◌≡◌, ℕ, ◌+◌, ◌*◌, ◌≤◌, ◌<◌, ltb, eqb, length, get_or}
use Rattle.meaning.specs.Bytes.{bit}
use Rattle.rows.specs.Rows.{inputs, actions, cell, stops}
use Rattle.levels.specs.declared.Kept.{Kept}
use Rattle.levels.specs.declared.Level.{Level}

-- With k tokens on a place the arc of this weight and sort is a basic or test arc that finds less than its weight.
abbrev pub lacks : ℕ → ℕ → ℕ → Bool
lacks weight sort k = not (eqb sort 2) && ltb k weight

-- That, and whether the arc stops its transition, by a place's rows of weights and sorts.
abbrev pub stops_of : List ℕ → List ℕ → ℕ → ℕ → Bool
stops_of w s k t = stops (get_or w t 0) (get_or s t 0) k

abbrev pub lacks_of : List ℕ → List ℕ → ℕ → ℕ → Bool
lacks_of w s k t = lacks (get_or w t 0) (get_or s t 0) k

-- Level y is level x of so many tokens, and it also does not pass the weight of an arc to t, which is held back or
-- lacks tokens as the arc says.
pub record Narrowed (tokens t weight sort : ℕ) (x y : Level) : Type 0 where
  pub held_is : (j : ℕ) → bit y.held j ≡ (bit x.held j || (stops weight sort tokens && eqb t j))
  pub lacks_is : (j : ℕ) → bit y.lacks j ≡ (bit x.lacks j || (lacks weight sort tokens && eqb t j))
  pub from_up : x.from ≤ y.from
  pub upto_down : y.upto ≤ x.upto
  pub still_from : x.from ≤ tokens → y.from ≤ tokens
  pub still_upto : tokens ≤ x.upto → tokens ≤ y.upto
  pub reached : weight ≤ tokens → weight ≤ y.from
  pub missed : tokens < weight → y.upto < weight

-- So many tokens are on the level, and with any other number on it the same are held back and lack tokens, and the
-- place is empty or is not. It ends below 2^31.
pub record LevelOf (tokens arcs : ℕ) (w s : List ℕ) (x : Level) : Type 0 where
  pub roof : x.upto ≤ 2147483647
  pub inside : (x.from ≤ tokens) × (tokens ≤ x.upto)
  pub empty : (k : ℕ) → x.from ≤ k → k ≤ x.upto → eqb k 0 ≡ eqb tokens 0
  pub held_is : (k : ℕ) → x.from ≤ k → k ≤ x.upto → (t : ℕ) → bit x.held t ≡ (bit arcs t && stops_of w s k t)
  pub lacks_is : (k : ℕ) → x.from ≤ k → k ≤ x.upto → (t : ℕ) → bit x.lacks t ≡ (bit arcs t && lacks_of w s k t)

-- With any number k of tokens from the one to the other, both included, place p holds these back, activates these
-- actions and lets these lack tokens.
pub record Spans (rows : List ℕ) (w s : List (List ℕ)) (p held active lacking from upto : ℕ) : Type 0 where
  pub roof : upto ≤ 2147483647
  pub held_is : (k : ℕ) → from ≤ k → k ≤ upto → (t : ℕ)
      → bit held t ≡ (bit (inputs rows p) t && stops (cell w p t) (cell s p t) k)
  pub active_is : (k : ℕ) → from ≤ k → k ≤ upto → active ≡ cond (eqb k 0) 0 (actions rows p)
  pub lacks_is : (k : ℕ) → from ≤ k → k ≤ upto → (t : ℕ)
      → bit lacking t ≡ (bit (inputs rows p) t && lacks (cell w p t) (cell s p t) k)

-- What is kept of place p.
abbrev pub SpansAt : List ℕ → List (List ℕ) → List (List ℕ) → Kept → ℕ → Type 0
SpansAt rows w s kept p =
    Spans rows w s p (get_or kept.held p 0) (get_or kept.active p 0) (get_or kept.lacks p 0) (get_or kept.from p 0)
    (get_or kept.upto p 0)

-- So many tokens of place p are on its level.
abbrev pub OnLevel : Kept → ℕ → ℕ → Type 0
OnLevel kept p k = (get_or kept.from p 0 ≤ k) × (k ≤ get_or kept.upto p 0)

-- What is kept of each place holds for its tokens.
pub record Levels (rows : List ℕ) (w s : List (List ℕ)) (m : List ℕ) (kept : Kept) : Type 0 where
  pub spans : (p : ℕ) → p < 128 → SpansAt rows w s kept p
  pub inside : (p : ℕ) → p < 128 → OnLevel kept p (get_or m p 0)

-- Place p has its rows, and its tokens are below 2^31.
pub record RelevelAsks (p tokens : ℕ) (rows : List ℕ) (w s : List (List ℕ)) : Type 0 where
  pub place : p < 128
  pub tokens_low : tokens < 2147483647
  pub rows_there : 8 * p + 8 ≤ length rows
  pub weights_there : p < length w
  pub sorts_there : p < length s

-- What is kept of place p holds for so many tokens, and of the others it is as it was; who left the level is as it was.
pub record Relevelled (p tokens : ℕ) (rows : List ℕ) (w s : List (List ℕ)) (kept kept' : Kept) : Type 0 where
  pub spans : SpansAt rows w s kept' p
  pub inside : OnLevel kept' p tokens
  pub others : (q : ℕ) → q < 128 → ¬ (q ≡ p)
      → (get_or kept'.held q 0 ≡ get_or kept.held q 0) × (get_or kept'.active q 0 ≡ get_or kept.active q 0)
      × (get_or kept'.lacks q 0 ≡ get_or kept.lacks q 0) × (get_or kept'.from q 0 ≡ get_or kept.from q 0)
      × (get_or kept'.upto q 0 ≡ get_or kept.upto q 0)
  pub left : (q : ℕ) → q < 128 → get_or kept'.left q 0 ≡ get_or kept.left q 0
