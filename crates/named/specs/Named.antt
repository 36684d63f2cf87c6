-- Who is named, and who is isolated, by the rows and what is declared.
use Rattle.std.specs.Prelude.{Bool, true, false, cond, not, ◌&&◌, ◌||◌, List, ◌≡◌, ℕ, ◌-◌, ◌≤◌, ◌<◌, eqb, ltb}
use Rattle.std.specs.Prelude.{Option, MatchOption}
use Rattle.meaning.specs.Below.{some}
use Rattle.meaning.specs.Bytes.{bit}
use Rattle.meaning.specs.Table.{Table}
use Rattle.rows.specs.declared.Declared.{Declared}
use Rattle.rows.specs.Rows.{inputs, givers, actions, looks, functions, below, has, transitions_below}

-- There is an arc between place p and transition t.
abbrev pub arc_bit : List ℕ → ℕ → ℕ → Bool
arc_bit rows p t = bit (inputs rows p) t || bit (givers rows p) t

-- Place p is named: it has an arc or an action.
abbrev pub place_named : List ℕ → ℕ → Bool
place_named rows p = some 64 (λ y. arc_bit rows p y || bit (actions rows p) y)

-- Place p is named and not declared.
abbrev pub lost_place : List ℕ → Declared → ℕ → Bool
lost_place rows k p = place_named rows p && not (has k p)

-- A walk over the first n places: none is lost, and the set has the transitions of their arcs; or one is lost.
abbrev pub Places : List ℕ → Declared → ℕ → Option ℕ → Type 0
Places rows k n r =
    MatchOption r (some n (lost_place rows k) ≡ true)
    (λ arced. (some n (lost_place rows k) ≡ false) × ((t : ℕ) → bit arced t ≡ some n (λ p. arc_bit rows p t)))

-- Transition t has conditions, functions or transitions below it.
abbrev pub own_named : List ℕ → ℕ → Bool
own_named rows t = some 64 (λ y. bit (below rows t) y || bit (looks rows t) y || bit (functions rows t) y)

-- Of the first m transitions some u names t: u stands above t, or u is t and names something of its own.
abbrev pub named_by : List ℕ → ℕ → ℕ → Bool
named_by rows t u = (eqb u t && own_named rows u) || bit (below rows u) t

abbrev pub transition_named : List ℕ → ℕ → ℕ → Bool
transition_named rows n t = some n (λ p. arc_bit rows p t) || some (transitions_below n) (named_by rows t)

-- Some place or transition is named and not declared.
unfoldable pub unknown_in : List ℕ → Declared → ℕ → Bool
unknown_in rows k n =
    some n (lost_place rows k) || some 64 (λ t. transition_named rows n t && not (bit k.transitions t))

-- A record of this kind with these bytes 1 and 2 names a place or a transition that is not declared.
unfoldable pub unknown_by : Declared → ℕ → ℕ → ℕ → Bool
unknown_by k kind one two =
    ((eqb kind 3 || eqb kind 6) && not (has k one))
    || ((eqb kind 4 || eqb kind 5 || eqb kind 7) && not (bit k.transitions one))
    || ((eqb kind 3 || eqb kind 5) && not (bit k.transitions two))

abbrev pub unknown_at : Table → Declared → ℕ → Bool
unknown_at tb k r = unknown_by k (tb.kind r) (tb.one r) (tb.two r)

-- From place n on there is neither an arc nor a declared place.
pub record QuietFrom (n : ℕ) (rows : List ℕ) (k : Declared) : Type 0 where
  pub few : n ≤ 128
  pub no_arc : (p t : ℕ) → n ≤ p → p < 128 → t < 64 → arc_bit rows p t ≡ false
  pub no_place : (p : ℕ) → n ≤ p → p < 128 → has k p ≡ false

-- Candidates 0 to 127 are the places, 128 to 191 the transitions: declared, and no arc stands there.
unfoldable pub isolated_in : List ℕ → Declared → ℕ → Bool
isolated_in rows k j =
    cond (ltb j 128) (has k j && not (some 64 (arc_bit rows j)))
    (bit k.transitions (j - 128) && not (some 128 (λ p. arc_bit rows p (j - 128))))
