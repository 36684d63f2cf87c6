-- Document 01, "One cycle", once more, rule by rule, in words of logic: each relation asks the records' columns
-- and uses nothing that computes. The laws of proofs/Falling.antt, proofs/Rising.antt and proofs/Turns.antt
-- hold the definitions of Cycle.antt to it in both directions. Definitions and rules are numbered as in source
-- document 001; its rules 1 to 9 are those of its definition 7.
use Rattle.std.specs.Prelude.{Bool, true, false, List, ◌↔◌, ◌⊎◌, ◌≡◌, ℕ, suc, ◌+◌, ◌-◌, ◌*◌, ◌^◌, ◌≤◌, ◌<◌, length}
use Rattle.std.specs.Prelude.{get_or}
use Rattle.meaning.specs.Table.{Table}
use Rattle.meaning.specs.Image.{State}
use Rattle.meaning.specs.Says.{Place, Transition, Arc, Wanted, Timed, Above}

-- BYTES: what a table, an image and a list of words spell. Byte k of a list is `get_or bs k 0`; two bytes are a
-- number, the lower one first.
abbrev byte : List ℕ → ℕ → ℕ
byte bs k = get_or bs k 0

abbrev two_bytes : List ℕ → ℕ → ℕ
two_bytes bs k = byte bs k + 256 * byte bs (k + 1)

-- "Tables": record r is the eight bytes from 8r on.
pub record TableSpelt (bs : List ℕ) (tb : Table) : Type 0 where
  pub whole : (8 * tb.records ≤ length bs) × (length bs < 8 * tb.records + 8)
  pub kind : (r : ℕ) → r < tb.records → tb.kind r ≡ byte bs (8 * r + 0)
  pub one : (r : ℕ) → r < tb.records → tb.one r ≡ byte bs (8 * r + 1)
  pub two : (r : ℕ) → r < tb.records → tb.two r ≡ byte bs (8 * r + 2)
  pub sort : (r : ℕ) → r < tb.records → tb.sort r ≡ byte bs (8 * r + 3)
  pub four : (r : ℕ) → r < tb.records → tb.four r ≡ two_bytes bs (8 * r + 4)
  pub six : (r : ℕ) → r < tb.records → tb.six r ≡ two_bytes bs (8 * r + 6)

-- "State image": record k is the four bytes from 4k on; the places' records, then, from 128 on, the transitions'.
pub record StateSpelt (bs : List ℕ) (s : State) : Type 0 where
  pub tokens : (p : ℕ) → p < 128 → s.tokens p ≡ two_bytes bs (4 * p + 0)
  pub counter : (t : ℕ) → t < 64 → s.counter t ≡ two_bytes bs (4 * (128 + t) + 0)
  pub order : (t : ℕ) → t < 64 → (s.order t ≡ true) ↔ (byte bs (4 * (128 + t) + 2) ≡ 1)

-- "Condition words": word k is the eight bytes from 8k on.
abbrev pub WordSpelt : List ℕ → ℕ → ℕ → Type 0
WordSpelt ws k word =
    word
    ≡ byte ws (8 * k) + 2 ^ 8 * byte ws (8 * k + 1) + 2 ^ 16 * byte ws (8 * k + 2) + 2 ^ 24 * byte ws (8 * k + 3)
    + 2 ^ 32 * byte ws (8 * k + 4) + 2 ^ 40 * byte ws (8 * k + 5) + 2 ^ 48 * byte ws (8 * k + 6)
    + 2 ^ 56 * byte ws (8 * k + 7)

-- A fresh net: first tokens, counters 0 and no reset orders (definition 3).
pub record Fresh (tb : Table) (s : State) : Type 0 where
  pub declared : (r : ℕ) → r < tb.records → tb.kind r ≡ 1 → s.tokens (tb.one r) ≡ tb.four r
  pub undeclared : (p : ℕ) → ¬ Place tb p → s.tokens p ≡ 0
  pub counter : (t : ℕ) → s.counter t ≡ 0
  pub order : (t : ℕ) → s.order t ≡ false

-- ENABLED (definition 4): basic and test arcs find at least their weight, each inhibitor arc finds strictly
-- less. No input arcs: enabled.
pub record Enabled (tb : Table) (m : ℕ → ℕ) (t : ℕ) : Type 0 where
  pub basic : (p w : ℕ) → Arc tb 0 p t w → w ≤ m p
  pub test : (p w : ℕ) → Arc tb 1 p t w → w ≤ m p
  pub inhibitor : (p w : ℕ) → Arc tb 2 p t w → m p < w

-- FALLING EDGE

-- Rule 1, conditions are taken from the word: condition c is true if binary digit c of the word is 1.
abbrev pub TrueIn : ℕ → ℕ → Type 0
TrueIn word c = (high : ℕ) × (low : ℕ) × (low < 2 ^ c) × (word ≡ (2 * high + 1) * 2 ^ c + low)

-- Rule 2: an action is active if a place that carries it has a token.
abbrev pub Active : Table → (ℕ → ℕ) → ℕ → Type 0
Active tb m k = (r : ℕ) × (r < tb.records) × (tb.kind r ≡ 6) × (tb.two r ≡ k) × (0 < m (tb.one r))

-- A transition has an interval [a,b], has an interval a or more, has one of the two, has none. Its record has a
-- in bytes 4-5, b in bytes 6-7.
abbrev pub Between : Table → ℕ → ℕ → ℕ → Type 0
Between tb t a b = (r : ℕ) × Timed tb t 1 r × (tb.four r ≡ a) × (tb.six r ≡ b)

abbrev pub From : Table → ℕ → ℕ → Type 0
From tb t a = (r : ℕ) × Timed tb t 2 r × (tb.four r ≡ a)

abbrev pub IsTimed : Table → ℕ → Type 0
IsTimed tb t = (r : ℕ) × (Timed tb t 1 r ⊎ Timed tb t 2 r)

-- It is enabled and has no reset order.
abbrev pub GoesOn : Table → State → ℕ → Type 0
GoesOn tb s t = Enabled tb s.tokens t × (s.order t ≡ false)

-- Rules 3 to 6: the counter of transition t after the falling edge. The source lets a counter without a b rise
-- for ever; that it stays at a is the page's own rule. An untimed transition's counter stays.
pub data Counter (tb : Table) (s : State) (t : ℕ) : ℕ → Type 0 where
  rule_3 : IsTimed tb t → Enabled tb s.tokens t → s.order t ≡ true → Counter tb s t 1
  rule_4 : {a b : ℕ} → Between tb t a b → GoesOn tb s t → s.counter t ≤ b → Counter tb s t (suc (s.counter t))
  rule_5 : {a b : ℕ} → Between tb t a b → GoesOn tb s t → b < s.counter t → Counter tb s t (s.counter t)
  rule_4_from : {a : ℕ} → From tb t a → GoesOn tb s t → s.counter t < a → Counter tb s t (suc (s.counter t))
  ours_at_a : {a : ℕ} → From tb t a → GoesOn tb s t → a ≤ s.counter t → Counter tb s t (s.counter t)
  rule_6 : IsTimed tb t → ¬ Enabled tb s.tokens t → Counter tb s t 0
  untimed : ¬ IsTimed tb t → Counter tb s t (s.counter t)

-- RISING EDGE: M is the marking at the start of the cycle, `count` the counters after its falling edge; a set F
-- of transitions is a test.

-- If timed, the counter is at least a and, for an interval [a,b], at most b.
pub record InTime (tb : Table) (t c : ℕ) : Type 0 where
  pub between : (a b : ℕ) → Between tb t a b → (a ≤ c) × (c ≤ b)
  pub from : (a : ℕ) → From tb t a → a ≤ c

-- Firable (definition 5): a transition of the table, enabled by M, each condition as wanted, in time.
pub record Firable (tb : Table) (m count : ℕ → ℕ) (word t : ℕ) : Type 0 where
  pub declared : Transition tb t
  pub enabled : Enabled tb m t
  pub wanted_true : (c : ℕ) → Wanted tb t c 0 → TrueIn word c
  pub wanted_false : (c : ℕ) → Wanted tb t c 1 → ¬ TrueIn word c
  pub in_time : InTime tb t (count t)

-- Record r is an arc of a sort between place p and a transition of a set.
abbrev pub ArcOf : Table → ℕ → ℕ → (ℕ → Type 0) → ℕ → Type 0
ArcOf tb sort p Of r = (tb.kind r ≡ 3) × (tb.sort r ≡ sort) × (tb.one r ≡ p) × Of (tb.two r)

-- Over the first n records, the weights of such arcs add up to w.
pub data Weighs (tb : Table) (sort p : ℕ) (Of : ℕ → Type 0) : ℕ → ℕ → Type 0 where
  none : Weighs tb sort p Of 0 0
  counts : {n w : ℕ} → ArcOf tb sort p Of n → Weighs tb sort p Of n w → Weighs tb sort p Of (suc n) (w + tb.four n)
  passes : {n w : ℕ} → ¬ ArcOf tb sort p Of n → Weighs tb sort p Of n w → Weighs tb sort p Of (suc n) w

-- The basic weights of the transitions of a set at place p, all together; and their post weights.
abbrev pub Withdraws : Table → (ℕ → Type 0) → ℕ → ℕ → Type 0
Withdraws tb Of p w = Weighs tb 0 p Of tb.records w

abbrev pub Adds : Table → (ℕ → Type 0) → ℕ → ℕ → Type 0
Adds tb Of p w = Weighs tb 3 p Of tb.records w

-- The transitions of F; those of F that stand above t in the closed priority.
abbrev pub In : (ℕ → Bool) → ℕ → Type 0
In F u = F u ≡ true

abbrev pub InAbove : Table → (ℕ → Bool) → ℕ → ℕ → Type 0
InAbove tb F t u = (F u ≡ true) × Above tb u t

-- Fired (definition 6): firable, and enabled by M less the basic weights of all fired transitions above it.
abbrev pub Residual : Table → (ℕ → ℕ) → (ℕ → Bool) → ℕ → (ℕ → ℕ) → Type 0
Residual tb m F t left = (p : ℕ) → (w : ℕ) × Withdraws tb (InAbove tb F t) p w × (left p ≡ m p - w)

pub record Fires (tb : Table) (m count : ℕ → ℕ) (word : ℕ) (F : ℕ → Bool) (t : ℕ) : Type 0 where
  pub firable : Firable tb m count word t
  pub enabled_by_the_rest : (left : ℕ → ℕ) → Residual tb m F t left → Enabled tb left t

-- Rule 7: the new marking of place p is x, M less the basic weights of F plus its post weights; M pays for what
-- is withdrawn.
pub record Marked (tb : Table) (m : ℕ → ℕ) (F : ℕ → Bool) (p x : ℕ) : Type 0 where
  pub taken : ℕ
  pub put : ℕ
  pub takes : Withdraws tb (In F) p taken
  pub puts : Adds tb (In F) p put
  pub pays : taken ≤ m p
  pub holds : x + taken ≡ m p + put

-- Rule 8: a timed transition gets a reset order if it fired, or some basic or test arc to it comes from a place
-- from which F withdrew something and which then, before anything is put back, holds less than that arc's
-- weight.
pub record Starved (tb : Table) (m : ℕ → ℕ) (F : ℕ → Bool) (t : ℕ) : Type 0 where
  pub place : ℕ
  pub weight : ℕ
  pub taken : ℕ
  pub arc : Arc tb 0 place t weight ⊎ Arc tb 1 place t weight
  pub takes : Withdraws tb (In F) place taken
  pub something : 0 < taken
  pub short : m place - taken < weight

abbrev pub Reset : Table → (ℕ → ℕ) → (ℕ → Bool) → ℕ → Type 0
Reset tb m F t = IsTimed tb t × ((F t ≡ true) ⊎ Starved tb m F t)

-- Rule 9: a function executes if a fired transition carries it.
abbrev pub Executed : Table → (ℕ → Bool) → ℕ → Type 0
Executed tb F k = (r : ℕ) × (r < tb.records) × (tb.kind r ≡ 7) × (tb.two r ≡ k) × (F (tb.one r) ≡ true)

-- 13: place p would end the cycle above 65,535; p is the lowest such place.
abbrev pub Overfull : Table → (ℕ → ℕ) → (ℕ → Bool) → ℕ → Type 0
Overfull tb m F p = (x : ℕ) × Marked tb m F p x × (65535 < x)

abbrev pub Full : Table → (ℕ → ℕ) → (ℕ → Bool) → ℕ → Type 0
Full tb m F p = (p < 128) × Overfull tb m F p × ((q : ℕ) → q < p → ¬ Overfull tb m F q)

-- ONE CYCLE, whole: from the state s, by a word, the set F fires, the actions A are active, the functions X are
-- executed, and s becomes `after`.
pub record Turn (tb : Table) (s : State) (word : ℕ) (F A X : ℕ → Bool) (after : State) : Type 0 where
  pub actions : (k : ℕ) → (A k ≡ true) ↔ Active tb s.tokens k
  pub counters : (t : ℕ) → Counter tb s t (after.counter t)
  pub fired : (t : ℕ) → (F t ≡ true) ↔ Fires tb s.tokens after.counter word F t
  pub marking : (p : ℕ) → Marked tb s.tokens F p (after.tokens p)
  pub orders : (t : ℕ) → (after.order t ≡ true) ↔ Reset tb s.tokens F t
  pub functions : (k : ℕ) → (X k ≡ true) ↔ Executed tb F k
