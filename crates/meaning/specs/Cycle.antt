-- Document 01, "One cycle": a falling edge, then a rising edge (source document 001, definitions 4 to 7; rules
-- 1 to 9 are those of definition 7).
use Rattle.std.specs.Prelude.{Bool, cond, not, ◌&&◌, ◌||◌, List, [], ◌++◌, ℕ, zero, suc, ◌+◌, ◌-◌, ltb, leb, eqb}
use Rattle.std.specs.Bool.{beq}
use Rattle.meaning.specs.Below.{some, every, members, within}
use Rattle.meaning.specs.Bytes.{bytes, bit, bits}
use Rattle.meaning.specs.Table.{Table, total, is, basic, test, inhibitor, post}
use Rattle.meaning.specs.Table.{transition, timing, a_of, b_of, ceiling}
use Rattle.meaning.specs.Priority.{above}
use Rattle.meaning.specs.Image.{State, state, image}

-- Record r is an arc that stops transition t at the marking m: a basic or test arc that finds less than its
-- weight, or an inhibitor arc that does not find strictly less.
unfoldable pub stops : Table → (ℕ → ℕ) → ℕ → ℕ → Bool
stops tb m t r =
    let found = m (tb.one r) in
    let short = ltb found (tb.four r) in
    let against = cond (inhibitor tb r) (not short) short in
    is tb 3 r && not (post tb r) && eqb (tb.two r) t && against

-- Enabled by a marking: no arc stops it (definition 4). With no input arcs a transition is enabled.
unfoldable pub enabled : Table → (ℕ → ℕ) → ℕ → Bool
enabled tb m t = not (some tb.records (stops tb m t))

-- FALLING EDGE

-- An action is active if a place that carries it has a token (rule 2).
unfoldable pub active : Table → (ℕ → ℕ) → ℕ → Bool
active tb m k = some tb.records (λ r. is tb 6 r && eqb (tb.two r) k && ltb 0 (m (tb.one r)))

-- The counter of an enabled transition without a reset order: sort 1 rises by one if at most b (rules 4 and 5);
-- sort 2 rises by one if below a, where the source counts on for ever: this stop is the page's own.
unfoldable pub risen : Table → ℕ → ℕ → ℕ
risen tb t c = cond (cond (eqb (timing tb t) 1) (leb c (b_of tb t)) (ltb c (a_of tb t))) (suc c) c

-- The counter after the falling edge. Timed: 0 if not enabled (rule 6), 1 if enabled with a reset order (rule
-- 3), else it rises or stays.
unfoldable pub counted : Table → State → ℕ → ℕ
counted tb s t =
    let on = cond (s.order t) 1 (risen tb t (s.counter t)) in
    let timed = cond (enabled tb s.tokens t) on 0 in
    cond (eqb (timing tb t) 0) (s.counter t) timed

-- The state after the falling edge: the counters move, the tokens and the reset orders stay.
unfoldable pub falling : Table → State → State
falling tb s = record { tokens = s.tokens; counter = counted tb s; order = s.order }

-- RISING EDGE

-- Every condition of t is in the word as wanted: sort 0 true, sort 1 false.
unfoldable pub as_wanted : Table → ℕ → ℕ → Bool
as_wanted tb word t =
    every tb.records
    (λ r. not (is tb 4 r && eqb (tb.one r) t) || beq (bit word (tb.two r)) (eqb (tb.sort r) 0))

-- If timed, the counter is at least a and, for sort 1, at most b.
unfoldable pub in_time : Table → ℕ → ℕ → Bool
in_time tb c t = eqb (timing tb t) 0 || (leb (a_of tb t) c && (eqb (timing tb t) 2 || leb c (b_of tb t)))

-- Firable (definition 5): a transition of the table, enabled by M, conditions as wanted, in time.
unfoldable pub firable : Table → State → ℕ → ℕ → Bool
firable tb s word t =
    let rest = enabled tb s.tokens t && as_wanted tb word t && in_time tb (s.counter t) t in
    transition tb t && rest

-- What the transitions of the set F withdraw from place p by basic arcs, and what they put there by post arcs.
unfoldable pub withdrawn : Table → (ℕ → Bool) → ℕ → ℕ
withdrawn tb F p = total tb (λ r. basic tb r && eqb (tb.one r) p && F (tb.two r)) tb.four

unfoldable pub added : Table → (ℕ → Bool) → ℕ → ℕ
added tb F p = total tb (λ r. post tb r && eqb (tb.one r) p && F (tb.two r)) tb.four

-- The residual marking for t: M less what the transitions of F above t withdraw.
unfoldable pub residual : Table → (ℕ → ℕ) → (ℕ → Bool) → ℕ → ℕ → ℕ
residual tb m F t p =
    m p
    - withdrawn tb
    (λ u.
    let higher = above tb u t in
    F u && higher)
    p

-- Definition 6 as a rule for a set F: t is fired if it is firable and enabled by its residual marking.
unfoldable pub rule : Table → (ℕ → ℕ) → (ℕ → Bool) → (ℕ → Bool) → ℕ → Bool
rule tb m able F t =
    let enough = enabled tb (residual tb m F t) t in
    able t && enough

-- The rule applied k times, first to the empty set. Each time, the next rank of the priority comes right; 64
-- transitions have at most 64.
unfoldable pub rounds : Table → (ℕ → ℕ) → (ℕ → Bool) → ℕ → List ℕ
rounds tb m able zero = []
rounds tb m able (suc k) =
    let before = rounds tb m able k in
    members 64 (rule tb m able (within before))

-- The fired transitions, in order of their numbers, of a state after its falling edge.
unfoldable pub fired : Table → State → ℕ → List ℕ
fired tb s word =
    let able = members 64 (firable tb s word) in
    rounds tb s.tokens (within able) 64

-- The new marking (rule 7).
unfoldable pub marked : Table → (ℕ → ℕ) → (ℕ → Bool) → ℕ → ℕ
marked tb m F p = m p - withdrawn tb F p + added tb F p

-- A function executes if a fired transition carries it (rule 9).
unfoldable pub executed : Table → (ℕ → Bool) → ℕ → Bool
executed tb F k = some tb.records (λ r. is tb 7 r && eqb (tb.two r) k && F (tb.one r))

-- Some basic or test arc to t comes from a place from which F withdrew something and which then, before
-- anything is put back, holds less than that arc's weight.
unfoldable pub starved : Table → (ℕ → ℕ) → (ℕ → Bool) → ℕ → Bool
starved tb m F t =
    some tb.records
    (λ r.
    let taken = withdrawn tb F (tb.one r) in
    let less = ltb 0 taken && ltb (m (tb.one r) - taken) (tb.four r) in
    (basic tb r || test tb r) && eqb (tb.two r) t && less)

-- A timed transition gets a reset order exactly if it fired or is so starved (rule 8).
unfoldable pub reset : Table → (ℕ → ℕ) → (ℕ → Bool) → ℕ → Bool
reset tb m F t =
    let cause = F t || starved tb m F t in
    not (eqb (timing tb t) 0) && cause

-- The state after the rising edge: tokens and reset orders move, the counters stay.
unfoldable pub rising : Table → State → (ℕ → Bool) → State
rising tb s F = record { tokens = marked tb s.tokens F; counter = s.counter; order = reset tb s.tokens F }

-- The report's 24 bytes of a cycle: fired set, active actions, executed functions.
unfoldable pub record_of : Table → (ℕ → ℕ) → (ℕ → Bool) → List ℕ
record_of tb m F = bytes 8 (bits F) ++ bytes 8 (bits (active tb m)) ++ bytes 8 (bits (executed tb F))

-- What one cycle comes to, from an image and a word.
pub record Cycle : Type 0 where
  pub fired : List ℕ
  pub after : State
  pub written : List ℕ

unfoldable pub cycle : Table → List ℕ → ℕ → Cycle
cycle tb bs word =
    let s = falling tb (state (image bs)) in
    let F = fired tb s word in
    record { fired = F; after = rising tb s (within F); written = record_of tb s.tokens (within F) }

-- 13 full: the place would end the cycle above its ceiling.
unfoldable pub overfull : Table → State → ℕ → Bool
overfull tb s p = ltb (ceiling tb p) (s.tokens p)
