-- Document 02, request (i), once more in words of logic: each relation asks bytes and columns and uses nothing that
-- computes. The laws of proofs/Spoken.antt hold the definitions of Day.antt to it in both directions.
use Rattle.std.specs.Prelude.{Bool, true, List, ◌≢◌, ◌≡◌, ℕ, suc, ◌+◌, ◌*◌, ◌/◌, ◌%◌, ◌≤◌, ◌<◌, ℤ, pos, ◌+ℤ◌, length}
use Rattle.meaning.specs.Table.{Table, table}
use Rattle.meaning.specs.Says.{TableSays, Transition}
use Rattle.meaning.specs.Image.{State, state, image}
use Rattle.meaning.specs.Calls.{words_of}
use Rattle.meaning.specs.Steps.{Reaches}
use Rattle.meaning.specs.Rules.{WordSpelt, TrueIn, Turn}
use Rattle.summary.specs.Day.{cycles_of, times_of}

-- Transition k fired in record r of a report: the fired word is the first of the record's three.
abbrev pub FiredIn : List ℕ → ℕ → ℕ → Type 0
FiredIn report k r = (word : ℕ) × WordSpelt report (3 * r) word × TrueIn word k

-- What count refuses: 1 to 9, then 14.
pub data CountSays (bs report : List ℕ) : ℕ → ℕ → Type 0 where
  of_table : {n w : ℕ} → TableSays bs n w → CountSays bs report n w
  length_odd : length report % 24 ≢ 0 → CountSays bs report 14 512
  length_long : 12288 < length report → CountSays bs report 14 512
  stranger : {r : ℕ} (k : ℕ) → length report % 24 ≡ 0 → length report ≤ 12288 → 24 * r < length report → k < 64
      → FiredIn report k r → ¬ Transition (table bs) k
      → CountSays bs report 14 r

-- A summary has a transition that fired more often than its cycles.
abbrev pub TooOften : List ℕ → Type 0
TooOften s = (k : ℕ) × (k < 64) × (cycles_of s < times_of s k)

-- What add refuses: 15.
pub data AddSays (one other : List ℕ) : ℕ → ℕ → Type 0 where
  one_wrong : TooOften one → AddSays one other 15 0
  other_wrong : TooOften other → AddSays one other 15 0
  too_many : 4294967295 < cycles_of one + cycles_of other → AddSays one other 15 0

-- What net change refuses: 1 to 9, then 15.
pub data ChangeSays (bs s : List ℕ) : ℕ → ℕ → Type 0 where
  of_table : {n w : ℕ} → TableSays bs n w → ChangeSays bs s n w
  wrong : TooOften s → ChangeSays bs s 15 0

-- Of the numbers below n, c are so.
pub data Times (So : ℕ → Type 0) : ℕ → ℕ → Type 0 where
  none : Times So 0 0
  counts : {n c : ℕ} → So n → Times So n c → Times So (suc n) (suc c)
  passes : {n c : ℕ} → ¬ So n → Times So n c → Times So (suc n) c

-- Record r is an arc of a sort at place p.
abbrev pub ArcAt : Table → ℕ → ℕ → ℕ → Type 0
ArcAt tb sort p r = (tb.kind r ≡ 3) × (tb.sort r ≡ sort) × (tb.one r ≡ p)

-- Over the first n records, the arcs of a sort move w at place p: each its weight, as often as its transition fired.
pub data Moves (tb : Table) (sort p : ℕ) (s : List ℕ) : ℕ → ℕ → Type 0 where
  none : Moves tb sort p s 0 0
  counts : {n w : ℕ} → ArcAt tb sort p n → Moves tb sort p s n w
      → Moves tb sort p s (suc n) (w + tb.four n * times_of s (tb.two n))
  passes : {n w : ℕ} → ¬ ArcAt tb sort p n → Moves tb sort p s n w → Moves tb sort p s (suc n) w

-- The net change of place p is d: with what basic arcs take it comes to what post arcs put.
pub record Net (tb : Table) (s : List ℕ) (p : ℕ) (d : ℤ) : Type 0 where
  pub put : ℕ
  pub taken : ℕ
  pub puts : Moves tb 3 p s tb.records put
  pub takes : Moves tb 0 p s tb.records taken
  pub makes : d +ℤ pos taken ≡ pos put

-- Transition k fires in cycle j of a run, counted from 0: the cycle begins with the image that the cycles before it
-- left, takes its word, and the set that fires by the rules has k.
pub record CycleFires (bs img ws : List ℕ) (k j : ℕ) : Type 0 where
  pub before : List ℕ
  pub before_is : Reaches (table bs) (words_of (length ws / 8) ws) img j before
  pub word : ℕ
  pub word_is : WordSpelt ws j word
  pub next : State
  pub fired : ℕ → Bool
  pub actions : ℕ → Bool
  pub functions : ℕ → Bool
  pub turn : Turn (table bs) (state (image before)) word fired actions functions next
  pub fires : fired k ≡ true
