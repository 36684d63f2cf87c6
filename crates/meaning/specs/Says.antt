-- Document 01's answer table once more, row by row, in words of logic and apart from the definitions that
-- compute: what each number says, and which of two answers comes earlier. The laws of proofs/Answers.antt hold
-- check, start and run to it.
use Rattle.std.specs.Prelude.{List, ◌⊎◌, ◌≢◌, ◌≡◌, cond, ◌||◌, ℕ, ◌+◌, ◌*◌, ◌/◌, ◌%◌, ◌≤◌, ◌<◌, eqb, length}
use Rattle.meaning.specs.Table.{Table, table}
use Rattle.meaning.specs.Image.{Image, image}

-- The kinds and sorts that exist.
pub data Sort : ℕ → ℕ → Type 0 where
  place : Sort 1 0
  untimed : Sort 2 0
  between : Sort 2 1
  from : Sort 2 2
  basic : Sort 3 0
  test : Sort 3 1
  inhibitor : Sort 3 2
  post : Sort 3 3
  wanted_true : Sort 4 0
  wanted_false : Sort 4 1
  priority : Sort 5 0
  action : Sort 6 0
  function : Sort 7 0

-- A record as the table of kinds shows it: kind, byte 1, byte 2, sort, bytes 4-5, bytes 6-7.
pub data Shown : ℕ → ℕ → ℕ → ℕ → ℕ → ℕ → Type 0 where
  place : {p m : ℕ} → p ≤ 127 → m ≤ 65535 → Shown 1 p 0 0 m 0
  untimed : {t : ℕ} → t ≤ 63 → Shown 2 t 0 0 0 0
  between : {t a b : ℕ} → t ≤ 63 → 1 ≤ a → a ≤ b → b ≤ 65534 → Shown 2 t 0 1 a b
  from : {t a : ℕ} → t ≤ 63 → 1 ≤ a → a ≤ 65535 → Shown 2 t 0 2 a 0
  arc : {p t s w : ℕ} → p ≤ 127 → t ≤ 63 → s ≤ 3 → 1 ≤ w → w ≤ 65535 → Shown 3 p t s w 0
  condition : {t c s : ℕ} → t ≤ 63 → c ≤ 63 → s ≤ 1 → Shown 4 t c s 0 0
  priority : {u t : ℕ} → u ≤ 63 → t ≤ 63 → Shown 5 u t 0 0 0
  action : {p k : ℕ} → p ≤ 127 → k ≤ 63 → Shown 6 p k 0 0 0
  function : {t k : ℕ} → t ≤ 63 → k ≤ 63 → Shown 7 t k 0 0 0

-- The table declares place p; transition t; transition t with a sort.
abbrev pub Place : Table → ℕ → Type 0
Place tb p = (r : ℕ) × (r < tb.records) × (tb.kind r ≡ 1) × (tb.one r ≡ p)

abbrev pub Transition : Table → ℕ → Type 0
Transition tb t = (r : ℕ) × (r < tb.records) × (tb.kind r ≡ 2) × (tb.one r ≡ t)

-- An arc of sort s and weight w between place p and transition t; a condition c of transition t with its sort.
abbrev pub Arc : Table → ℕ → ℕ → ℕ → ℕ → Type 0
Arc tb s p t w =
    (r : ℕ) × (r < tb.records) × (tb.kind r ≡ 3) × (tb.sort r ≡ s) × (tb.one r ≡ p) × (tb.two r ≡ t)
    × (tb.four r ≡ w)

abbrev pub Wanted : Table → ℕ → ℕ → ℕ → Type 0
Wanted tb t c s = (r : ℕ) × (r < tb.records) × (tb.kind r ≡ 4) × (tb.one r ≡ t) × (tb.two r ≡ c) × (tb.sort r ≡ s)

-- Records s and r say the same thing.
pub data Same (tb : Table) (s r : ℕ) : Type 0 where
  place : tb.kind s ≡ 1 → tb.kind r ≡ 1 → tb.one s ≡ tb.one r → Same tb s r
  transition : tb.kind s ≡ 2 → tb.kind r ≡ 2 → tb.one s ≡ tb.one r → Same tb s r
  input_arc : tb.kind s ≡ 3 → tb.kind r ≡ 3 → tb.sort s ≤ 2 → tb.sort r ≤ 2 → tb.one s ≡ tb.one r
      → tb.two s ≡ tb.two r
      → Same tb s r
  post_arc : tb.kind s ≡ 3 → tb.kind r ≡ 3 → tb.sort s ≡ 3 → tb.sort r ≡ 3 → tb.one s ≡ tb.one r
      → tb.two s ≡ tb.two r
      → Same tb s r
  condition : tb.kind s ≡ 4 → tb.kind r ≡ 4 → tb.one s ≡ tb.one r → tb.two s ≡ tb.two r → Same tb s r
  priority : tb.kind s ≡ 5 → tb.kind r ≡ 5 → tb.one s ≡ tb.one r → tb.two s ≡ tb.two r → Same tb s r
  action : tb.kind s ≡ 6 → tb.kind r ≡ 6 → tb.one s ≡ tb.one r → tb.two s ≡ tb.two r → Same tb s r
  function : tb.kind s ≡ 7 → tb.kind r ≡ 7 → tb.one s ≡ tb.one r → tb.two s ≡ tb.two r → Same tb s r

-- Record r names a place or a transition that no record declares.
pub data NamesUnknown (tb : Table) (r : ℕ) : Type 0 where
  arc_place : tb.kind r ≡ 3 → ¬ Place tb (tb.one r) → NamesUnknown tb r
  arc_transition : tb.kind r ≡ 3 → ¬ Transition tb (tb.two r) → NamesUnknown tb r
  condition : tb.kind r ≡ 4 → ¬ Transition tb (tb.one r) → NamesUnknown tb r
  higher : tb.kind r ≡ 5 → ¬ Transition tb (tb.one r) → NamesUnknown tb r
  lower : tb.kind r ≡ 5 → ¬ Transition tb (tb.two r) → NamesUnknown tb r
  action : tb.kind r ≡ 6 → ¬ Place tb (tb.one r) → NamesUnknown tb r
  function : tb.kind r ≡ 7 → ¬ Transition tb (tb.one r) → NamesUnknown tb r

-- The transitive closure of the kind 5 records, as a relation: u stands above t.
pub data Above (tb : Table) : ℕ → ℕ → Type 0 where
  pair : (r : ℕ) → r < tb.records → tb.kind r ≡ 5 → Above tb (tb.one r) (tb.two r)
  chain : {u v t : ℕ} → Above tb u v → Above tb v t → Above tb u t

-- Both have a basic arc from one place (source document 001, definition 10).
abbrev pub Conflict : Table → ℕ → ℕ → Type 0
Conflict tb i j = (p : ℕ) × (v : ℕ) × (w : ℕ) × Arc tb 0 p i v × Arc tb 0 p j w

-- The three ways to settle a pair (definitions 12 to 14).
pub data Settled (tb : Table) (i j : ℕ) : Type 0 where
  higher : Above tb i j → Settled tb i j
  lower : Above tb j i → Settled tb i j
  wants : (c : ℕ) → Wanted tb i c 0 → Wanted tb j c 1 → Settled tb i j
  shuns : (c : ℕ) → Wanted tb i c 1 → Wanted tb j c 0 → Settled tb i j
  inhibits : (p w : ℕ) → Arc tb 0 p i w ⊎ Arc tb 1 p i w → Arc tb 2 p j w → Settled tb i j
  inhibited : (p w : ℕ) → Arc tb 0 p j w ⊎ Arc tb 1 p j w → Arc tb 2 p i w → Settled tb i j

-- Rows 1 to 9: number and where.
pub data TableSays (bs : List ℕ) : ℕ → ℕ → Type 0 where
  length_odd : length bs % 8 ≢ 0 → TableSays bs 1 0
  length_long : 8192 < length bs → TableSays bs 1 0
  kind : {r : ℕ} → r < (table bs).records → ¬ Sort ((table bs).kind r) ((table bs).sort r) → TableSays bs 2 r
  field : {r : ℕ} → r < (table bs).records
      → ¬ Shown ((table bs).kind r) ((table bs).one r) ((table bs).two r) ((table bs).sort r) ((table bs).four r)
      ((table bs).six r)
      → TableSays bs 3 r
  twice : {r : ℕ} (s : ℕ) → s < r → r < (table bs).records → Same (table bs) s r → TableSays bs 4 r
  unknown : {r : ℕ} → r < (table bs).records → NamesUnknown (table bs) r → TableSays bs 5 r
  no_place : ((p : ℕ) → ¬ Place (table bs) p) → TableSays bs 6 0
  no_transition : ((t : ℕ) → ¬ Transition (table bs) t) → TableSays bs 6 1
  isolated_place : {p : ℕ} → Place (table bs) p → ((s t w : ℕ) → ¬ Arc (table bs) s p t w) → TableSays bs 7 p
  isolated_transition : (t : ℕ) → Transition (table bs) t → ((s p w : ℕ) → ¬ Arc (table bs) s p t w)
      → TableSays bs 7 (128 + t)
  circle : {t : ℕ} → Above (table bs) t t → TableSays bs 8 t
  conflict : (i j : ℕ) → i < j → j < 64 → Conflict (table bs) i j → ¬ Settled (table bs) i j
      → TableSays bs 9 (64 * i + j)

-- A place's record of the image fits.
pub record PlaceFits (tb : Table) (img : Image) (p : ℕ) : Type 0 where
  pub third : img.third p ≡ 0
  pub fourth : img.fourth p ≡ 0
  pub undeclared : ¬ Place tb p → img.number p ≡ 0

-- A transition's record of the image fits. `Timed tb t s r`: record r declares t with sort s.
abbrev pub Timed : Table → ℕ → ℕ → ℕ → Type 0
Timed tb t s r = (r < tb.records) × (tb.kind r ≡ 2) × (tb.one r ≡ t) × (tb.sort r ≡ s)

pub record TransitionFits (tb : Table) (img : Image) (t : ℕ) : Type 0 where
  pub order : img.third (128 + t) ≤ 1
  pub fourth : img.fourth (128 + t) ≡ 0
  pub untimed : ((r : ℕ) → ¬ Timed tb t 1 r) → ((r : ℕ) → ¬ Timed tb t 2 r)
      → (img.number (128 + t) ≡ 0) × (img.third (128 + t) ≡ 0)
  pub between : (r : ℕ) → Timed tb t 1 r → img.number (128 + t) ≤ tb.six r + 1
  pub from : (r : ℕ) → Timed tb t 2 r → img.number (128 + t) ≤ tb.four r

-- An image fits a table: it has 768 bytes, and each record fits.
pub record ImageFits (tb : Table) (img : List ℕ) : Type 0 where
  pub long : length img ≡ 768
  pub place : (p : ℕ) → p < 128 → PlaceFits tb (image img) p
  pub transition : (t : ℕ) → t < 64 → TransitionFits tb (image img) t

-- What start refuses: 1 to 9, and 12.
pub data StartSays (bs img : List ℕ) : ℕ → ℕ → Type 0 where
  of_table : {n w : ℕ} → TableSays bs n w → StartSays bs img n w
  room : length img ≢ 768 → StartSays bs img 12 0

-- What run refuses before any cycle: 1 to 9, 10, 11 and 12.
pub data RunSays (bs img ws report : List ℕ) : ℕ → ℕ → Type 0 where
  of_table : {n w : ℕ} → TableSays bs n w → RunSays bs img ws report n w
  image_length : length img ≢ 768 → RunSays bs img ws report 10 192
  image_place : {p : ℕ} → length img ≡ 768 → p < 128 → ¬ PlaceFits (table bs) (image img) p
      → RunSays bs img ws report 10 p
  image_transition : (t : ℕ) → length img ≡ 768 → t < 64 → ¬ TransitionFits (table bs) (image img) t
      → RunSays bs img ws report 10 (128 + t)
  words_odd : length ws % 8 ≢ 0 → RunSays bs img ws report 11 0
  words_long : 4096 < length ws → RunSays bs img ws report 11 0
  room : length report < 24 * (length ws / 8) → RunSays bs img ws report 12 0

-- The order: 1; then records in order, each tested for 2, 3, 4; then 5, 6 and so on. Within one stage the lower
-- where comes first, and at one record the lower number.
unfoldable pub stage : ℕ → ℕ
stage n = cond (eqb n 3 || eqb n 4) 2 n

abbrev pub Earlier : ℕ → ℕ → ℕ → ℕ → Type 0
Earlier n' w' n w = (stage n' < stage n) ⊎ ((stage n' ≡ stage n) × ((w' < w) ⊎ ((w' ≡ w) × (n' < n))))

-- The first that is said: said, and nothing earlier is.
abbrev pub First : (ℕ → ℕ → Type 0) → ℕ → ℕ → Type 0
First Says n w = Says n w × ((n' w' : ℕ) → Earlier n' w' n w → ¬ Says n' w')
