-- Document 01, "Nets on the bench": the nets marked P as one table of cases. Weights are 1 unless said.
use Rattle.std.specs.Prelude.{Bool, true, false, cond, ◌&&◌, List, [], ◌∷◌, ◌++◌, ℕ, zero, suc, ◌*◌, eqb, length}
use Rattle.std.specs.Prelude.{replicate, take, drop}
use Rattle.meaning.specs.Bytes.{number, bytes}
use Rattle.meaning.specs.Table.{Table, table}
use Rattle.meaning.specs.Image.{image_bytes}
use Rattle.meaning.specs.Cycle.{cycle}
use Rattle.meaning.specs.Calls.{start, run}

-- A record: kind, byte 1, byte 2, sort, bytes 4-5, bytes 6-7.
abbrev rec : ℕ → ℕ → ℕ → ℕ → ℕ → ℕ → List ℕ
rec k o t s f x = (k ∷ o ∷ t ∷ s ∷ []) ++ bytes 2 f ++ bytes 2 x

abbrev pub place : ℕ → ℕ → List ℕ
place p tokens = rec 1 p 0 0 tokens 0

abbrev pub untimed : ℕ → List ℕ
untimed t = rec 2 t 0 0 0 0

abbrev pub between : ℕ → ℕ → ℕ → List ℕ
between t a b = rec 2 t 0 1 a b

abbrev pub basic : ℕ → ℕ → List ℕ
basic p t = rec 3 p t 0 1 0

abbrev pub test : ℕ → ℕ → List ℕ
test p t = rec 3 p t 1 1 0

abbrev pub inhibitor : ℕ → ℕ → List ℕ
inhibitor p t = rec 3 p t 2 1 0

abbrev pub post : ℕ → ℕ → List ℕ
post p t = rec 3 p t 3 1 0

abbrev pub wants : ℕ → ℕ → List ℕ
wants t c = rec 4 t c 0 0 0

abbrev pub over : ℕ → ℕ → List ℕ
over u t = rec 5 u t 0 0 0

abbrev pub action : ℕ → ℕ → List ℕ
action p k = rec 6 p k 0 0 0

abbrev pub function : ℕ → ℕ → List ℕ
function t k = rec 7 t k 0 0 0

-- Net N of "The program", without its priority, and whole.
unfoldable pub N_unsettled : List ℕ
N_unsettled =
    place 0 1 ++ place 1 1 ++ place 2 1 ++ place 3 0 ++ place 4 0
    ++ untimed 0 ++ untimed 1 ++ between 2 2 3 ++ untimed 3
    ++ basic 0 0 ++ basic 2 0 ++ post 3 0
    ++ basic 1 1 ++ basic 2 1 ++ post 4 1
    ++ wants 2 0 ++ basic 3 2 ++ post 2 2 ++ function 2 0
    ++ basic 4 3 ++ post 2 3
    ++ action 3 0

unfoldable pub N : List ℕ
N = N_unsettled ++ over 0 1

-- Net 5: a place with one token, t0 basic and post to it, [2,2].
unfoldable pub net5 : List ℕ
net5 = place 0 1 ++ between 0 2 2 ++ basic 0 0 ++ post 0 0

-- Net 6: place 0 with so many tokens, t0 basic and post, t1 test with [2,2].
unfoldable pub net6 : ℕ → List ℕ
net6 n = place 0 n ++ untimed 0 ++ between 1 2 2 ++ basic 0 0 ++ post 0 0 ++ test 0 1

-- Net 7: one token, t0 basic, t1 test; then with t0 above t1.
unfoldable pub net7 : List ℕ
net7 = place 0 1 ++ untimed 0 ++ untimed 1 ++ basic 0 0 ++ test 0 1

-- Net 8: so many tokens, t0, t1, t2 basic, pairs 0 over 1 and 1 over 2, t1 wants condition 0.
unfoldable pub net8 : ℕ → List ℕ
net8 n =
    place 0 n ++ untimed 0 ++ untimed 1 ++ untimed 2 ++ basic 0 0 ++ basic 0 1 ++ basic 0 2 ++ over 0 1 ++ over 1 2
    ++ wants 1 0

-- Net 9: place 0 with 65,535, t0 without input posts to it; then t1 basic from it too.
unfoldable pub net9 : List ℕ
net9 = place 0 65535 ++ untimed 0 ++ post 0 0

-- Net 10: inhibitor of weight 1 from place 0, which has so many tokens, to t0, which posts to place 1.
unfoldable pub net10 : ℕ → List ℕ
net10 n = place 0 n ++ place 1 0 ++ untimed 0 ++ inhibitor 0 0 ++ post 1 0

-- A case: a table and words; the end that is expected (number, where, cycles) and the fired set of each
-- finished cycle; active actions and executed functions of the first cycles; and, of one transition, the
-- counter after each of the first cycles.
pub record Case : Type 0 where
  pub table : List ℕ
  pub words : List ℕ
  pub end : List ℕ
  pub fired : List ℕ
  pub actions : List ℕ
  pub functions : List ℕ
  pub counter : ℕ
  pub counts : List ℕ

abbrev pub case : List ℕ → List ℕ → List ℕ → List ℕ → Case
case tb ws e fs =
    record { table = tb; words = ws; end = e; fired = fs; actions = []; functions = []; counter = 0; counts = [] }

-- A case that is refused by start.
abbrev pub refusal : List ℕ → ℕ → ℕ → Case
refusal tb n w = case tb [] (n ∷ w ∷ 0 ∷ []) []

-- A case that fires these sets and is accepted.
abbrev pub fires : List ℕ → List ℕ → List ℕ → Case
fires tb ws fs = case tb ws (0 ∷ 0 ∷ length ws ∷ []) fs

-- Net N as the page prints it, words 0, 0, 1: the columns of its three lines, and its last line.
abbrev printed : Case
printed =
    record {
      table = N;
      words = 0 ∷ 0 ∷ 1 ∷ [];
      end = 0 ∷ 0 ∷ 3 ∷ [];
      fired = 1 ∷ 0 ∷ 4 ∷ [];
      actions = 0 ∷ 1 ∷ 1 ∷ [];
      functions = 0 ∷ 0 ∷ 1 ∷ [];
      counter = 0;
      counts = [];
    }

-- The nets marked P, with N as printed first. Of net 1's long tables the page leaves the bytes open: they are
-- all 0, so that 8,192 bytes pass check 1 and are refused by check 2 at record 0.
unfoldable pub nets_1_to_5 : List Case
nets_1_to_5 =
    printed
    ∷ refusal [] 6 0
    ∷ refusal (replicate 7 0) 1 0
    ∷ refusal (replicate 8200 0) 1 0
    ∷ refusal (replicate 8192 0) 2 0
    ∷ refusal N_unsettled 9 1
    ∷ fires N (0 ∷ 0 ∷ 1 ∷ 0 ∷ 0 ∷ []) (1 ∷ 0 ∷ 4 ∷ 2 ∷ 8 ∷ [])
    ∷ record {
      table = N;
      words = 0 ∷ 0 ∷ 0 ∷ 0 ∷ 0 ∷ 0 ∷ 1 ∷ [];
      end = 0 ∷ 0 ∷ 7 ∷ [];
      fired = 1 ∷ 0 ∷ 0 ∷ 0 ∷ 0 ∷ 0 ∷ 0 ∷ [];
      actions = [];
      functions = [];
      counter = 2;
      counts = 0 ∷ 1 ∷ 2 ∷ 3 ∷ 4 ∷ 4 ∷ [];
    }
    ∷ fires net5 (0 ∷ 0 ∷ 0 ∷ 0 ∷ []) (0 ∷ 1 ∷ 0 ∷ 1 ∷ [])
    ∷ []

unfoldable pub nets_6_to_10 : List Case
nets_6_to_10 =
    fires (net6 1) (0 ∷ 0 ∷ 0 ∷ []) (1 ∷ 1 ∷ 1 ∷ [])
    ∷ fires (net6 2) (0 ∷ 0 ∷ 0 ∷ 0 ∷ []) (1 ∷ 3 ∷ 1 ∷ 3 ∷ [])
    ∷ fires net7 (0 ∷ []) (3 ∷ [])
    ∷ fires (net7 ++ over 0 1) (0 ∷ []) (1 ∷ [])
    ∷ fires (net8 2) (0 ∷ []) (5 ∷ [])
    ∷ fires (net8 2) (1 ∷ []) (3 ∷ [])
    ∷ fires (net8 1) (0 ∷ []) (1 ∷ [])
    ∷ fires (net8 1) (1 ∷ []) (1 ∷ [])
    ∷ case net9 (0 ∷ []) (13 ∷ 0 ∷ 0 ∷ []) []
    ∷ fires (net9 ++ untimed 1 ++ basic 0 1) (0 ∷ []) (3 ∷ [])
    ∷ fires (net10 0) (0 ∷ []) (1 ∷ [])
    ∷ fires (net10 1) (0 ∷ []) (0 ∷ [])
    ∷ []

-- All of them, one table.
unfoldable pub nets : List Case
nets = nets_1_to_5 ++ nets_6_to_10

-- Net 11: t0 and t1 take from place 0, t1 and t2 from place 1; t0 and t2 stand above t1.
unfoldable pub net11 : List ℕ
net11 =
    place 0 1 ++ place 1 1 ++ untimed 0 ++ untimed 1 ++ untimed 2 ++ basic 0 0 ++ basic 0 1 ++ basic 1 1 ++ basic 1 2
    ++ over 0 1 ++ over 2 1

-- Net 12: t0 and t1 take from place 0; t0 takes 2 from place 1, which has an inhibitor arc of weight w to t1.
unfoldable pub net12 : ℕ → List ℕ
net12 w = place 0 1 ++ place 1 2 ++ untimed 0 ++ untimed 1 ++ basic 0 0 ++ basic 0 1 ++ rec 3 1 0 0 2 0
    ++ rec 3 1 1 2 w 0

-- One token, which t0 takes and puts back; t1, below it, takes too.
unfoldable pub put_back : List ℕ
put_back = place 0 1 ++ untimed 0 ++ untimed 1 ++ basic 0 0 ++ post 0 0 ++ basic 0 1 ++ over 0 1

-- Two full places, and t0 posts to both.
unfoldable pub two_full : List ℕ
two_full = place 0 65535 ++ place 1 65535 ++ untimed 0 ++ post 0 0 ++ post 1 0

-- Cases beside the page's: nets 11 and 12, a second record of a place with a byte that must be 0, and the two
-- nets above.
unfoldable pub beside : List Case
beside =
    fires net11 (0 ∷ []) (5 ∷ [])
    ∷ fires (net12 2) (0 ∷ []) (1 ∷ [])
    ∷ refusal (net12 1) 9 1
    ∷ refusal (net12 3) 9 1
    ∷ refusal (place 0 1 ++ rec 1 0 0 0 1 1) 3 1
    ∷ refusal (place 0 1 ++ place 0 1) 4 1
    ∷ fires put_back (0 ∷ []) (1 ∷ [])
    ∷ case two_full (0 ∷ []) (13 ∷ 0 ∷ 0 ∷ []) []
    ∷ []

-- Two lists of numbers are the same.
unfoldable pub alike : List ℕ → List ℕ → Bool
alike [] [] = true
alike [] (y ∷ ys) = false
alike (x ∷ xs) [] = false
alike (x ∷ xs) (y ∷ ys) = eqb x y && alike xs ys

-- The bytes of a list of words.
unfoldable pub word_bytes : List ℕ → List ℕ
word_bytes [] = []
word_bytes (w ∷ ws) = bytes 8 w ++ word_bytes ws

-- Of each of a report's first n cycles the set from byte i of its record on: 0 fired, 8 actions, 16 functions.
unfoldable pub sets_at : ℕ → ℕ → List ℕ → List ℕ
sets_at i zero rep = []
sets_at i (suc n) rep = number (take 8 (drop i rep)) ∷ sets_at i n (drop 24 rep)

-- The counter of transition t after each cycle.
unfoldable pub counts_of : Table → ℕ → List ℕ → List ℕ → List ℕ
counts_of tb t [] img = []
counts_of tb t (w ∷ ws) img =
    let after = (cycle tb img w).after in
    after.counter t ∷ counts_of tb t ws (image_bytes after)

-- A case passes: as the program does it, start on an image of zeros and, where that accepts, run on the words
-- with a report of zeros. The last answer is the expected end, and the report holds the expected sets.
unfoldable pub passes : Case → Bool
passes c =
    let ws = word_bytes c.words in
    let begun = start c.table (replicate 768 0) in
    let ended = run c.table begun.image ws (replicate (3 * length ws) 0) in
    let answer = cond (eqb begun.answer.number 0) ended.answer begun.answer in
    alike (answer.number ∷ answer.at ∷ answer.cycles ∷ []) c.end
    && alike (sets_at 0 answer.cycles ended.report) c.fired
    && alike (sets_at 8 (length c.actions) ended.report) c.actions
    && alike (sets_at 16 (length c.functions) ended.report) c.functions
    && alike (counts_of (table c.table) c.counter (take (length c.counts) c.words) begun.image)
    c.counts

-- Every case of a list passes.
unfoldable pub all_pass : List Case → Bool
all_pass [] = true
all_pass (c ∷ cs) = passes c && all_pass cs
