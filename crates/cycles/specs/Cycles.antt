-- What a call brings to its cycles, and what they leave: the meaning's steps over its words.
use Rattle.std.specs.Prelude.{cond, List, ◌∷◌, ◌++◌, ◌≡◌, ℕ, ◌*◌, ◌/◌, ◌^◌, ◌≤◌, ◌<◌, eqb, length, get_or, drop}
use Rattle.std.specs.Prelude.{Result, MatchResult}
use Rattle.meaning.specs.Below.{first}
use Rattle.meaning.specs.Bytes.{bit}
use Rattle.meaning.specs.Table.{table, transition}
use Rattle.meaning.specs.Image.{image, wrong}
use Rattle.meaning.specs.Calls.{words_of, trace, Run, ran}
use Rattle.meaning.specs.Steps.{Bursts, Steps}
use Rattle.rows.specs.declared.Declared.{Declared}
use Rattle.rows.specs.declared.Net.{Net}
use Rattle.rows.specs.Filed.{Sizes, NetOf}
use Rattle.turn.specs.Turn.{Laid}
use Rattle.answers.specs.declared.Refusal.{Refusal}
use Rattle.answers.specs.Numbered.{run_told}
use Rattle.cycles.specs.declared.Full.{Full}

-- The words of a list of bytes.
abbrev pub all_words : List ℕ → List ℕ
all_words ws = words_of (length ws / 8) ws

-- The net is that of the accepted table that the bytes spell, which the image fits; there are so many words, and room
-- for their records.
pub record CyclesOf (bs : List ℕ) (net : Net) (img ws : List ℕ) (count : ℕ) (report : List ℕ) : Type 0 where
  pub laid : Laid bs net
  pub whole : length img ≡ 768
  pub fits : first 192 (wrong (table bs) (image img)) ≡ 192
  pub enough : 8 * count ≤ length ws
  pub few : count ≤ 512
  pub room : 24 * count ≤ length report

pub record CyclesAsks (net : Net) (img ws : List ℕ) (count : ℕ) (report : List ℕ) : Type 0 where
  pub bs : List ℕ
  pub of : CyclesOf bs net img ws count report
  pub words : (i : ℕ) → get_or net.rows.now i 0 < 2 ^ 64

-- So many cycles are finished: where there are any the image is that of the last, and their records stand in the
-- report.
pub record Done (bs img ws report : List ℕ) (count : ℕ) (img' out : List ℕ) : Type 0 where
  pub left : List ℕ
  pub reached : List ℕ
  pub written : List ℕ
  pub steps : Steps (table bs) (all_words ws) img count left reached written
  pub image_is : cond (eqb count 0) img img' ≡ reached
  pub out_is : out ≡ written ++ drop (24 * count) report

-- So many cycles are finished, and the next is refused at place p.
pub record Broke (bs img ws report : List ℕ) (count p : ℕ) (out : List ℕ) : Type 0 where
  pub word : ℕ
  pub left : List ℕ
  pub reached : List ℕ
  pub written : List ℕ
  pub steps : Steps (table bs) (all_words ws) img count (word ∷ left) reached written
  pub bursts : Bursts (table bs) reached word p
  pub out_is : out ≡ written ++ drop (24 * count) report

-- Whatever table the net is of: all is done, or a cycle is refused, and the image is as it was.
pub record Cycled (net : Net) (img ws : List ℕ) (count : ℕ) (report : List ℕ) (e : Result Unit Full)
    (img' report' : List ℕ) : Type 0 where
  pub comes : (bs : List ℕ) → CyclesOf bs net img ws count report
      → MatchResult e (λ none. Done bs img ws report count img' report')
      (λ f. (f.done < count) × Broke bs img ws report f.done f.place report' × (img' ≡ img))

-- The image fits the table, the words are not too many, and the report has room for every one.
pub record Ready (bs img ws report : List ℕ) : Type 0 where
  pub long : length img ≡ 768
  pub fits : first 192 (wrong (table bs) (image img)) ≡ 192
  pub few : length ws ≤ 4096
  pub room : 24 * (length ws / 8) ≤ length report

-- The rows are those of the accepted table that the bytes spell, whose numbers are below n, with room for whole eights.
pub record PlayOf (bs : List ℕ) (n known : ℕ) (img ws report rows times : List ℕ) (w s : List (List ℕ))
    (heads posts : List ℕ) : Type 0 where
  pub declared : Declared
  pub net_of : NetOf bs n rows w s heads posts times declared
  pub eights : ℕ
  pub enough : n ≤ 8 * eights
  pub few : 8 * eights ≤ 128
  pub sizes : Sizes (8 * eights) (table bs).records rows w s heads posts times
  pub known_is : (t : ℕ) → t < 64 → bit known t ≡ transition (table bs) t
  pub ready : Ready bs img ws report

pub record PlayAsks (n known : ℕ) (img ws report rows times : List ℕ) (w s : List (List ℕ)) (heads posts : List ℕ)
    : Type 0 where
  pub bs : List ℕ
  pub of : PlayOf bs n known img ws report rows times w s heads posts

-- What the words' cycles leave of the image and the report.
abbrev pub left_by : List ℕ → List ℕ → List ℕ → List ℕ → Run
left_by bs img ws report = ran (trace (table bs) (all_words ws) img) report

-- The answer, the image and the report are the trace's.
pub record Ends (bs img ws report : List ℕ) (a : Result ℕ Refusal) (img' report' : List ℕ) : Type 0 where
  pub answer_is : run_told a ≡ (left_by bs img ws report).answer
  pub image_is : img' ≡ (left_by bs img ws report).image
  pub report_is : report' ≡ (left_by bs img ws report).report

-- Whatever table the rows are of.
pub record Played (n known : ℕ) (img ws report rows times : List ℕ) (w s : List (List ℕ)) (heads posts : List ℕ)
    (a : Result ℕ Refusal) (img' report' : List ℕ) : Type 0 where
  pub ends : (bs : List ℕ) → PlayOf bs n known img ws report rows times w s heads posts
      → Ends bs img ws report a img' report'
