-- Document 01, "What the station hands over" and "Answer numbers and their order": what check, start, run and
-- lookup leave behind.
use Rattle.std.specs.Prelude.{cond, not, ◌&&◌, ◌||◌, List, [], ◌∷◌, ◌++◌, ℕ, zero, suc, ◌*◌, ◌-◌, ◌/◌, ◌%◌, ltb, leb}
use Rattle.std.specs.Prelude.{eqb, length, take, drop}
use Rattle.meaning.specs.Below.{first}
use Rattle.meaning.specs.Bytes.{number}
use Rattle.meaning.specs.Table.{Table, table}
use Rattle.meaning.specs.Answer.{Answer, accepted, refused, Check, check_of, decide}
use Rattle.meaning.specs.Defined.{table_checks}
use Rattle.meaning.specs.Image.{image_bytes, fresh, state_checks}
use Rattle.meaning.specs.Cycle.{cycle, overfull}

-- START

-- What start leaves: its answer and every byte of the image.
pub record Start : Type 0 where
  pub answer : Answer
  pub image : List ℕ

-- Start tests 1 to 9, then 12: the image is not 768 bytes.
unfoldable pub start_checks : List ℕ → List ℕ → List Check
start_checks bs img = table_checks bs ++ check_of 1 (λ k. not (eqb (length img) 768)) (λ k. refused 12 0) ∷ []

-- Accepted, the image is the fresh net's; refused, it is as it was.
unfoldable pub start : List ℕ → List ℕ → Start
start bs img =
    let answer = decide (start_checks bs img) (accepted 0) in
    let begun : Start = record { answer = answer; image = image_bytes (fresh (table bs)) } in
    let refusal : Start = record { answer = answer; image = img } in
    cond (eqb answer.number 0) begun refusal

-- RUN

-- The first n words of a list of bytes, eight bytes each.
unfoldable pub words_of : ℕ → List ℕ → List ℕ
words_of zero ws = []
words_of (suc n) ws = number (take 8 ws) ∷ words_of n (drop 8 ws)

-- 11 words: the length is no multiple of 8, or above 4,096. 12 room: the report is shorter than 24 bytes a word.
unfoldable pub word_checks : List ℕ → List ℕ → List Check
word_checks ws report =
    check_of 1 (λ k. not (eqb (length ws % 8) 0) || ltb 4096 (length ws)) (λ k. refused 11 0)
    ∷ check_of 1 (λ k. ltb (length report) (24 * (length ws / 8))) (λ k. refused 12 0)
    ∷ []

-- Run tests 1 to 9, then 10, 11 and 12.
unfoldable pub run_checks : List ℕ → List ℕ → List ℕ → List ℕ → List Check
run_checks bs img ws report = table_checks bs ++ state_checks (table bs) img ++ word_checks ws report

-- What a list of words comes to: number and `where`, finished cycles, the image then, and the bytes that the
-- finished cycles report.
pub record Trace : Type 0 where
  pub number : ℕ
  pub at : ℕ
  pub cycles : ℕ
  pub image : List ℕ
  pub written : List ℕ

-- A cycle that is refused: 13 at the lowest place that would be overfull, and nothing of the cycle is kept.
abbrev pub stopped : ℕ → List ℕ → Trace
stopped p img = record { number = 13; at = p; cycles = 0; image = img; written = [] }

-- A finished cycle, and what comes after it.
abbrev pub and_then : List ℕ → Trace → Trace
and_then bs rest =
    record {
      number = rest.number;
      at = rest.at;
      cycles = suc rest.cycles;
      image = rest.image;
      written = bs ++ rest.written;
    }

-- One cycle a word, until one is refused.
unfoldable pub trace : Table → List ℕ → List ℕ → Trace
trace tb [] img = record { number = 0; at = 0; cycles = 0; image = img; written = [] }
trace tb (w ∷ ws) img =
    let c = cycle tb img w in
    let full = first 128 (overfull tb c.after) in
    let rest = trace tb ws (image_bytes c.after) in
    let refusal = stopped full img in
    let finished = and_then c.written rest in
    cond (ltb full 128) refusal finished

-- What run leaves: its answer, every byte of the image and every byte of the report.
pub record Run : Type 0 where
  pub answer : Answer
  pub image : List ℕ
  pub report : List ℕ

-- What a trace leaves in a report: the finished cycles' records, and beyond them what was there.
abbrev pub ran : Trace → List ℕ → Run
ran t report =
    record {
      answer = record { number = t.number; at = t.at; cycles = t.cycles };
      image = t.image;
      report = t.written ++ drop (length t.written) report;
    }

-- Refused before any cycle, every byte is as it was; else the words' cycles are done.
unfoldable pub run : List ℕ → List ℕ → List ℕ → List ℕ → Run
run bs img ws report =
    let answer = decide (run_checks bs img ws report) (accepted 0) in
    let refusal : Run = record { answer = answer; image = img; report = report } in
    let done = ran (trace (table bs) (words_of (length ws / 8) ws) img) report in
    cond (eqb answer.number 0) done refusal

-- LOOKUP

-- The 24 bytes of cycle n, counted from 1, as a part of the report; empty for 0 and for a cycle that the report
-- does not hold whole.
unfoldable pub lookup : List ℕ → ℕ → List ℕ
lookup report n = cond (leb 1 n && leb n (length report / 24)) (take 24 (drop (24 * (n - 1)) report)) []

-- Where that part begins, in bytes from the report's beginning; an empty part stands at the beginning.
unfoldable pub lookup_from : List ℕ → ℕ → ℕ
lookup_from report n = cond (leb 1 n && leb n (length report / 24)) (24 * (n - 1)) 0
