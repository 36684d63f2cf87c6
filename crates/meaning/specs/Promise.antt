-- What each public call promises: the relations that the calls' `ensures` use. Each fixes the answer and every
-- byte of what was lent to be written (document 01, "How much each statement has to say").
use Rattle.std.specs.Prelude.{List, ◌≡◌, ℕ, ◌+◌}
use Rattle.meaning.specs.Answer.{Answer}
use Rattle.meaning.specs.Defined.{check}
use Rattle.meaning.specs.Calls.{start, run, lookup, lookup_from}

-- Check: number, where and cycles done.
pub record Checked (table : List ℕ) (answer : Answer) : Type 0 where
  pub answer_is : answer ≡ check table

-- Start: the answer, and the image afterwards.
pub record Started (table image : List ℕ) (answer : Answer) (image' : List ℕ) : Type 0 where
  pub answer_is : answer ≡ (start table image).answer
  pub image_is : image' ≡ (start table image).image

-- Run: the answer, and image and report afterwards.
pub record Ran (table image words report : List ℕ) (answer : Answer) (image' report' : List ℕ) : Type 0 where
  pub answer_is : answer ≡ (run table image words report).answer
  pub image_is : image' ≡ (run table image words report).image
  pub report_is : report' ≡ (run table image words report).report

-- Lookup: the part handed back, and where it stands. A place in memory is a block and a byte of it.
pub record LookedUp (report : List ℕ) (at : ℕ × ℕ) (cycle : ℕ) (part : List ℕ) (part_at : ℕ × ℕ) : Type 0 where
  pub part_is : part ≡ lookup report cycle
  pub block_is : part_at.0 ≡ at.0
  pub byte_is : part_at.1 ≡ at.1 + lookup_from report cycle
