-- How far the numbers of a table go.
use Rattle.std.specs.Prelude.{cond, ℕ, zero, suc, ◌<◌, ltb}
use Rattle.meaning.specs.Table.{Table}

-- The larger of two numbers, and the highest byte 1 of the first n records, 0 where there is none.
abbrev pub larger_of : ℕ → ℕ → ℕ
larger_of a b = cond (ltb a b) b a

unfoldable pub top : Table → ℕ → ℕ
top tb zero = 0
top tb (suc n) = larger_of (top tb n) (tb.one n)

-- One more than the highest byte 1 of all records.
unfoldable pub extent_of : Table → ℕ
extent_of tb = suc (top tb tb.records)

-- There is room for the numbers of the table: each byte 1 that may be a number is below n.
abbrev pub Roomy : Table → ℕ → Type 0
Roomy tb n = (r : ℕ) → r < tb.records → tb.one r < 128 → tb.one r < n
