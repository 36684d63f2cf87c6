-- The eight bytes that are copied are those that spell the number.
use mathlib.Core.List.{append_assoc}
use mathlib.Core.Path.{◌≡◌, sym, ◌∙◌}
use Prim.Native.Nat.{ℕ, ◌+◌, ◌/◌}
use native.Mathlib.Omega.{arith}
use lib.ListN.{take, drop}
use borrow.Rule.Slice.PartMut.{Post-is}
use Rattle.std.specs.Int.{w64, to_le_bytes}
use Rattle.meaning.specs.Bytes.{bytes}
use Rattle.numbers.proofs.put_eight.Goals as goal

-- Byte by byte they are the same.
same : (x : ℕ) → to_le_bytes w64 x ≡ bytes 8 x
unfolding bytes
same x =
    let d2 : x / 65536 ≡ x / 256 / 256 = omega arith in
    let d3 : x / 16777216 ≡ x / 256 / 256 / 256 = omega arith in
    let d4 : x / 4294967296 ≡ x / 256 / 256 / 256 / 256 = omega arith in
    let d5 : x / 1099511627776 ≡ x / 256 / 256 / 256 / 256 / 256 = omega arith in
    let d6 : x / 281474976710656 ≡ x / 256 / 256 / 256 / 256 / 256 / 256 = omega arith in
    let d7 : x / 72057594037927936 ≡ x / 256 / 256 / 256 / 256 / 256 / 256 / 256 = omega arith in
    cc

pub returns : goal.returns
returns c =
    let a = c.args in
    let eight : c.copy_from_slice.new.self ≡ bytes 8 a.x =
    c.copy_from_slice.ensures.after ∙ c.to_le_bytes.ensures ∙ same a.x in
    rw (eight, Post-is a.at (a.at + 8) a.out.now (omega arith))
    (sym (append_assoc (take a.at a.out.now) (bytes 8 a.x) (drop (a.at + 8) a.out.now)))
