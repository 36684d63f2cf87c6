-- An image is its records: two images whose records agree byte by byte are the same.
use mathlib.Core.Bool.{true, false}
use mathlib.Core.List.{List}
use mathlib.Core.Logic.{⊎_elim}
use mathlib.Core.Path.{◌≡◌, sym, ◌∙◌, subst}
use Prim.Native.Nat.{ℕ, ◌+◌, ◌*◌, ◌-◌, ◌/◌, ◌%◌, ◌<◌}
use native.Mathlib.Omega.{arith}
use lib.Dec.{ltb}
use lib.ListN.{length, get_or}
use lib.Seq.{ext_get_or}
use borrow.Author.Tests.{ltb-true, ltb-false}
use Rattle.meaning.proofs.Bool.{either}

-- Two images whose records agree byte by byte are the same.
pub image_same : (a b : List ℕ) → length a ≡ 768 → length b ≡ 768
    → ((k j : ℕ) → k < 192 → j < 4 → get_or a (4 * k + j) 0 ≡ get_or b (4 * k + j) 0) → a ≡ b
image_same a b la lb f =
    ext_get_or 0 a b (la ∙ sym lb)
    (λ i h.
    let whole : i ≡ 4 * (i / 4) + i % 4 = omega arith in
    subst (λ (x : ℕ). get_or a x 0 ≡ get_or b x 0) (sym whole) (f (i / 4) (i % 4) (omega arith) (omega arith)))

-- A record of an image is a place's or a transition's.
pub each_record : (P : ℕ → Type 0) → ((p : ℕ) → p < 128 → P p) → ((t : ℕ) → t < 64 → P (128 + t)) → (k : ℕ) → k < 192
    → P k
each_record P place transition k h =
    ⊎_elim (λ (e : ltb k 128 ≡ true). place k (ltb-true k 128 e))
    (λ (e : ltb k 128 ≡ false).
    let high = ltb-false k 128 e in
    let back : 128 + (k - 128) ≡ k = omega arith in
    subst P back (transition (k - 128) (omega arith)))
    (either (ltb k 128))
