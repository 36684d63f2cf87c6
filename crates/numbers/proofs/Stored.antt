-- Numbers stored one behind the other.
use mathlib.Core.List.{List, ◌++◌, append_assoc}
use mathlib.Core.Path.{◌≡◌, refl, sym, ap, ◌∙◌}
use Prim.Native.Nat.{ℕ, ◌+◌, ◌-◌, ◌≤◌}
use native.Mathlib.Omega.{arith}
use lib.ListN.{length, take, drop, length-append}
use lib.Seq.{length-take-le, take_at, drop_at, drop-drop}
use Rattle.meaning.specs.Bytes.{bytes}

-- Eight bytes are eight.
pub eight : (x : ℕ) → length (bytes 8 x) ≡ 8
unfolding bytes
eight x = refl

-- A part stored behind the part before it: the two are one part.
pub joined : (l l₁ l₂ xs ys : List ℕ) (at i j : ℕ) → l₁ ≡ take at l ++ xs ++ drop i l
    → l₂ ≡ take i l₁ ++ ys ++ drop j l₁
    → at + length xs ≡ i → i ≤ j → at ≤ length l → l₂ ≡ take at l ++ (xs ++ ys) ++ drop j l
joined l l₁ l₂ xs ys at i j e f n h r =
    let front : length (take at l ++ xs) ≡ i = length-append (take at l) xs ∙ rw (length-take-le at l r) n in
    let before : take i l₁ ≡ take at l ++ xs = ap (take i) e ∙ take_at (take at l ++ xs) (drop i l) i front in
    let behind : drop i l₁ ≡ drop i l = ap (drop i) e ∙ drop_at (take at l ++ xs) (drop i l) i front in
    let past : i + (j - i) ≡ j = omega arith in
    let rest : (k : List ℕ) → drop j k ≡ drop (j - i) (drop i k) =
    λ k. ap (λ (n : ℕ). drop n k) (sym past) ∙ sym (drop-drop (j - i) i k) in
    f ∙ rw (before, rest l₁, behind, rest l) (ap (λ (k : List ℕ). k ++ drop (j - i) (drop i l))
    (append_assoc (take at l) xs ys))

-- Three numbers stored one behind the other.
pub three : (l l₁ l₂ l₃ : List ℕ) (at x y z : ℕ) → l₁ ≡ take at l ++ bytes 8 x ++ drop (at + 8) l
    → l₂ ≡ take (at + 8) l₁ ++ bytes 8 y ++ drop (at + 8 + 8) l₁
    → l₃ ≡ take (at + 16) l₂ ++ bytes 8 z ++ drop (at + 16 + 8) l₂
    → at + 24 ≤ length l → l₃ ≡ take at l ++ (bytes 8 x ++ bytes 8 y ++ bytes 8 z) ++ drop (at + 24) l
three l l₁ l₂ l₃ at x y z e f g h =
    let second : at + 8 + 8 ≡ at + 16 = omega arith in
    let third : at + 16 + 8 ≡ at + 24 = omega arith in
    let two =
    rw second at (joined l l₁ l₂ (bytes 8 x) (bytes 8 y) at (at + 8) (at + 8 + 8) e f (rw (eight x)) (omega arith)
    (omega arith)) in
    let long : at + length (bytes 8 x ++ bytes 8 y) ≡ at + 16 =
    rw (length-append (bytes 8 x) (bytes 8 y), eight x, eight y) in
    rw third at (joined l l₂ l₃ (bytes 8 x ++ bytes 8 y) (bytes 8 z) at (at + 16) (at + 16 + 8) two g long
    (omega arith) (omega arith))
