-- `rest` takes the lowest number from s: s less 1 lacks it, has what s has above it, and below it s has nothing.
use mathlib.Core.Bool.{Bool, true, false, not, ◌&&◌}
use mathlib.Core.Path.{◌≡◌, refl, sym, ap, ◌∙◌}
use Prim.Native.Nat.{ℕ, zero, suc, ◌-◌, ◌/◌, ◌%◌, ◌≤◌, ◌<◌}
use native.Mathlib.Omega.{arith}
use lib.Dec.{eqb, eqb-zero-suc, eqb-suc-suc}
use lib.Pow.{pow_pos}
use borrow.Author.Tests.{eqb-true, eqb-false, ne_eqb, not-false}
use Rattle.meaning.specs.Below.{some, first}
use Rattle.meaning.specs.Bytes.{bit}
use Rattle.meaning.proofs.Below.{first_before, first_passes, some_elim}
use Rattle.meaning.proofs.Bool.{not_both}
use Rattle.sets.proofs.Bits.{bit_low, bit_high, bit-and, bit_zero, bit_least, zero_set}
use Rattle.sets.proofs.rest.Goals as goal

twice : (b : Bool) → (b && b) ≡ (b && true)
twice true = refl
twice false = refl

less_one : (k a j : ℕ) → bit a k ≡ true → ((i : ℕ) → i < k → bit a i ≡ false)
    → (bit a j && bit (a - 1) j) ≡ (bit a j && not (eqb k j))
less_one zero a zero e low =
    let odd : a % 2 ≡ 1 = eqb-true (a % 2) 1 (sym (bit_low a) ∙ e) in
    ap (λ (b : Bool). bit a 0 && b) (bit_low (a - 1) ∙ ne_eqb ((a - 1) % 2) 1 (λ z. omega arith))
less_one zero a (suc j) e low =
    let odd : a % 2 ≡ 1 = eqb-true (a % 2) 1 (sym (bit_low a) ∙ e) in
    let half : (a - 1) / 2 ≡ a / 2 = omega arith in
    rw (bit_high (a - 1) j, half, bit_high a j, eqb-zero-suc j) (twice (bit (a / 2) j))
less_one (suc k) a zero e low = rw (low 0 (omega arith))
less_one (suc k) a (suc j) e low =
    let even : ¬ (a % 2 ≡ 1) = eqb-false (a % 2) 1 (sym (bit_low a) ∙ low 0 (omega arith)) in
    let some : 1 ≤ a / 2 = omega (arith, bit_least (a / 2) k (sym (bit_high a k) ∙ e), pow_pos k) in
    let half : (a - 1) / 2 ≡ a / 2 - 1 = omega arith in
    rw (bit_high (a - 1) j, half, bit_high a j, eqb-suc-suc k j)
    (less_one k (a / 2) j (sym (bit_high a k) ∙ e) (λ i h. sym (bit_high a i) ∙ low (suc i) (omega arith)))

pub returns-then-s-eq0 : goal.returns-then-s-eq0
returns-then-s-eq0 c j = rw (c.if-s-eq0.true, bit_zero j)

pub returns-else-s-eq0 : goal.returns-else-s-eq0
returns-else-s-eq0 c j =
    let s : ℕ = c.args.s in
    let w =
    some_elim 64 (bit s) (not-false (some 64 (bit s))
    (sym (zero_set s (omega arith)) ∙ ne_eqb s 0 c.if-s-eq0.false)) in
    let above : ¬ (w.0 < first 64 (bit s)) = λ l. not_both w.2 (first_before 64 (bit s) w.0 l) in
    bit-and s (s - 1) j
    ∙ less_one (first 64 (bit s)) s j (first_passes 64 (bit s) (omega (arith, w.1))) (first_before 64 (bit s))
