-- Adding goes number by number, and a total that is accepted has room for each part: so the order of adding does not
-- matter, and the empty summary is neutral.
use mathlib.Core.Bool.{Bool, false, or_comm, ◌||◌}
use mathlib.Core.List.{List, [], ◌∷◌}
use mathlib.Core.Path.{◌≡◌, refl, sym, ap, ap₂, ◌∙◌}
use Prim.Native.Nat.{ℕ, zero, suc, ◌+◌, ◌≤◌, ◌<◌}
use native.Mathlib.Nat.{add_comm, le_of_suc-le-suc}
use native.Mathlib.Omega.{arith}
use lib.Dec.{ltb}
use lib.ListN.{length, get_or, get_or-replicate}
use borrow.Author.Tests.{ltb-false, eq-eqb, ne_eqb}
use Rattle.meaning.specs.Answer.{Answer, accepted, refused, check_of, decide}
use Rattle.meaning.specs.Orders.{Order}
use Rattle.meaning.proofs.Reflect.{lt_decides, refuted, refutes}
use Rattle.summary.specs.Day.{cycles_of, times_of, empty, Summed, summed, too_often, add_checks, plus, add}
use Rattle.summary.specs.Spoken.{TooOften, AddSays}
use Rattle.summary.specs.Promised.{Added, Total}
use Rattle.summary.proofs.Listed.{length_listed, get_or_listed, listed_same, listed_is}
use Rattle.summary.proofs.Refusals.{often_decides, add_answer, add_accepts}

-- WHAT A CALL GIVES

-- Accepted, the numbers are given; refused, they are all 0.
pub given : (a : Answer) (s : List ℕ) → a.number ≡ 0 → (summed a s).counts ≡ s
unfolding summed
given a s e = rw (eq-eqb a.number 0 e)

pub withheld : (a : Answer) (s : List ℕ) → (a.number ≡ 0 → ⊥) → (summed a s).counts ≡ empty
unfolding summed
withheld a s n = rw (ne_eqb a.number 0 n)

-- No transition fired more often than there are cycles.
abbrev pub Fair : List ℕ → Type 0
Fair s = (k : ℕ) → k < 64 → times_of s k ≤ cycles_of s

fair_of : (s : List ℕ) → ¬ TooOften s → Fair s
fair_of s n k l =
    ltb-false (cycles_of s) (times_of s k) (refuted (lt_decides (cycles_of s) (times_of s k)) (λ h. n (k, l, h)))

pub fair_if : (s : List ℕ) → too_often s ≡ false → Fair s
fair_if s e = fair_of s (refutes (often_decides s) e)

-- SUMS, NUMBER BY NUMBER

-- Where the cycles of two fair summaries have a place in 32 bits together, all their numbers have.
pub sums_low : (x y : List ℕ) → Fair x → Fair y → cycles_of x + cycles_of y ≤ 4294967295
    → (i : ℕ) → i < 65 → get_or x i 0 + get_or y i 0 ≤ 4294967295
sums_low x y f g few zero l = few
sums_low x y f g few (suc k) l =
    omega (arith, f k (le_of_suc-le-suc l), g k (le_of_suc-le-suc l), few)

pub plus_at : (x y : List ℕ) (i : ℕ) → i < 65 → get_or (plus x y) i 0 ≡ get_or x i 0 + get_or y i 0
unfolding plus
plus_at x y i l = get_or_listed _ 65 i 0 l

plus_comm : (x y : List ℕ) → plus x y ≡ plus y x
unfolding plus
plus_comm x y = listed_same 65 _ _ (λ i l. add_comm (get_or x i 0) (get_or y i 0))

pub plus_long : (x y : List ℕ) → length (plus x y) ≡ 65
unfolding plus
plus_long x y = length_listed _ 65

-- A list with these sums is the sum.
plus_is : (x y s : List ℕ) → length s ≡ 65 → ((i : ℕ) → i < 65 → get_or s i 0 ≡ get_or x i 0 + get_or y i 0) → s ≡ plus x y
unfolding plus
plus_is x y s long each = listed_is _ 65 0 s long each

plus_assoc : (x y z : List ℕ) → plus (plus x y) z ≡ plus x (plus y z)
plus_assoc x y z =
    plus_is x (plus y z) (plus (plus x y) z) (plus_long (plus x y) z)
    (λ i l. omega (arith, plus_at (plus x y) z i l, plus_at x y i l, plus_at y z i l))

pub plus_fair : (x y : List ℕ) → Fair x → Fair y → Fair (plus x y)
plus_fair x y f g k l =
    omega (arith, plus_at x y (suc k) (omega (arith, l)), plus_at x y 0 (omega arith), f k l, g k l)

-- ACCEPTED

-- Two summaries can be added exactly if both are fair and the cycles together have a place in 32 bits.
pub record Addable (x y : List ℕ) : Type 0 where
  pub one : Fair x
  pub other : Fair y
  pub few : cycles_of x + cycles_of y ≤ 4294967295

sums : (x y : List ℕ) → (add x y).answer ≡ accepted 0 → (add x y).counts ≡ plus x y
unfolding add
sums x y ok = given _ (plus x y) (ap (λ (a : Answer). a.number) (sym (add_answer x y) ∙ ok))

pub adds : (x y : List ℕ) → Addable x y → Added x y (accepted 0) (plus x y)
adds x y h =
    let ok = (add_accepts x y).1 never in
    record { answer_is = sym ok; counts_are = sym (sums x y ok) }
  where
    never : (n w : ℕ) → AddSays x y n w → ⊥
    never n w (AddSays.one_wrong (k, l, m)) = omega (arith, h.one k l, m)
    never n w (AddSays.other_wrong (k, l, m)) = omega (arith, h.other k l, m)
    never n w (AddSays.too_many m) = omega (arith, h.few, m)

pub added : (x y s : List ℕ) → Added x y (accepted 0) s → Addable x y × (s ≡ plus x y)
added x y s a =
    let none = (add_accepts x y).0 (sym a.answer_is) in
    let can : Addable x y =
    record {
      one = fair_of x (λ o. none 15 0 (AddSays.one_wrong o));
      other = fair_of y (λ o. none 15 0 (AddSays.other_wrong o));
      few =
          ltb-false 4294967295 (cycles_of x + cycles_of y)
          (refuted (lt_decides 4294967295 (cycles_of x + cycles_of y)) (λ m. none 15 0 (AddSays.too_many m)));
    } in
    (can, a.counts_are ∙ sym (adds x y can).counts_are)

-- THE ORDER

-- Of two summaries: the same outcome, refused too.
pub add_commutes : (x y : List ℕ) → add x y ≡ add y x
unfolding add add_checks
add_commutes x y =
    ap₂ (λ (b : Bool) (s : List ℕ). summed (decide (check_of 1 (λ k. b) (λ k. refused 15 0) ∷ []) (accepted 0)) s)
    (ap₂ (λ (b : Bool) (n : ℕ). b || ltb 4294967295 n) (or_comm (too_often x) (too_often y))
    (add_comm (cycles_of x) (cycles_of y)))
    (plus_comm x y)

-- Of three: where the one grouping is accepted the other is, with the same sum.
pub add_groups : (x y z xy s : List ℕ) → Added x y (accepted 0) xy → Added xy z (accepted 0) s
    → Added y z (accepted 0) (plus y z) × Added x (plus y z) (accepted 0) s
add_groups x y z xy s a b =
    let (can, e) = added x y xy a in
    let (can', e') = added xy z s b in
    let together : cycles_of (plus x y) + cycles_of z ≤ 4294967295 =
    rw e at can'.few in
    let front = plus_at x y 0 (omega arith) in
    let back = plus_at y z 0 (omega arith) in
    let yz : Addable y z = record { one = can.other; other = can'.other; few = omega (arith, together, front) } in
    let whole : Addable x (plus y z) =
    record {
      one = can.one;
      other = plus_fair y z can.other can'.other;
      few = omega (arith, together, front, back);
    } in
    let same : plus x (plus y z) ≡ s = sym (e' ∙ ap (λ (l : List ℕ). plus l z) e ∙ plus_assoc x y z) in
    (adds y z yz, rw same at (adds x (plus y z) whole))

-- Of a list: where one order's total is accepted every order's is, and they are the same.
swapped : (s x y s₁ s₂ : List ℕ) → Added s x (accepted 0) s₁ → Added s₁ y (accepted 0) s₂
    → Added s y (accepted 0) (plus s y) × Added (plus s y) x (accepted 0) s₂
swapped s x y s₁ s₂ a b =
    let (can, e) = added s x s₁ a in
    let (can', e') = added s₁ y s₂ b in
    let together : cycles_of (plus s x) + cycles_of y ≤ 4294967295 =
    rw e at can'.few in
    let front = plus_at s x 0 (omega arith) in
    let other = plus_at s y 0 (omega arith) in
    let sy : Addable s y = record { one = can.one; other = can'.other; few = omega (arith, together, front) } in
    let whole : Addable (plus s y) x =
    record {
      one = plus_fair s y can.one can'.other;
      other = can.other;
      few = omega (arith, together, front, other);
    } in
    let same : plus (plus s y) x ≡ s₂ =
    plus_assoc s y x
    ∙ ap (plus s) (plus_comm y x)
    ∙ sym (plus_assoc s x y)
    ∙ sym (e' ∙ ap (λ (l : List ℕ). plus l y) e) in
    (adds s y sy, rw same at (adds (plus s y) x whole))

pub any_order : {s end : List ℕ} {xs ys : List (List ℕ)} → Order xs ys → Total s xs end → Total s ys end
any_order Order.none t = t
any_order (Order.keep o) (Total.more a t) = Total.more a (any_order o t)
any_order (Order.swap {x} {y}) (Total.more {s = s} {s' = s₁} a (Total.more {s' = s₂} b t)) =
    let (c, d) = swapped s x y s₁ s₂ a b in
    Total.more c (Total.more d t)
any_order (Order.again o q) t = any_order q (any_order o t)

pub total_once : {s end end' : List ℕ} {xs : List (List ℕ)} → Total s xs end → Total s xs end' → end ≡ end'
total_once Total.done Total.done = refl
total_once (Total.more {s' = s₁} a t) (Total.more {s' = s₂} b u) =
    let same : s₁ ≡ s₂ = a.counts_are ∙ sym b.counts_are in
    total_once (rw same at t) u

-- THE EMPTY SUMMARY

empty_at : (i : ℕ) → i < 65 → get_or empty i 0 ≡ 0
empty_at i l = get_or-replicate 65 i 0 0 l

module _ (s : List ℕ) (long : length s ≡ 65) (few : cycles_of s ≤ 4294967295) (fair : ¬ TooOften s) where
  pub empty_first : Added empty s (accepted 0) s
  empty_first =
      let can : Addable empty s =
      record {
        one = λ k l. omega (arith, empty_at (suc k) (omega (arith, l)));
        other = fair_of s fair;
        few = omega (arith, few, empty_at 0 (omega arith));
      } in
      let same : s ≡ plus empty s = plus_is empty s s long (λ i l. omega (arith, empty_at i l)) in
      rw (sym same) at (adds empty s can)

  pub empty_last : Added s empty (accepted 0) s
  empty_last =
      let first = empty_first in
      record {
        answer_is = first.answer_is ∙ ap (λ (o : Summed). o.answer) (add_commutes empty s);
        counts_are = first.counts_are ∙ ap (λ (o : Summed). o.counts) (add_commutes empty s);
      }
