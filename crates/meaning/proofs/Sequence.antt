-- Firing one by one, in any order: a list whose takings together are paid for by a marking can be fired from the
-- front, and the end depends only on sums over the list, which no change of order changes.
use mathlib.Core.Bool.{Bool, true, false, cond, ◌&&◌, ◌||◌, or-false as or_false_law}
use mathlib.Core.List.{List, [], ◌∷◌, ◌++◌}
use mathlib.Core.Path.{◌≡◌, refl, sym, ap, ◌∙◌}
use Prim.Native.Nat.{ℕ, zero, suc, ◌+◌, ◌-◌, ◌≤◌}
use native.Mathlib.Omega.{arith}
use lib.Dec.{eqb}
use borrow.Author.Tests.{eqb-true}
use Rattle.meaning.specs.Below.{members, within}
use Rattle.meaning.specs.Table.{Table, total}
use Rattle.meaning.specs.Orders.{takes, puts, OneByOne, Order}
use Rattle.meaning.proofs.Bool.{not_both}
use Rattle.meaning.proofs.Below.{sum_same, sum_add, sum_zero, within_append, within_out}

-- The sum of f over a list.
pub over : (ℕ → ℕ) → List ℕ → ℕ
over f [] = 0
over f (x ∷ xs) = f x + over f xs

over_append : (f : ℕ → ℕ) (xs ys : List ℕ) → over f (xs ++ ys) ≡ over f xs + over f ys
unfolding over
over_append f [] ys = omega arith
over_append f (x ∷ xs) ys = omega (arith, over_append f xs ys)

-- No change of order changes a sum.
pub over_order : (f : ℕ → ℕ) {xs ys : List ℕ} → Order xs ys → over f xs ≡ over f ys
unfolding over
over_order f Order.none = refl
over_order f (Order.keep {x} o) = ap (λ (n : ℕ). f x + n) (over_order f o)
over_order f (Order.swap {x} {y} {xs}) = omega arith
over_order f (Order.again o q) = over_order f o ∙ over_order f q

-- What a set moves at place p by the arcs that pass `a`: `withdrawn` with basic arcs, `added` with post arcs.
abbrev pub moved : Table → (ℕ → Bool) → (ℕ → Bool) → ℕ → ℕ
moved tb a F p = total tb (λ r. a r && eqb (tb.one r) p && F (tb.two r)) tb.four

module _ (tb : Table) (a : ℕ → Bool) (p : ℕ) where
  -- Equal sets move the same.
  pub moved_same : (F G : ℕ → Bool) → ((u : ℕ) → F u ≡ G u) → moved tb a F p ≡ moved tb a G p
  unfolding total
  moved_same F G e = sum_same tb.records _ _ (λ r l. rw (e (tb.two r)))

  -- The empty set moves nothing.
  moved_none : moved tb a (λ u. false) p ≡ 0
  unfolding total
  moved_none = sum_zero tb.records _ (λ r l. none (a r && eqb (tb.one r) p) (tb.four r))
    where
      none : (b : Bool) (w : ℕ) → cond (b && false) w 0 ≡ 0
      none true w = refl
      none false w = refl

  -- A set and one transition more move what both move.
  moved_more : (F : ℕ → Bool) (t : ℕ) → F t ≡ false
      → moved tb a (λ u. F u || eqb t u) p ≡ moved tb a F p + moved tb a (λ u. eqb t u) p
  unfolding total
  moved_more F t out =
      sum_same tb.records _ _
      (λ r l. each (a r && eqb (tb.one r) p) (F (tb.two r)) (eqb t (tb.two r)) (tb.four r) (apart (tb.two r)))
      ∙ sum_add tb.records _ _
    where
      apart : (u : ℕ) → F u ≡ true → eqb t u ≡ true → ⊥
      apart u f e = not_both f (ap F (sym (eqb-true t u e)) ∙ out)

      each : (b x y : Bool) (w : ℕ) → (x ≡ true → y ≡ true → ⊥)
          → cond (b && (x || y)) w 0 ≡ cond (b && x) w 0 + cond (b && y) w 0
      each false x y w h = refl
      each true true true w h = absurd (h refl refl)
      each true true false w h = omega arith
      each true false y w h = omega arith

  -- A set of members moves the sum of what each moves.
  pub moved_members : (n : ℕ) (q : ℕ → Bool)
      → moved tb a (within (members n q)) p ≡ over (λ t. moved tb a (λ u. eqb t u) p) (members n q)
  unfolding members within over
  moved_members zero q = moved_none
  moved_members (suc n) q = go (q n) (moved_members n q)
    where
      alone : ℕ → ℕ
      alone t = moved tb a (λ u. eqb t u) p

      go : (b : Bool) → moved tb a (within (members n q)) p ≡ over alone (members n q)
          → moved tb a (within (members n q ++ cond b (n ∷ []) [])) p ≡ over alone (members n q ++ cond b (n ∷ []) [])
      go true before =
          moved_same _ _ (λ u. within_append (members n q) (n ∷ []) u ∙ tail (within (members n q) u) (eqb n u))
          ∙ moved_more (within (members n q)) n (within_out n q n (omega arith))
          ∙ sym (over_append alone (members n q) (n ∷ []) ∙ omega (arith, before))
        where
          tail : (x y : Bool) → (x || (y || false)) ≡ (x || y)
          tail x true = refl
          tail x false = refl
      go false before =
          moved_same _ _ (λ u. within_append (members n q) [] u ∙ or_false_law (within (members n q) u))
          ∙ before
          ∙ sym (over_append alone (members n q) [] ∙ omega arith)

-- A list whose takings the marking pays for together is fired one by one, and ends where the sums say.
pub fire_all : (tb : Table) (ts : List ℕ) (m : ℕ → ℕ) → ((p : ℕ) → over (λ t. takes tb t p) ts ≤ m p)
    → (m' : ℕ → ℕ) × OneByOne tb m ts m'
    × ((p : ℕ) → m' p ≡ m p - over (λ t. takes tb t p) ts + over (λ t. puts tb t p) ts)
unfolding over
fire_all tb [] m h = (m, OneByOne.done, λ p. omega arith)
fire_all tb (t ∷ ts) m h =
    let next : ℕ → ℕ = λ p. m p - takes tb t p + puts tb t p in
    let rest = fire_all tb ts next (λ p. omega (arith, h p)) in
    (rest.0, OneByOne.fire {m = m} {t = t} (λ p. omega (arith, h p)) rest.1, λ p. omega (arith, h p, rest.2 p))

-- From one marking, one order has one end.
pub one_end : {tb : Table} {m x y : ℕ → ℕ} {ts : List ℕ} → OneByOne tb m ts x → OneByOne tb m ts y → (p : ℕ)
    → x p ≡ y p
one_end OneByOne.done OneByOne.done p = refl
one_end (OneByOne.fire h a) (OneByOne.fire k b) p = one_end a b p
