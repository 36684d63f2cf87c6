-- A record says what an earlier one said exactly if it is declared already, or its bit is set in the row of its own.
use mathlib.Core.Bool.{Bool, true, false, not, cond, ◌&&◌, ◌||◌, beq}
use mathlib.Core.List.{List}
use mathlib.Core.Path.{◌≡◌, refl, ◌∙◌}
use Prim.Native.Nat.{ℕ, ◌≤◌, ◌<◌}
use native.Mathlib.Omega.{arith}
use lib.Dec.{eqb, ltb}
use borrow.Author.Tests.{eqb-true, eqb-false, eq-eqb, lt-ltb, le-ltb}
use Rattle.std.proofs.lemmas.Grind.{common_steps}
use Rattle.meaning.specs.Below.{some}
use Rattle.meaning.specs.Bytes.{bit}
use Rattle.meaning.specs.Table.{Table, is, post}
use Rattle.meaning.specs.Defined.{same, twice}
use Rattle.meaning.proofs.Below.{some_same}
use Rattle.meaning.proofs.Shows.{Shows, each_kind}
use Rattle.meaning.proofs.Same.{shown_kind, shown_place, shown_transition, shown_arc, of_kind}
use Rattle.records.specs.declared.Rec.{Rec}
use Rattle.records.specs.Record.{Reads}
use Rattle.rows.specs.declared.Declared.{Declared}
use Rattle.rows.specs.Rows.{row, has}
use Rattle.rows.specs.Filed.{kept_in, joins, declares, Rowed, Paired, Known}
use Rattle.scan.specs.Scan.{own_row, again_by}

-- The tests of two records that say the same, in the rows' order.
plain_order : (a o t p : Bool) → (a && (o && t)) ≡ (((a && o) && t) && (not false || p))
plain_order a o t p = grind (arith, common_steps)

posts_order : (a b o t : Bool) → ((a && b) && (o && t)) ≡ (((a && o) && t) && (not true || beq (a && b) true))
posts_order a b o t = grind (arith, common_steps)

inputs_order : (a b i o t : Bool) → (a ≡ true → i ≡ not b)
    → ((a && i) && (o && t)) ≡ (((a && o) && t) && (not true || beq (a && b) false))
inputs_order a b i o t h = grind (arith, common_steps)

alone_order : (a o t p : Bool) → (a ≡ true → t ≡ true) → (a && o) ≡ (((a && o) && t) && (not false || p))
alone_order a o t p h = grind (arith, common_steps)

module _ (tb : Table) (r : ℕ) (shown : Shows tb r) (before : (k : ℕ) → k < r → Shows tb k) {x : Rec}
    (reads : Reads tb r x)
    {known : Declared} (declared : Known tb r known) {rows : List ℕ} (rowed : Rowed tb r rows)
    (paired : Paired tb r rows)
    (one : tb.one r < 128) (two : tb.two r < 64) where
  -- A record of a kind that has a row to itself.
  plain_kind : (kind : ℕ) → tb.kind r ≡ kind → eqb kind 3 ≡ false
      → some r (λ k. is tb kind k && joins tb (tb.one r) (tb.two r) k) ≡ twice tb r
  unfolding twice same
  plain_kind kind e n =
      some_same r _ _
      (λ k h. rw (e, n) (plain_order (eqb (tb.kind k) kind) (eqb (tb.one k) (tb.one r))
      (eqb (tb.two k) (tb.two r)) (beq (post tb k) false)))

  -- A place or a transition: byte 2 is 0 in both.
  alone_kind : (kind : ℕ) → tb.kind r ≡ kind → eqb kind 3 ≡ false → tb.two r ≡ 0
      → ((k : ℕ) → k < r → tb.kind k ≡ kind → tb.two k ≡ 0)
      → some r (declares tb kind (tb.one r)) ≡ twice tb r
  unfolding twice same
  alone_kind kind e n none zeros =
      some_same r _ _
      (λ k h.
      rw (e, n)
      (alone_order (eqb (tb.kind k) kind) (eqb (tb.one k) (tb.one r)) (eqb (tb.two k) (tb.two r))
      (beq (post tb k) false)
      (λ q. eq-eqb (tb.two k) (tb.two r) (omega (arith, zeros k h (eqb-true (tb.kind k) kind q), none)))))

  -- A post arc; an input arc.
  post_kind : tb.kind r ≡ 3 → tb.sort r ≡ 3
      → some r (λ k. kept_in tb 2 k && joins tb (tb.one r) (tb.two r) k) ≡ twice tb r
  unfolding twice same kept_in
  post_kind e s =
      some_same r _ _
      (λ k h. rw (e, s) (posts_order (eqb (tb.kind k) 3) (eqb (tb.sort k) 3) (eqb (tb.one k) (tb.one r))
      (eqb (tb.two k) (tb.two r))))

  input_kind : tb.kind r ≡ 3 → eqb (tb.sort r) 3 ≡ false
      → some r (λ k. kept_in tb 0 k && joins tb (tb.one r) (tb.two r) k) ≡ twice tb r
  unfolding twice same kept_in
  input_kind e s =
      some_same r _ _
      (λ k h.
      rw (e, s)
      (inputs_order (eqb (tb.kind k) 3) (eqb (tb.sort k) 3) (ltb (tb.sort k) 3) (eqb (tb.one k) (tb.one r))
      (eqb (tb.two k) (tb.two r))
      (λ q. under (tb.sort k) (shown_arc (of_kind tb k 3 (before k h) (eqb-true (tb.kind k) 3 q))).2)))
    where
      under : (s : ℕ) → s ≤ 3 → ltb s 3 ≡ not (eqb s 3)
      under s h = go (eqb s 3) refl
        where
          go : (b : Bool) → eqb s 3 ≡ b → ltb s 3 ≡ not b
          go true e = le-ltb s 3 (omega (arith, eqb-true s 3 e))
          go false e =
              let n : ¬ (s ≡ 3) = eqb-false s 3 e in
              lt-ltb s 3 (omega (arith, h, n))

  pub again_twice : again_by x known rows ≡ twice tb r
  unfolding again_by own_row kept_in
  again_twice =
      rw (reads.kind, reads.one, reads.two, reads.sort)
      (each_kind
      (λ kind. tb.kind r ≡ kind
      → cond (eqb kind 1) (has known (tb.one r))
      (cond (eqb kind 2) (bit known.transitions (tb.one r))
      (bit (row rows (own_row kind (tb.sort r)) (tb.one r)) (tb.two r)))
      ≡ twice tb r)
      (λ e.
      let y = shown_place (of_kind tb r 1 shown e) in
      declared.places (tb.one r) one
      ∙ alone_kind 1 e refl y.1 (λ k h q. (shown_place (of_kind tb k 1 (before k h) q)).1))
      (λ e.
      let y = shown_transition (of_kind tb r 2 shown e) in
      declared.transitions (tb.one r) (omega (arith, y.0))
      ∙ alone_kind 2 e refl y.1 (λ k h q. (shown_transition (of_kind tb k 2 (before k h) q)).1))
      (λ e. arc e (eqb (tb.sort r) 3) refl)
      (λ e. rowed.holds 4 (tb.one r) (tb.two r) (omega arith) one two ∙ plain_row 4 4 e refl (λ k. refl))
      (λ e. paired.holds (tb.one r) (tb.two r) one two ∙ plain_kind 5 e refl)
      (λ e. rowed.holds 3 (tb.one r) (tb.two r) (omega arith) one two ∙ plain_row 6 3 e refl (λ k. refl))
      (λ e. rowed.holds 6 (tb.one r) (tb.two r) (omega arith) one two ∙ plain_row 7 6 e refl (λ k. refl))
      (tb.kind r) (shown_kind shown).0 (shown_kind shown).1 refl)
    where
      plain_row : (kind c : ℕ) → tb.kind r ≡ kind → eqb kind 3 ≡ false → ((k : ℕ) → kept_in tb c k ≡ is tb kind k)
          → some r (λ k. kept_in tb c k && joins tb (tb.one r) (tb.two r) k) ≡ twice tb r
      plain_row kind c e n own = some_same r _ _ (λ k h. rw (own k)) ∙ plain_kind kind e n

      arc : tb.kind r ≡ 3 → (b : Bool) → eqb (tb.sort r) 3 ≡ b
          → bit (row rows (cond b 2 0) (tb.one r)) (tb.two r) ≡ twice tb r
      arc e true s =
          rowed.holds 2 (tb.one r) (tb.two r) (omega arith) one two ∙ post_kind e (eqb-true (tb.sort r) 3 s)
      arc e false s = rowed.holds 0 (tb.one r) (tb.two r) (omega arith) one two ∙ input_kind e s
