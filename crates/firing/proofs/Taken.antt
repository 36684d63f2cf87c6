-- From the cells to the table: each cell of a place is one arc's, so what transitions take there, one by one, is what
-- their arcs withdraw, record by record.
use mathlib.Core.Bool.{Bool, true, false, cond, ◌&&◌, and_assoc}
use mathlib.Core.List.{List}
use mathlib.Core.Path.{◌≡◌, refl, sym, ap, ◌∙◌, fun_ext}
use Prim.Native.Nat.{ℕ, zero, suc, ◌+◌, ◌<◌}
use native.Mathlib.Omega.{arith}
use lib.Dec.{eqb}
use borrow.Author.Tests.{eqb-true, eq-eqb, ne_eqb, lt-ltb}
use Rattle.meaning.specs.Below.{some, sum}
use Rattle.meaning.specs.Bytes.{bit}
use Rattle.meaning.specs.Table.{Table, table, total, is, basic}
use Rattle.meaning.specs.Cycle.{withdrawn}
use Rattle.meaning.proofs.Bool.{not_both, and_left, and_right, and_true}
use Rattle.meaning.proofs.Below.{some_intro, some_elim, some_same, sum_same, sum_zero, sum_add}
use Rattle.meaning.proofs.Reflect.{not_true_false}
use Rattle.meaning.proofs.Sound.{sum_one}
use Rattle.rows.specs.declared.Declared.{Declared}
use Rattle.rows.specs.Rows.{takers, cell}
use Rattle.rows.specs.Filed.{input, latest, NetOf}
use Rattle.rows.proofs.Arcs.{latest_is, accepted_laid, ranges, once, takers_are}

-- A sum of sums, taken the other way.
sum_swap : (m n : ℕ) (h : ℕ → ℕ → ℕ) → sum m (λ t. sum n (λ r. h r t)) ≡ sum n (λ r. sum m (h r))
unfolding sum
sum_swap m zero h = sum_zero m (λ t. 0) (λ k l. refl)
sum_swap m (suc n) h = sum_add m (λ t. sum n (λ r. h r t)) (h n) ∙ ap (λ (x : ℕ). x + sum m (h n)) (sum_swap m n h)

-- What is said of one number alone, where a test passes.
sum_at : (b : Bool) (k v : ℕ) → (b ≡ true → k < 64) → sum 64 (λ t. cond (b && eqb k t) v 0) ≡ cond b v 0
sum_at true k v low =
    sum_one 64 (λ t. cond (eqb k t) v 0) k (low refl) (λ t h n. rw (ne_eqb k t (λ e. n (sym e)))) ∙ rw (eq-eqb k k refl)
sum_at false k v low = sum_zero 64 (λ t. 0) (λ t h. refl)

-- Of n records those that pass q have a key g below 64, and no two that pass the wider test have the same: the last f
-- of each key, over the keys that pass c, is f over the records.
module _ (n : ℕ) (q wider : ℕ → Bool) (g f : ℕ → ℕ) (c : ℕ → Bool) (widens : (r : ℕ) → q r ≡ true → wider r ≡ true)
    (low : (r : ℕ) → r < n → q r ≡ true → g r < 64)
    (single : (r s : ℕ) → r < n → s < n → wider r ≡ true → wider s ≡ true → g r ≡ g s → r ≡ s) where
  -- Record r is of key t, and passes.
  abbrev of_key : ℕ → ℕ → Bool
  of_key t r = q r && c (g r) && eqb (g r) t

  -- Its tests, as facts.
  each : (t r : ℕ) → of_key t r ≡ true → (q r ≡ true) × (c t ≡ true) × (g r ≡ t)
  each t r e =
      let front : (q r && c (g r)) ≡ true = and_left (q r && c (g r)) (eqb (g r) t) e in
      let key : g r ≡ t = eqb-true (g r) t (and_right (q r && c (g r)) (eqb (g r) t) e) in
      (and_left (q r) (c (g r)) front, ap c (sym key) ∙ and_right (q r) (c (g r)) front, key)

  -- A key's part is that of its one record, and 0 where there is none.
  part : (t : ℕ) (x y : Bool) → c t ≡ x → some n (λ r. q r && eqb (g r) t) ≡ y
      → cond (x && y) (latest n (λ r. wider r && eqb (g r) t) f) 0 ≡ sum n (λ r. cond (of_key t r) (f r) 0)
  part t true true cx sy =
      let w = some_elim n (λ r. q r && eqb (g r) t) sy in
      let r = w.0 in
      let passes : q r ≡ true = and_left (q r) (eqb (g r) t) w.2 in
      let key : eqb (g r) t ≡ true = and_right (q r) (eqb (g r) t) w.2 in
      let same : g r ≡ t = eqb-true (g r) t key in
      let alone : (s : ℕ) → s < n → wider s ≡ true → g s ≡ t → s ≡ r =
      λ s h e k. single s r h w.1 e (widens r passes) (k ∙ sym same) in
      latest_is n (λ s. wider s && eqb (g s) t) f r w.1 (and_true (widens r passes) key)
      (λ s h e. alone s h (and_left (wider s) (eqb (g s) t) e) (eqb-true (g s) t (and_right (wider s) (eqb (g s) t) e)))
      ∙ sym
      (sum_one n (λ s. cond (of_key t s) (f s) 0) r w.1
      (λ s h other. rw (not_true_false (of_key t s) (λ e. other
      (alone s h (widens s (each t s e).0) (each t s e).2))))
      ∙ rw (and_true (and_true passes (ap c same ∙ cx)) key))
  part t true false cx sy =
      sym
      (sum_zero n (λ r. cond (of_key t r) (f r) 0)
      (λ r h.
      rw
      (not_true_false (of_key t r)
      (λ e. not_both (some_intro n (λ r. q r && eqb (g r) t) r h
      (and_true (each t r e).0 (eq-eqb _ _ (each t r e).2))) sy))))
  part t false y cx sy =
      sym (sum_zero n (λ r. cond (of_key t r) (f r) 0) (λ r h.
      rw (not_true_false (of_key t r) (λ e. not_both (each t r e).1 cx))))

  by_record : sum 64 (λ t. cond (c t && some n (λ r. q r && eqb (g r) t)) (latest n (λ r. wider r && eqb (g r) t) f) 0)
      ≡ sum n (λ r. cond (q r && c (g r)) (f r) 0)
  by_record =
      sum_same 64 (λ t. cond (c t && some n (λ r. q r && eqb (g r) t)) (latest n (λ r. wider r && eqb (g r) t) f) 0)
      (λ t. sum n (λ r. cond (of_key t r) (f r) 0)) (λ t h. part t (c t) (some n (λ r. q r && eqb (g r) t)) refl refl)
      ∙ sum_swap 64 n (λ r t. cond (of_key t r) (f r) 0)
      ∙ sum_same n (λ r. sum 64 (λ t. cond (of_key t r) (f r) 0)) (λ r. cond (q r && c (g r)) (f r) 0)
      (λ r h. sum_at (q r && c (g r)) (g r) (f r) (λ e. low r h (and_left (q r) (c (g r)) e)))

-- What the members of F take from place p by the cells is what they withdraw by the table.
module _ {bs : List ℕ} {n : ℕ} {rows : List ℕ} {w s : List (List ℕ)} {heads posts times : List ℕ} {known : Declared}
    (net : NetOf bs n rows w s heads posts times known) (F : ℕ → Bool) (p : ℕ) (h : p < 128) where
  abbrev tb : Table
  tb = table bs

  -- Record r is a basic arc from p; it is an input arc from p.
  abbrev takes : ℕ → Bool
  takes r = basic tb r && eqb (tb.one r) p

  abbrev asks : ℕ → Bool
  asks r = input tb r && eqb (tb.one r) p

  who_takes : (t : ℕ) → t < 64 → bit (takers rows p) t ≡ some tb.records (λ r. takes r && eqb (tb.two r) t)
  who_takes t l =
      takers_are (accepted_laid net) p t h l ∙ some_same tb.records _ _
      (λ r k. sym (and_assoc (basic tb r) (eqb (tb.one r) p) (eqb (tb.two r) t)))

  weighs : (t : ℕ) → t < 64 → cell w p t ≡ latest tb.records (λ r. asks r && eqb (tb.two r) t) tb.four
  weighs t l =
      net.filed.weights.holds p t h l
      ∙ ap (λ (q : ℕ → Bool). latest tb.records q tb.four)
      (fun_ext (λ r. sym (and_assoc (input tb r) (eqb (tb.one r) p) (eqb (tb.two r) t))))

  basic_input : (r : ℕ) → basic tb r ≡ true → input tb r ≡ true
  basic_input r e =
      and_true (and_left (is tb 3 r) _ e) (lt-ltb (tb.sort r) 3
      (omega (arith, eqb-true (tb.sort r) 0 (and_right (is tb 3 r) _ e))))

  pub taken_is : sum 64 (λ t. cond (F t && bit (takers rows p) t) (cell w p t) 0) ≡ withdrawn tb F p
  unfolding withdrawn total
  taken_is =
      sum_same 64 _ _ (λ t l. rw (who_takes t l, weighs t l))
      ∙ by_record tb.records takes asks tb.two tb.four F
      (λ r e. and_true (basic_input r (and_left (basic tb r) _ e)) (and_right (basic tb r) _ e))
      (λ r l e. (ranges (accepted_laid net) r l (eqb-true (tb.kind r) 3
      (and_left (is tb 3 r) _ (and_left (basic tb r) _ e)))).1)
      (λ r q l m a b same.
      once (accepted_laid net) r q l m (and_left (input tb r) _ a) (and_left (input tb q) _ b)
      (eqb-true (tb.one r) p (and_right (input tb r) _ a) ∙ sym (eqb-true (tb.one q) p (and_right (input tb q) _ b)))
      same)
