-- The tests of one record, 2 and 3, decide whether the table of kinds shows it: kind by kind, the row's limits are
-- the constructors' bounds.
use mathlib.Core.Bool.{Bool, true, false, not, ◌&&◌, ◌||◌}
use mathlib.Core.Path.{◌≡◌, refl, ap}
use Prim.Native.Nat.{ℕ, zero, suc, ◌≤◌}
use native.Mathlib.Omega.{arith}
use native.Mathlib.Nat.{le_of_eq}
use lib.Dec.{ltb, leb, eqb}
use borrow.Author.Tests.{le-ltb, ltb-false, eqb-true, eqb-false, ne_eqb, not-false, leb-true, le-leb}
use Rattle.meaning.specs.Table.{Table, Row, kinds, kind_row}
use Rattle.meaning.specs.Defined.{bad_kind, bad_field, interval}
use Rattle.meaning.specs.Says.{Sort, Shown}
use Rattle.meaning.proofs.Bool.{not_both, and_left, and_right, and_true, or_false, or_false_left, or_false_right}
use Rattle.meaning.proofs.Reflect.{Decides, fails}

-- A table whose records are all the same: what a record's tests say depends on its columns alone.
abbrev alone : ℕ → ℕ → ℕ → ℕ → ℕ → ℕ → Table
alone k o t s f x =
    record { records = 1; kind = λ r. k; one = λ r. o; two = λ r. t; sort = λ r. s; four = λ r. f; six = λ r. x }

-- A sort that exists is not refused.
sort_good : {k s : ℕ} (o t f x : ℕ) → Sort k s → bad_kind (alone k o t s f x) 0 ≡ false
unfolding bad_kind kinds
sort_good o t f x Sort.place = refl
sort_good o t f x Sort.untimed = refl
sort_good o t f x Sort.between = refl
sort_good o t f x Sort.from = refl
sort_good o t f x Sort.basic = refl
sort_good o t f x Sort.test = refl
sort_good o t f x Sort.inhibitor = refl
sort_good o t f x Sort.post = refl
sort_good o t f x Sort.wanted_true = refl
sort_good o t f x Sort.wanted_false = refl
sort_good o t f x Sort.priority = refl
sort_good o t f x Sort.action = refl
sort_good o t f x Sort.function = refl

-- What holds of 0, of 0 and 1, and so on, holds of what is at most 0, 1, and so on; and so for the kinds 1 to 7.
pub up_to_0 : (P : ℕ → Type 0) → P 0 → (s : ℕ) → s ≤ 0 → P s
up_to_0 P a zero h = a
up_to_0 P a (suc s) h = absurd (omega arith)

pub up_to_1 : (P : ℕ → Type 0) → P 0 → P 1 → (s : ℕ) → s ≤ 1 → P s
up_to_1 P a b zero h = a
up_to_1 P a b (suc s) h = up_to_0 (λ n. P (suc n)) b s (omega arith)

pub up_to_2 : (P : ℕ → Type 0) → P 0 → P 1 → P 2 → (s : ℕ) → s ≤ 2 → P s
up_to_2 P a b c zero h = a
up_to_2 P a b c (suc s) h = up_to_1 (λ n. P (suc n)) b c s (omega arith)

pub up_to_3 : (P : ℕ → Type 0) → P 0 → P 1 → P 2 → P 3 → (s : ℕ) → s ≤ 3 → P s
up_to_3 P a b c d zero h = a
up_to_3 P a b c d (suc s) h = up_to_2 (λ n. P (suc n)) b c d s (omega arith)

pub each_kind : (P : ℕ → Type 0) → P 1 → P 2 → P 3 → P 4 → P 5 → P 6 → P 7 → (k : ℕ) → 1 ≤ k → k ≤ 7 → P k
each_kind P a b c d e f g zero l h = absurd (omega arith)
each_kind P a b c d e f g (suc zero) l h = a
each_kind P a b c d e f g (suc (suc zero)) l h = b
each_kind P a b c d e f g (suc (suc (suc zero))) l h = c
each_kind P a b c d e f g (suc (suc (suc (suc k)))) l h = up_to_3 (λ n. P (suc (suc (suc (suc n))))) d e f g k (omega arith)

-- A number that is not 0 is at least 1.
pub nonzero : (n : ℕ) → (n ≡ 0 → ⊥) → 1 ≤ n
nonzero zero h = absurd (h refl)
nonzero (suc n) h = omega arith

-- A kind and sort that are not refused exist.
sort_shown : (k s o t f x : ℕ) → bad_kind (alone k o t s f x) 0 ≡ false → Sort k s
unfolding bad_kind kinds
sort_shown k s o t f x e =
    each_kind (λ n. ltb (kind_row (alone n o t s f x) 0).sort s ≡ false → Sort n s)
    (λ q. up_to_0 (λ m. Sort 1 m) Sort.place s (ltb-false 0 s q))
    (λ q. up_to_2 (λ m. Sort 2 m) Sort.untimed Sort.between Sort.from s (ltb-false 2 s q))
    (λ q. up_to_3 (λ m. Sort 3 m) Sort.basic Sort.test Sort.inhibitor Sort.post s (ltb-false 3 s q))
    (λ q. up_to_1 (λ m. Sort 4 m) Sort.wanted_true Sort.wanted_false s (ltb-false 1 s q))
    (λ q. up_to_0 (λ m. Sort 5 m) Sort.priority s (ltb-false 0 s q))
    (λ q. up_to_0 (λ m. Sort 6 m) Sort.action s (ltb-false 0 s q))
    (λ q. up_to_0 (λ m. Sort 7 m) Sort.function s (ltb-false 0 s q))
    k
    (nonzero k (eqb-false k 0 (or_false_left (eqb k 0) (ltb 7 k) low)))
    (ltb-false 7 k (or_false_right (eqb k 0) (ltb 7 k) low))
    (or_false_right (eqb k 0 || ltb 7 k) (ltb (kind_row (alone k o t s f x) 0).sort s) e)
  where
    low : (eqb k 0 || ltb 7 k) ≡ false
    low = or_false_left (eqb k 0 || ltb 7 k) (ltb (kind_row (alone k o t s f x) 0).sort s) e

-- What is shown has a sort that exists.
shown_sort : {k o t s f x : ℕ} → Shown k o t s f x → Sort k s
shown_sort (Shown.place a b) = Sort.place
shown_sort (Shown.untimed a) = Sort.untimed
shown_sort (Shown.between a b c d) = Sort.between
shown_sort (Shown.from a b c) = Sort.from
shown_sort (Shown.arc {s = s} a b h d e) = up_to_3 (λ m. Sort 3 m) Sort.basic Sort.test Sort.inhibitor Sort.post s h
shown_sort (Shown.condition {s = s} a b h) = up_to_1 (λ m. Sort 4 m) Sort.wanted_true Sort.wanted_false s h
shown_sort (Shown.priority a b) = Sort.priority
shown_sort (Shown.action a b) = Sort.action
shown_sort (Shown.function a b) = Sort.function

-- None of six tests.
none_of_six : {a b c d e f : Bool} → a ≡ false → b ≡ false → c ≡ false → d ≡ false → e ≡ false → f ≡ false
    → (a || b || c || d || e || f) ≡ false
none_of_six a b c d e f = or_false (or_false (or_false (or_false (or_false a b) c) d) e) f

-- What is shown has its fields in range.
shown_field : {k o t s f x : ℕ} → Shown k o t s f x → bad_field (alone k o t s f x) 0 ≡ false
unfolding bad_field kinds interval
shown_field (Shown.place {p} {m} a b) = none_of_six (le-ltb 127 p a) refl (le-ltb 65535 m b) refl refl refl
shown_field (Shown.untimed {t} a) = none_of_six (le-ltb 63 t a) refl refl refl refl refl
shown_field (Shown.between {t} {a = f} {b = x} a b c d) =
    none_of_six (le-ltb 63 t a) refl (le-ltb 65535 f (omega arith)) (le-ltb 65535 x (omega arith)) refl
    (ap not (and_true (and_true (le-leb 1 f b) (le-leb f x c)) (le-leb x 65534 d)))
shown_field (Shown.from {t} {a = f} a b c) =
    none_of_six (le-ltb 63 t a) refl (le-ltb 65535 f c) refl refl (ap not (and_true (le-leb 1 f b) refl))
shown_field (Shown.arc {p} {t} {s} {w} a b c d e) =
    none_of_six (le-ltb 127 p a) (le-ltb 63 t b) (le-ltb 65535 w e) refl (ne_eqb w 0 (λ q. omega arith)) refl
shown_field (Shown.condition {t} {c} {s} a b d) = none_of_six (le-ltb 63 t a) (le-ltb 63 c b) refl refl refl refl
shown_field (Shown.priority {u} {t} a b) = none_of_six (le-ltb 63 u a) (le-ltb 63 t b) refl refl refl refl
shown_field (Shown.action {p} {k} a b) = none_of_six (le-ltb 127 p a) (le-ltb 63 k b) refl refl refl refl
shown_field (Shown.function {t} {k} a b) = none_of_six (le-ltb 63 t a) (le-ltb 63 k b) refl refl refl refl

-- Of six tests that are false together, each is false.
six_false : (a b c d e f : Bool) → (a || b || c || d || e || f) ≡ false
    → (a ≡ false) × (b ≡ false) × (c ≡ false) × (d ≡ false) × (e ≡ false) × (f ≡ false)
six_false false false false false false f h = (refl, refl, refl, refl, refl, h)
six_false true b c d e f h = not_both refl h
six_false false true c d e f h = not_both refl h
six_false false false true d e f h = not_both refl h
six_false false false false true e f h = not_both refl h
six_false false false false false true f h = not_both refl h

-- Fields that are not refused are within their kind's row.
limits : (k o t s f x : ℕ) → bad_field (alone k o t s f x) 0 ≡ false
    → (o ≤ (kind_row (alone k o t s f x) 0).one) × (t ≤ (kind_row (alone k o t s f x) 0).two)
    × (f ≤ (kind_row (alone k o t s f x) 0).four)
    × (x ≤ (kind_row (alone k o t s f x) 0).six) × ((eqb k 3 && eqb f 0) ≡ false)
    × ((eqb k 2 && not (interval (alone k o t s f x) 0)) ≡ false)
unfolding bad_field
limits k o t s f x e =
    let r : Row = kind_row (alone k o t s f x) 0 in
    let h =
    six_false (ltb r.one o) (ltb r.two t) (ltb r.four f) (ltb r.six x) (eqb k 3 && eqb f 0)
    (eqb k 2 && not (interval (alone k o t s f x) 0)) e in
    (ltb-false r.one o h.0, ltb-false r.two t h.1, ltb-false r.four f h.2, ltb-false r.six x h.3, h.4, h.5)

-- Columns that the page shows as 0.
zeros : (P : ℕ → ℕ → Type 0) → P 0 0 → (y z : ℕ) → y ≤ 0 → z ≤ 0 → P y z
zeros P a y z h l = up_to_0 (λ n. P n z) (up_to_0 (λ m. P 0 m) a z l) y h

arc_shown : (o t s f x : ℕ) → s ≤ 3 → bad_field (alone 3 o t s f x) 0 ≡ false → Shown 3 o t s f x
unfolding kinds
arc_shown o t s f x l e =
    let h = limits 3 o t s f x e in
    up_to_0 (λ z. Shown 3 o t s f z) (Shown.arc h.0 h.1 l (nonzero f (eqb-false f 0 h.4)) h.2) x h.3

condition_shown : (o t s f x : ℕ) → s ≤ 1 → bad_field (alone 4 o t s f x) 0 ≡ false → Shown 4 o t s f x
unfolding kinds
condition_shown o t s f x l e =
    let h = limits 4 o t s f x e in
    zeros (λ y z. Shown 4 o t s y z) (Shown.condition h.0 h.1 l) f x h.2 h.3

-- A record of a sort that exists, whose fields are not refused, is shown.
field_shown : {k s : ℕ} (o t f x : ℕ) → Sort k s → bad_field (alone k o t s f x) 0 ≡ false → Shown k o t s f x
unfolding kinds interval
field_shown o t f x Sort.place e =
    let h = limits 1 o t 0 f x e in
    up_to_0 (λ y. Shown 1 o y 0 f x) (up_to_0 (λ z. Shown 1 o 0 0 f z) (Shown.place h.0 h.2) x h.3) t h.1
field_shown o t f x Sort.untimed e =
    let h = limits 2 o t 0 f x e in
    let q = not-false (eqb f 0 && eqb x 0) h.5 in
    up_to_0 (λ y. Shown 2 o y 0 f x)
    (zeros (λ y z. Shown 2 o 0 0 y z) (Shown.untimed h.0) f x (le_of_eq (eqb-true f 0 (and_left (eqb f 0) (eqb x 0) q)))
    (le_of_eq (eqb-true x 0 (and_right (eqb f 0) (eqb x 0) q))))
    t
    h.1
field_shown o t f x Sort.between e =
    let h = limits 2 o t 1 f x e in
    let q = not-false (leb 1 f && leb f x && leb x 65534) h.5 in
    let p = and_left (leb 1 f && leb f x) (leb x 65534) q in
    up_to_0 (λ y. Shown 2 o y 1 f x)
    (Shown.between h.0 (leb-true 1 f (and_left (leb 1 f) (leb f x) p)) (leb-true f x (and_right (leb 1 f) (leb f x) p))
    (leb-true x 65534 (and_right (leb 1 f && leb f x) (leb x 65534) q)))
    t
    h.1
field_shown o t f x Sort.from e =
    let h = limits 2 o t 2 f x e in
    let q = not-false (leb 1 f && eqb x 0) h.5 in
    zeros (λ y z. Shown 2 o y 2 f z) (Shown.from h.0 (leb-true 1 f (and_left (leb 1 f) (eqb x 0) q)) h.2) t x h.1
    (le_of_eq (eqb-true x 0 (and_right (leb 1 f) (eqb x 0) q)))
field_shown o t f x Sort.basic e = arc_shown o t 0 f x (omega arith) e
field_shown o t f x Sort.test e = arc_shown o t 1 f x (omega arith) e
field_shown o t f x Sort.inhibitor e = arc_shown o t 2 f x (omega arith) e
field_shown o t f x Sort.post e = arc_shown o t 3 f x (omega arith) e
field_shown o t f x Sort.wanted_true e = condition_shown o t 0 f x (omega arith) e
field_shown o t f x Sort.wanted_false e = condition_shown o t 1 f x (omega arith) e
field_shown o t f x Sort.priority e =
    let h = limits 5 o t 0 f x e in
    zeros (λ y z. Shown 5 o t 0 y z) (Shown.priority h.0 h.1) f x h.2 h.3
field_shown o t f x Sort.action e =
    let h = limits 6 o t 0 f x e in
    zeros (λ y z. Shown 6 o t 0 y z) (Shown.action h.0 h.1) f x h.2 h.3
field_shown o t f x Sort.function e =
    let h = limits 7 o t 0 f x e in
    zeros (λ y z. Shown 7 o t 0 y z) (Shown.function h.0 h.1) f x h.2 h.3

-- THE TESTS OF A TABLE'S RECORD

-- The page shows record r.
abbrev pub Shows : Table → ℕ → Type 0
Shows tb r = Shown (tb.kind r) (tb.one r) (tb.two r) (tb.sort r) (tb.four r) (tb.six r)

-- 2 is said of a record exactly if its sort does not exist.
pub kind_decides : (tb : Table) (r : ℕ) → Decides (bad_kind tb r) (¬ Sort (tb.kind r) (tb.sort r))
unfolding bad_kind
kind_decides tb r =
    fails (bad_kind tb r) (sort_shown (tb.kind r) (tb.sort r) (tb.one r) (tb.two r) (tb.four r) (tb.six r))
    (sort_good (tb.one r) (tb.two r) (tb.four r) (tb.six r))

-- A record that neither 2 nor 3 is said of is shown.
pub shows : (tb : Table) (r : ℕ) → bad_kind tb r ≡ false → bad_field tb r ≡ false → Shows tb r
unfolding bad_kind bad_field interval
shows tb r e f =
    field_shown (tb.one r) (tb.two r) (tb.four r) (tb.six r)
    (sort_shown (tb.kind r) (tb.sort r) (tb.one r) (tb.two r) (tb.four r) (tb.six r) e)
    f

-- Of a record that is shown neither is said.
pub shows_kind : (tb : Table) (r : ℕ) → Shows tb r → bad_kind tb r ≡ false
unfolding bad_kind
shows_kind tb r h = sort_good (tb.one r) (tb.two r) (tb.four r) (tb.six r) (shown_sort h)

pub shows_field : (tb : Table) (r : ℕ) → Shows tb r → bad_field tb r ≡ false
unfolding bad_field interval
shows_field tb r h = shown_field h
