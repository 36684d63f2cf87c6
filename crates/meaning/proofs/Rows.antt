-- The tests behind answers 5 to 9 decide what their rows say: each asks whether records with such columns are there,
-- and so does its row.
use mathlib.Core.Bool.{Bool, not, ◌&&◌}
use mathlib.Core.Path.{◌≡◌, refl, sym, ◌∙◌}
use mathlib.Core.Logic.{◌≢◌, ◌⊎◌, inl, inr, ⊎_elim}
use Prim.Native.Nat.{ℕ, ◌≤◌, ◌<◌}
use native.Mathlib.Omega.{arith}
use Rattle.meaning.specs.Table.{Table, place, transition, is}
use Rattle.meaning.specs.Defined.{names_place, names_transition, names_second, unknown, empty, arc_at_place}
use Rattle.meaning.specs.Defined.{arc_at_transition, some_two, conflict, complementary, inhibited, settled}
use Rattle.meaning.specs.Defined.{unsettled}
use Rattle.meaning.specs.Says.{Place, Transition, Arc, Wanted, NamesUnknown, Above, Conflict, Settled}
use Rattle.meaning.proofs.Closure.{closed}
use Rattle.meaning.proofs.Reflect.{Decides, recast, eq_decides, lt_decides, and_decides, or_decides}
use Rattle.meaning.proofs.Reflect.{not_decides, some_decides}
use Rattle.meaning.proofs.Shows.{Shows, up_to_1}
use Rattle.meaning.proofs.Same.{of_kind, shown_condition}

-- A place, a transition is declared.
pub place_decides : (tb : Table) (p : ℕ) → Decides (place tb p) (Place tb p)
unfolding place
place_decides tb p =
    recast (some_decides tb.records (λ r. and_decides (eq_decides (tb.kind r) 1) (eq_decides (tb.one r) p)))
    (λ w. (w.0, w.1, w.2.0, w.2.1))
    (λ w. (w.0, w.1, (w.2, w.3)))

pub transition_decides : (tb : Table) (t : ℕ) → Decides (transition tb t) (Transition tb t)
unfolding transition
transition_decides tb t =
    recast (some_decides tb.records (λ r. and_decides (eq_decides (tb.kind r) 2) (eq_decides (tb.one r) t)))
    (λ w. (w.0, w.1, w.2.0, w.2.1))
    (λ w. (w.0, w.1, (w.2, w.3)))

-- The same, column by column as the test has it.
abbrev ByColumns : Table → ℕ → Type 0
ByColumns tb r =
    ((((tb.kind r ≡ 3) ⊎ (tb.kind r ≡ 6)) × ¬ Place tb (tb.one r))
    ⊎ ((((tb.kind r ≡ 4) ⊎ (tb.kind r ≡ 5)) ⊎ (tb.kind r ≡ 7)) × ¬ Transition tb (tb.one r)))
    ⊎ (((tb.kind r ≡ 3) ⊎ (tb.kind r ≡ 5)) × ¬ Transition tb (tb.two r))

-- 5: a record names what no record declares.
pub unknown_decides : (tb : Table) (r : ℕ) → Decides (unknown tb r) (NamesUnknown tb r)
unfolding unknown names_place names_transition names_second
unknown_decides tb r =
    recast
    (or_decides
    (or_decides (and_decides (or_decides (kind 3) (kind 6)) (not_decides (place_decides tb (tb.one r))))
    (and_decides (or_decides (or_decides (kind 4) (kind 5)) (kind 7)) (not_decides (transition_decides tb (tb.one r)))))
    (and_decides (or_decides (kind 3) (kind 5)) (not_decides (transition_decides tb (tb.two r)))))
    to
    from
  where
    kind : (k : ℕ) → Decides (is tb k r) (tb.kind r ≡ k)
    kind k = eq_decides (tb.kind r) k

    to : ByColumns tb r → NamesUnknown tb r
    to (inl (inl (inl e, n))) = NamesUnknown.arc_place e n
    to (inl (inl (inr e, n))) = NamesUnknown.action e n
    to (inl (inr (inl (inl e), n))) = NamesUnknown.condition e n
    to (inl (inr (inl (inr e), n))) = NamesUnknown.higher e n
    to (inl (inr (inr e, n))) = NamesUnknown.function e n
    to (inr (inl e, n)) = NamesUnknown.arc_transition e n
    to (inr (inr e, n)) = NamesUnknown.lower e n

    from : NamesUnknown tb r → ByColumns tb r
    from (NamesUnknown.arc_place e n) = inl (inl (inl e, n))
    from (NamesUnknown.action e n) = inl (inl (inr e, n))
    from (NamesUnknown.condition e n) = inl (inr (inl (inl e), n))
    from (NamesUnknown.higher e n) = inl (inr (inl (inr e), n))
    from (NamesUnknown.function e n) = inl (inr (inr e, n))
    from (NamesUnknown.arc_transition e n) = inr (inl e, n)
    from (NamesUnknown.lower e n) = inr (inr e, n)

-- 6: no record is a place; no record is a transition.
pub no_place_decides : (tb : Table) → Decides (empty tb 0) ((p : ℕ) → ¬ Place tb p)
unfolding empty
no_place_decides tb =
    recast (not_decides (some_decides tb.records (λ r. eq_decides (tb.kind r) 1))) (λ n p w. n (w.0, w.1, w.2))
    (λ n w. n (tb.one w.0) (w.0, w.1, w.2, refl))

pub no_transition_decides : (tb : Table) → Decides (empty tb 1) ((t : ℕ) → ¬ Transition tb t)
unfolding empty
no_transition_decides tb =
    recast (not_decides (some_decides tb.records (λ r. eq_decides (tb.kind r) 2))) (λ n p w. n (w.0, w.1, w.2))
    (λ n w. n (tb.one w.0) (w.0, w.1, w.2, refl))

-- 7: a declared place, a declared transition with no arc.
pub place_isolated_decides : (tb : Table) (p : ℕ)
    → Decides (place tb p && not (arc_at_place tb p)) (Place tb p × ((s t w : ℕ) → ¬ Arc tb s p t w))
unfolding arc_at_place
place_isolated_decides tb p =
    and_decides (place_decides tb p)
    (recast (not_decides (some_decides tb.records (λ r. and_decides (eq_decides (tb.kind r) 3) (eq_decides (tb.one r) p))))
    (λ n s t w a. n (a.0, a.1, (a.2, a.4)))
    (λ n a. n (tb.sort a.0) (tb.two a.0) (tb.four a.0) (a.0, a.1, a.2.0, refl, a.2.1, refl, refl)))

pub transition_isolated_decides : (tb : Table) (t : ℕ)
    → Decides (transition tb t && not (arc_at_transition tb t)) (Transition tb t × ((s p w : ℕ) → ¬ Arc tb s p t w))
unfolding arc_at_transition
transition_isolated_decides tb t =
    and_decides (transition_decides tb t)
    (recast (not_decides (some_decides tb.records (λ r. and_decides (eq_decides (tb.kind r) 3) (eq_decides (tb.two r) t))))
    (λ n s p w a. n (a.0, a.1, (a.2, a.5)))
    (λ n a. n (tb.sort a.0) (tb.one a.0) (tb.four a.0) (a.0, a.1, a.2.0, refl, refl, a.2.1, refl)))

-- 9: some record passes, and with it another.
some_two_decides : (n : ℕ) {p : ℕ → Bool} {q : ℕ → ℕ → Bool} {P : ℕ → Type 0} {Q : ℕ → ℕ → Type 0}
    → ((r : ℕ) → Decides (p r) (P r))
    → ((r s : ℕ) → Decides (q r s) (Q r s))
    → Decides (some_two n p q) ((r : ℕ) × (r < n) × (P r × ((s : ℕ) × (s < n) × Q r s)))
unfolding some_two
some_two_decides n d e = some_decides n (λ r. and_decides (d r) (some_decides n (e r)))

-- Two transitions with a basic arc from one place.
pub conflict_decides : (tb : Table) (i j : ℕ) → Decides (conflict tb i j) (Conflict tb i j)
unfolding conflict
conflict_decides tb i j =
    recast
    (some_two_decides tb.records
    (λ r. and_decides (and_decides (eq_decides (tb.kind r) 3) (eq_decides (tb.sort r) 0)) (eq_decides (tb.two r) i))
    (λ r s.
    and_decides
    (and_decides (and_decides (eq_decides (tb.kind s) 3) (eq_decides (tb.sort s) 0)) (eq_decides (tb.two s) j))
    (eq_decides (tb.one s) (tb.one r))))
    (λ w.
    let r = w.0 in
    let a = w.2.0 in
    let b = w.2.1 in
    let s = b.0 in (
      tb.one r,
      tb.four r,
      tb.four s,
      (r, w.1, a.0.0, a.0.1, refl, a.1, refl),
      (s, b.1, b.2.0.0.0, b.2.0.0.1, b.2.1, b.2.0.1, refl),
    ))
    (λ c.
    let a = c.3 in
    let b = c.4 in
    (a.0, a.1, (((a.2, a.3), a.5), (b.0, b.1, (((b.2, b.3), b.5), b.4 ∙ sym a.4)))))

-- The ways to settle a pair by conditions and by inhibitor arcs.
abbrev pub Complementary : Table → ℕ → ℕ → Type 0
Complementary tb i j = ((c : ℕ) × Wanted tb i c 0 × Wanted tb j c 1) ⊎ ((c : ℕ) × Wanted tb i c 1 × Wanted tb j c 0)

abbrev pub Inhibited : Table → ℕ → ℕ → Type 0
Inhibited tb i j = (p : ℕ) × (w : ℕ) × (Arc tb 0 p i w ⊎ Arc tb 1 p i w) × Arc tb 2 p j w

-- A condition wanted true by one and false by the other, either way round; records that the page shows have no other
-- sorts.
pub complementary_decides : (tb : Table) (i j : ℕ) → ((r : ℕ) → r < tb.records → Shows tb r)
    → Decides (complementary tb i j) (Complementary tb i j)
unfolding complementary
complementary_decides tb i j shown =
    recast
    (some_two_decides tb.records (λ r. and_decides (eq_decides (tb.kind r) 4) (eq_decides (tb.one r) i))
    (λ r s.
    and_decides
    (and_decides (and_decides (eq_decides (tb.kind s) 4) (eq_decides (tb.one s) j)) (eq_decides (tb.two s) (tb.two r)))
    (not_decides (eq_decides (tb.sort s) (tb.sort r)))))
    (λ w.
    let a = w.2.0 in
    let b = w.2.1 in
    sorts w.0 w.1 a.0 a.1 b.0 b.1 b.2.0.0.0 b.2.0.0.1 b.2.0.1 b.2.1)
    (⊎_elim (λ c. back 0 1 (omega arith) c.0 c.1 c.2) (λ c. back 1 0 (omega arith) c.0 c.1 c.2))
  where
    sorts : (r : ℕ) → r < tb.records → tb.kind r ≡ 4 → tb.one r ≡ i → (s : ℕ) → s < tb.records → tb.kind s ≡ 4
        → tb.one s ≡ j
        → tb.two s ≡ tb.two r → ¬ (tb.sort s ≡ tb.sort r)
        → Complementary tb i j
    sorts r l k o s m q p t n =
        up_to_1 (λ x. tb.sort r ≡ x → Complementary tb i j)
        (λ e. inl (tb.two r, (r, l, k, o, refl, e), (s, m, q, p, t, omega (arith, most_s))))
        (λ e. inr (tb.two r, (r, l, k, o, refl, e), (s, m, q, p, t, omega (arith, most_s))))
        (tb.sort r)
        (shown_condition (of_kind tb r 4 (shown r l) k))
        refl
      where
        most_s : tb.sort s ≤ 1
        most_s = shown_condition (of_kind tb s 4 (shown s m) q)

    back : (x y : ℕ) → x ≢ y → (c : ℕ) → Wanted tb i c x → Wanted tb j c y
        → (r : ℕ) × (r < tb.records)
        × (((tb.kind r ≡ 4) × (tb.one r ≡ i))
        × ((s : ℕ) × (s < tb.records)
        × ((((tb.kind s ≡ 4) × (tb.one s ≡ j)) × (tb.two s ≡ tb.two r)) × ¬ (tb.sort s ≡ tb.sort r))))
    back x y n c a b =
        (a.0, a.1, ((a.2, a.3), (b.0, b.1, (((b.2, b.3), b.4 ∙ sym a.4), λ e. n (sym a.5 ∙ sym e ∙ b.5)))))

-- A basic or test arc to i and an inhibitor arc of equal weight to j from one place.
pub inhibited_decides : (tb : Table) (i j : ℕ)
    → Decides (inhibited tb i j) (Inhibited tb i j)
unfolding inhibited
inhibited_decides tb i j =
    recast
    (some_two_decides tb.records
    (λ r.
    and_decides
    (or_decides (and_decides (eq_decides (tb.kind r) 3) (eq_decides (tb.sort r) 0))
    (and_decides (eq_decides (tb.kind r) 3) (eq_decides (tb.sort r) 1)))
    (eq_decides (tb.two r) i))
    (λ r s.
    and_decides
    (and_decides
    (and_decides (and_decides (eq_decides (tb.kind s) 3) (eq_decides (tb.sort s) 2)) (eq_decides (tb.two s) j))
    (eq_decides (tb.one s) (tb.one r)))
    (eq_decides (tb.four s) (tb.four r))))
    (λ w.
    let r = w.0 in
    let a = w.2.0 in
    let b = w.2.1 in
    let q = b.2 in (
      tb.one r,
      tb.four r,
      ⊎_elim (λ e. inl (r, w.1, e.0, e.1, refl, a.1, refl)) (λ e. inr (r, w.1, e.0, e.1, refl, a.1, refl)) a.0,
      (b.0, b.1, q.0.0.0.0, q.0.0.0.1, q.0.1, q.0.0.1, q.1),
    ))
    (λ c. ⊎_elim (λ a. back 0 c (λ r k s. inl (k, s)) a) (λ a. back 1 c (λ r k s. inr (k, s)) a) c.2)
  where
    back : (x : ℕ) (c : Inhibited tb i j)
        → ((r : ℕ) → tb.kind r ≡ 3 → tb.sort r ≡ x
        → ((tb.kind r ≡ 3) × (tb.sort r ≡ 0)) ⊎ ((tb.kind r ≡ 3) × (tb.sort r ≡ 1)))
        → Arc tb x c.0 i c.1
        → (r : ℕ) × (r < tb.records)
        × (((((tb.kind r ≡ 3) × (tb.sort r ≡ 0)) ⊎ ((tb.kind r ≡ 3) × (tb.sort r ≡ 1))) × (tb.two r ≡ i))
        × ((s : ℕ) × (s < tb.records)
        × (((((tb.kind s ≡ 3) × (tb.sort s ≡ 2)) × (tb.two s ≡ j)) × (tb.one s ≡ tb.one r))
        × (tb.four s ≡ tb.four r))))
    back x c f a =
        let b = c.3 in (
          a.0,
          a.1,
          ((f a.0 a.2 a.3, a.5), (b.0, b.1, ((((b.2, b.3), b.5), b.4 ∙ sym a.4), b.6 ∙ sym a.6))),
        )

-- One of the three ways settles a pair.
pub settled_decides : (tb : Table) (i j : ℕ) → ((r : ℕ) → r < tb.records → Shows tb r)
    → Decides (settled tb i j) (Settled tb i j)
unfolding settled
settled_decides tb i j shown =
    recast
    (or_decides
    (or_decides (or_decides (or_decides (closed tb i j) (closed tb j i)) (complementary_decides tb i j shown)) (inhibited_decides tb i j))
    (inhibited_decides tb j i))
    to
    from
  where
    to : (((Above tb i j ⊎ Above tb j i) ⊎ Complementary tb i j) ⊎ Inhibited tb i j) ⊎ Inhibited tb j i → Settled tb i j
    to (inl (inl (inl (inl a)))) = Settled.higher a
    to (inl (inl (inl (inr a)))) = Settled.lower a
    to (inl (inl (inr (inl c)))) = Settled.wants c.0 c.1 c.2
    to (inl (inl (inr (inr c)))) = Settled.shuns c.0 c.1 c.2
    to (inl (inr c)) = Settled.inhibits c.0 c.1 c.2 c.3
    to (inr c) = Settled.inhibited c.0 c.1 c.2 c.3

    from : Settled tb i j
        → (((Above tb i j ⊎ Above tb j i) ⊎ Complementary tb i j) ⊎ Inhibited tb i j) ⊎ Inhibited tb j i
    from (Settled.higher a) = inl (inl (inl (inl a)))
    from (Settled.lower a) = inl (inl (inl (inr a)))
    from (Settled.wants c a b) = inl (inl (inr (inl (c, a, b))))
    from (Settled.shuns c a b) = inl (inl (inr (inr (c, a, b))))
    from (Settled.inhibits p w a b) = inl (inr (p, w, a, b))
    from (Settled.inhibited p w a b) = inr (p, w, a, b)

-- A pair in conflict that is not settled.
pub unsettled_decides : (tb : Table) (i j : ℕ) → ((r : ℕ) → r < tb.records → Shows tb r)
    → Decides (unsettled tb i j) ((i < j) × (Conflict tb i j × ¬ Settled tb i j))
unfolding unsettled
unsettled_decides tb i j shown =
    and_decides (lt_decides i j) (and_decides (conflict_decides tb i j) (not_decides (settled_decides tb i j shown)))
