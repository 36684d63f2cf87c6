-- What is filed after each kind of record: an arc, a place, a transition, and any other, which stands in the rows
-- alone.
use mathlib.Core.Bool.{true, false, ◌||◌}
use mathlib.Core.List.{List}
use mathlib.Core.Path.{◌≡◌, refl, ◌∙◌}
use Prim.Native.Nat.{ℕ, suc, ◌+◌, ◌*◌, ◌≤◌, ◌<◌}
use native.Mathlib.Omega.{arith}
use lib.Dec.{eqb}
use lib.ListN.{length}
use borrow.Author.Tests.{ne_eqb, lt-ltb}
use Rattle.meaning.specs.Bytes.{bit}
use Rattle.meaning.specs.Table.{Table, is, post}
use Rattle.records.specs.declared.Rec.{Rec}
use Rattle.records.specs.Record.{Reads, alone}
use Rattle.rows.specs.declared.Declared.{Declared}
use Rattle.rows.specs.Rows.{has}
use Rattle.rows.specs.Filed.{input, kept_in, post_of, Filed}
use Rattle.scan.specs.Scan.{Kept, InputKept, PostKept, TimesKept}
use Rattle.scan.proofs.Slots.{by_row, kept_none}
use Rattle.scan.proofs.Filing
use Rattle.rows.proofs.Arcs.{link_le}
use Rattle.scan.proofs.Arcs.{descends_more, posted_same, posted_more}

module _ {tb : Table} {r : ℕ} {x : Rec} (reads : Reads tb r x) where
  -- The kind of the record, as it was read.
  kind_is : (kind j : ℕ) → x.kind ≡ kind → is tb j r ≡ eqb kind j
  kind_is kind j e = rw (← reads.kind, e)

  no_input : (kind : ℕ) → x.kind ≡ kind → eqb kind 3 ≡ false → input tb r ≡ false
  no_input kind e n = rw (kind_is kind 3 e, n)

  no_post : (kind : ℕ) → x.kind ≡ kind → eqb kind 3 ≡ false → post tb r ≡ false
  no_post kind e n = rw (kind_is kind 3 e, n)

  module _ {rows : List ℕ} {w s : List (List ℕ)} {heads posts times : List ℕ} {known : Declared}
      (g : Filed tb r rows w s heads posts times known) where
    -- An input arc.
    pub files_input : x.kind ≡ 3 → x.sort < 3 → x.one < length w → x.one < length s → x.two < 64
        → {rows' : List ℕ} {w' s' : List (List ℕ)}
        → InputKept x false rows w s rows' w' s' → Filed tb (suc r) rows' w' s' heads posts times known
    files_input kind sort there there' two kept =
        let in_is : input tb r ≡ true = rw (kind_is 3 3 kind, ← reads.sort, lt-ltb x.sort 3 sort) in
        let no : ¬ (x.sort ≡ 3) = λ z. omega (arith, z, sort) in
        let post_is : post tb r ≡ false = rw (kind_is 3 3 kind, ← reads.sort, ne_eqb x.sort 3 no) in
        record {
          rowed = Filing.rowed_next reads (kept.kept refl) g.rowed;
          weights =
              rw (kept.weight refl, reads.one, reads.two, reads.four)
              (Filing.cells_more g.weights in_is (rw reads.one at there) (rw reads.two at two));
          sorts =
              rw (kept.sort refl, reads.one, reads.two, reads.sort)
              (Filing.cells_more g.sorts in_is (rw reads.one at there') (rw reads.two at two));
          posted = posted_same g.posted post_is;
          descends = g.descends;
          timed = Filing.timed_same g.timed (kind_is 3 2 kind);
          known_are = Filing.known_same g.known_are (kind_is 3 1 kind) (kind_is 3 2 kind);
        }

    -- A post arc.
    pub files_post : x.kind ≡ 3 → x.sort ≡ 3 → x.one < 128 → x.two < 64 → length heads ≡ 64
        → 3 * r + 3 ≤ length posts → {rows' heads' posts' : List ℕ}
        → PostKept x r false rows heads posts rows' heads' posts'
        → Filed tb (suc r) rows' w s heads' posts' times known
    files_post kind sort one two size there kept =
        let in_is : input tb r ≡ false = rw (kind_is 3 3 kind, ← reads.sort, sort) in
        let post_is : post tb r ≡ true = rw (kind_is 3 3 kind, ← reads.sort, sort) in
        let low : tb.two r < 64 = rw reads.two at two in
        record {
          rowed = Filing.rowed_next reads (kept.kept refl) g.rowed;
          weights = Filing.cells_same g.weights in_is;
          sorts = Filing.cells_same g.sorts in_is;
          posted =
              rw (kept.head refl, kept.entry refl, reads.one, reads.two, reads.four)
              (posted_more g.posted post_is low size there);
          descends =
              rw (kept.entry refl, reads.two)
              (descends_more posts r _ _ _ there g.descends one
              (omega (arith, g.posted.begins (tb.two r) low, link_le r (post_of tb (tb.two r)))));
          timed = Filing.timed_same g.timed (kind_is 3 2 kind);
          known_are = Filing.known_same g.known_are (kind_is 3 1 kind) (kind_is 3 2 kind);
        }

    -- A record that stands in the rows alone.
    pub files_row : (kind : ℕ) → x.kind ≡ kind → eqb kind 3 ≡ false → eqb kind 1 ≡ false → eqb kind 2 ≡ false
        → {rows' : List ℕ} → Kept x rows rows'
        → Filed tb (suc r) rows' w s heads posts times known
    files_row kind e n n1 n2 kept =
        record {
          rowed = Filing.rowed_next reads kept g.rowed;
          weights = Filing.cells_same g.weights (no_input kind e n);
          sorts = Filing.cells_same g.sorts (no_input kind e n);
          posted = posted_same g.posted (no_post kind e n);
          descends = g.descends;
          timed = Filing.timed_same g.timed (kind_is kind 2 e ∙ n2);
          known_are = Filing.known_same g.known_are (kind_is kind 1 e ∙ n1) (kind_is kind 2 e ∙ n2);
        }

    -- A place.
    pub files_place : x.kind ≡ 1 → {after : Declared} {p : ℕ} → p ≡ x.one
        → ((q : ℕ) → q < 128 → has after q ≡ (has known q || eqb p q))
        → after.transitions ≡ known.transitions → Kept x rows rows → Filed tb (suc r) rows w s heads posts times after
    files_place e p_is gains same kept =
        record {
          rowed = Filing.rowed_next reads kept g.rowed;
          weights = Filing.cells_same g.weights (no_input 1 e refl);
          sorts = Filing.cells_same g.sorts (no_input 1 e refl);
          posted = posted_same g.posted (no_post 1 e refl);
          descends = g.descends;
          timed = Filing.timed_same g.timed (kind_is 1 2 e);
          known_are = Filing.known_place g.known_are (kind_is 1 1 e) (kind_is 1 2 e) (p_is ∙ reads.one) gains same;
        }

    -- A transition.
    pub files_transition : x.kind ≡ 2 → {after : Declared} {t : ℕ} {times' : List ℕ} → t ≡ x.one
        → ((u : ℕ) → bit after.transitions u ≡ (bit known.transitions u || eqb t u))
        → ((q : ℕ) → has after q ≡ has known q)
        → TimesKept x times times' → Kept x rows rows → Filed tb (suc r) rows w s heads posts times' after
    files_transition e t_is gains same kept_times kept =
        record {
          rowed = Filing.rowed_next reads kept g.rowed;
          weights = Filing.cells_same g.weights (no_input 2 e refl);
          sorts = Filing.cells_same g.sorts (no_input 2 e refl);
          posted = posted_same g.posted (no_post 2 e refl);
          descends = g.descends;
          timed = Filing.timed_more g.timed reads (kind_is 2 2 e) kept_times;
          known_are =
              Filing.known_transition g.known_are (kind_is 2 1 e) (kind_is 2 2 e) (t_is ∙ reads.one) gains same;
        }

-- A place or a transition stands in none of the rows.
pub in_no_row : (x : Rec) (rows : List ℕ) (kind : ℕ) → x.kind ≡ kind → eqb kind 3 ≡ false → eqb kind 4 ≡ false
    → eqb kind 5 ≡ false → eqb kind 6 ≡ false
    → eqb kind 7 ≡ false → Kept x rows rows
unfolding kept_in
in_no_row x rows kind k arcs conditions pairs actions functions =
    kept_none x rows
    (by_row (λ c. kept_in (alone x) c 0 ≡ false) (rw (k, arcs)) (rw (k, arcs)) (rw (k, arcs)) (rw (k, actions))
    (rw (k, conditions)) (rw (k, conditions))
    (rw (k, functions)) (rw (k, pairs)))

-- A priority, an action or a function stands in one.
module _ (x : Rec) where
  pub priority_row : x.kind ≡ 5 → (c : ℕ) → c < 8 → kept_in (alone x) c 0 ≡ eqb 7 c
  unfolding kept_in
  priority_row e =
      by_row (λ c. kept_in (alone x) c 0 ≡ eqb 7 c) (rw e) (rw e) (rw e) (rw e) (rw e) (rw e) (rw e) (rw e)

  pub action_row : x.kind ≡ 6 → (c : ℕ) → c < 8 → kept_in (alone x) c 0 ≡ eqb 3 c
  unfolding kept_in
  action_row e =
      by_row (λ c. kept_in (alone x) c 0 ≡ eqb 3 c) (rw e) (rw e) (rw e) (rw e) (rw e) (rw e) (rw e) (rw e)

  pub function_row : x.kind ≡ 7 → (c : ℕ) → c < 8 → kept_in (alone x) c 0 ≡ eqb 6 c
  unfolding kept_in
  function_row e =
      by_row (λ c. kept_in (alone x) c 0 ≡ eqb 6 c) (rw e) (rw e) (rw e) (rw e) (rw e) (rw e) (rw e) (rw e)
