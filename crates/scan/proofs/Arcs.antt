-- A post arc begins the chain of its transition, which goes on with what it began with; any other record leaves the
-- chains as they were.
use mathlib.Core.Bool.{true, false}
use mathlib.Core.List.{List}
use mathlib.Core.Path.{◌≡◌, ◌∙◌}
use Prim.Native.Nat.{ℕ, suc, ◌+◌, ◌*◌, ◌≤◌, ◌<◌}
use native.Mathlib.Omega.{arith}
use lib.ListN.{length, get_or, set}
use Rattle.std.proofs.lemmas.Grind.{common_steps}
use Rattle.meaning.specs.Table.{Table, post}
use Rattle.scan.proofs.Entries.{with_entry}
use Rattle.rows.specs.Filed.{link, Posted, Descends}

-- A chain that goes down still does, with an entry of a place and a lower link.
module _ (posts : List ℕ) (r a b c : ℕ) (there : 3 * r + 3 ≤ length posts) where
  pub descends_more : Descends posts → a < 128 → c ≤ r → Descends (with_entry posts r a b c)
  descends_more g low under =
      record {
        down = λ k. let before = g.down k in grind (arith, common_steps);
        places = λ k. let before = g.places k in grind (arith, common_steps);
      }

module _ {tb : Table} {r : ℕ} {heads posts : List ℕ} (g : Posted tb r heads posts) where
  -- The record is no post arc.
  pub posted_same : post tb r ≡ false → Posted tb (suc r) heads posts
  unfolding link
  posted_same e =
      record {
        begins = λ t h. g.begins t h ∙ rw e;
        place = λ k h p. let before = g.place k in grind (arith, common_steps);
        weight = λ k h p. let before = g.weight k in grind (arith, common_steps);
        goes_on = λ k h p. let before = g.goes_on k in grind (arith, common_steps);
      }

  -- It is one.
  pub posted_more : post tb r ≡ true → tb.two r < 64 → length heads ≡ 64 → 3 * r + 3 ≤ length posts
      → Posted tb (suc r) (set heads (tb.two r) (suc r))
      (with_entry posts r (tb.one r) (tb.four r) (get_or heads (tb.two r) 0))
  unfolding link
  posted_more e low size there =
      record {
        begins = λ t h. let before = g.begins t h in rw e (grind (arith, common_steps));
        place = λ k h p. let before = g.place k in grind (arith, common_steps);
        weight = λ k h p. let before = g.weight k in grind (arith, common_steps);
        goes_on =
            λ k h p. let before = g.goes_on k in
            let began = g.begins (tb.two r) low in
            grind (arith, common_steps);
      }
