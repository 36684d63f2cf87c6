-- The arc is among the post arcs of its place, and its entry goes on with what its transition's chain began with.
use mathlib.Core.Path.{◌≡◌}
use Prim.Native.Nat.{ℕ, ◌<◌}
use native.Mathlib.Numerals.{add-one}
use native.Mathlib.Omega.{arith}
use lib.Dec.{eqb}
use lib.ListN.{length-set}
use Rattle.records.specs.declared.Rec.{Rec}
use Rattle.records.specs.Record.{alone}
use Rattle.rows.specs.Filed.{kept_in}
use Rattle.scan.proofs.Entries.{stored_size}
use Rattle.scan.proofs.Slots.{by_row, kept_one}
use Rattle.scan.proofs.keep_post.Goals as goal

-- Row 2 keeps a post arc.
post_rows : (x : Rec) → x.kind ≡ 3 → x.sort ≡ 3 → (c : ℕ) → c < 8 → kept_in (alone x) c 0 ≡ eqb 2 c
unfolding kept_in
post_rows x k s =
    by_row (λ c. kept_in (alone x) c 0 ≡ eqb 2 c) (rw (k, s)) (rw (k, s)) (rw (k, s)) (rw k) (rw k) (rw k) (rw k) (rw k)

pub returns-clause-post_kept : goal.returns-clause-post_kept
returns-clause-post_kept c =
    let x = c.args.x in
    record {
      size = c.enter.ensures.entered.size;
      heads_size = length-set c.args.heads.now _ _;
      posts_size = stored_size c.args.posts.now c.args.r _ _ _ c.requires.room.2;
      kept = λ e.
          kept_one x _ c.enter.ensures.entered (omega (arith, c.from.ensures)) c.from-t.ensures (omega arith)
          (post_rows x c.requires.kind_value.0 c.requires.kind_value.1);
      head = λ e. rw (c.from-t.ensures, add-one c.args.r);
      entry = λ e. rw (c.from-t.ensures, c.from-2.ensures);
    }
