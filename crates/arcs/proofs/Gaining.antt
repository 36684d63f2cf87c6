-- Rivals are gained one above the other: the walk over those below u gives u to each that it meets, and the walk over
-- all u gives each its rivals.
use mathlib.Core.Bool.{Bool, true, false, not, ◌&&◌, ◌||◌, or-false}
use mathlib.Core.List.{List}
use mathlib.Core.Path.{◌≡◌, refl, sym, ◌∙◌}
use Prim.Native.Nat.{ℕ, ◌+◌, ◌*◌, ◌≤◌, ◌<◌}
use native.Mathlib.Numerals.{add-one}
use native.Mathlib.Omega.{arith}
use lib.Dec.{eqb, ltb}
use lib.ListN.{length, get_or, set, length-set}
use lib.Seq.{get_or-set_other}
use Rattle.std.proofs.lemmas.Bool.Decides.{nat_tests}
use borrow.Author.Tests.{le-ltb}
use Rattle.meaning.specs.Below.{some}
use Rattle.meaning.specs.Bytes.{bit}
use Rattle.rows.specs.Rows.{inputs, takers, below}
use Rattle.sets.proofs.Bits.{bit_zero}
use Rattle.sets.proofs.Some.{some_short}
use Rattle.sets.proofs.Taking.{kept}
use Rattle.sets.proofs.Walk.{one_more}
use Rattle.arcs.specs.Arcs.{rivals_of, Turned, meeting, rival, LowPairs, Rivals}
use Rattle.arcs.proofs.Putting.{one_put}
use Rattle.arcs.proofs.Meeting.{met, meeting_stays}

-- The places of each transition have stayed.
abbrev pub Stayed : List ℕ → List ℕ → Type 0
Stayed before after = (t c : ℕ) → c < 4 → get_or after (5 * t + c) 0 ≡ get_or before (5 * t + c) 0

-- Where the walk over those below u has come to, by where it began: who has u for a rival, or is left and meets it,
-- has stayed the same.
pub record Gains (u left₀ : ℕ) (arcs₀ : List ℕ) (lower₀ left : ℕ) (arcs : List ℕ) (lower : ℕ) : Type 0 where
  pub size : length arcs ≡ 320
  pub places : Stayed arcs₀ arcs
  pub rivals : (t v : ℕ)
      → (bit (rivals_of arcs t) v || ((bit left t && meeting arcs₀ t u) && eqb u v))
      ≡ (bit (rivals_of arcs₀ t) v || ((bit left₀ t && meeting arcs₀ t u) && eqb u v))
  pub lowers : (t : ℕ) → (bit lower t || (bit left t && meeting arcs₀ t u))
      ≡ (bit lower₀ t || (bit left₀ t && meeting arcs₀ t u))

-- What a turn makes of the sets: k has u for a rival where y says so.
pub record Gained (u k : ℕ) (y : Bool) (arcs : List ℕ) (lower : ℕ) (after : List ℕ) (more : ℕ) : Type 0 where
  pub size : length after ≡ 320
  pub places : Stayed arcs after
  pub rivals : (t v : ℕ) → bit (rivals_of after t) v ≡ (bit (rivals_of arcs t) v || ((y && eqb k t) && eqb u v))
  pub lowers : (j : ℕ) → bit more j ≡ (bit lower j || (y && eqb k j))

-- It is written into the set of its rivals; or nothing is written.
pub rival_put : (u k : ℕ) (arcs : List ℕ) (lower v more : ℕ) → length arcs ≡ 320 → k < 64
    → ((j : ℕ) → bit v j ≡ (bit (rivals_of arcs k) j || eqb u j)) → ((j : ℕ) → bit more j ≡ (bit lower j || eqb k j))
    → Gained u k true arcs lower (set arcs (5 * k + 4) v) more
rival_put u k arcs lower v more size low gains joins =
    record {
      size = length-set arcs (5 * k + 4) v ∙ size;
      places = λ t c h. get_or-set_other arcs (5 * k + 4) (5 * t + c) v 0 (λ z. omega arith);
      rivals = λ t w. one_put arcs k 4 v (omega arith) (omega arith) (eqb u) gains t 4 w (omega arith);
      lowers = joins;
    }

pub none_put : (u k : ℕ) (arcs : List ℕ) (lower : ℕ) → length arcs ≡ 320 → Gained u k false arcs lower arcs lower
none_put u k arcs lower size =
    record { size = size; places = λ t c h. refl; rivals = λ t w. sym (or-false _); lowers = λ j. sym (or-false _) }

-- A turn takes member k out of set a and leaves set b.
pub one_gained : (a k b : ℕ) → ((j : ℕ) → bit b j ≡ (bit a j && not (eqb k j))) → bit a k ≡ true → k < 64
    → {u left₀ : ℕ} {arcs₀ : List ℕ} {lower₀ : ℕ} {arcs : List ℕ} {lower : ℕ} → Gains u left₀ arcs₀ lower₀ a arcs lower
    → (y : Bool)
    → y ≡ meeting arcs k u → (after : List ℕ) (more : ℕ) → Gained u k y arcs lower after more
    → Gains u left₀ arcs₀ lower₀ b after more
one_gained a k b rest has low {u} {left₀} {arcs₀} {lower₀} {arcs} {lower} w y says after more g =
    record {
      size = g.size;
      places = λ t c h. g.places t c h ∙ w.places t c h;
      rivals = λ t v. grind (arith, nat_tests, g.rivals t v, rest t, w.rivals t v, passes, has);
      lowers = λ t.
          kept a k b rest (λ t. meeting arcs₀ t u) lower more y has passes g.lowers t ∙ w.lowers t;
    }
  where
    passes : y ≡ meeting arcs₀ k u
    passes = says ∙ meeting_stays arcs arcs₀ w.places k u

-- Each transition has those of its rivals that are below u, and the set `lower` has those with such rivals.
pub record GivenTo (rows arcs₀ : List ℕ) (u : ℕ) (arcs : List ℕ) (lower : ℕ) : Type 0 where
  pub size : length arcs ≡ 320
  pub places : Stayed arcs₀ arcs
  pub rivals : (t v : ℕ) → t < 64 → bit (rivals_of arcs t) v ≡ (ltb v u && rival rows t v)
  pub lowers : (t : ℕ) → t < 64 → bit lower t ≡ some u (rival rows t)

module _ {rows arcs₀ : List ℕ} (turned : Turned rows arcs₀) where
  -- At first nobody has.
  pub none_given : GivenTo rows arcs₀ 0 arcs₀ 0
  unfolding some
  none_given =
      record {
        size = turned.size;
        places = λ t c h. refl;
        rivals = λ t v h. turned.no_rivals t v h ∙ rw (le-ltb v 0 (omega arith));
        lowers = λ t h. bit_zero t;
      }

  -- The walk over those below u is done: whoever meets u there has it.
  pub one_given : {u : ℕ} {arcs : List ℕ} {lower left : ℕ} {after : List ℕ} {more : ℕ}
      → GivenTo rows arcs₀ u arcs lower → u < 64
      → Gains u (below rows u) arcs lower left after more → left ≡ 0 → GivenTo rows arcs₀ (u + 1) after more
  unfolding some
  one_given {u} {arcs} {lower} {left} {after} {more} w low g e =
      record {
        size = g.size;
        places = λ t c h. g.places t c h ∙ w.places t c h;
        rivals = λ t v h.
            sym (rw (e, bit_zero t) (or-false _)) ∙ g.rivals t v
            ∙ rw (w.rivals t v h, meets t h) (one_more (rival rows t) u v);
        lowers = λ t h. rw add-one (grind (arith, nat_tests, e, bit_zero t, g.lowers t, w.lowers t h, meets t h));
      }
    where
      meets : (t : ℕ) → t < 64 → meeting arcs t u ≡ some 128 (λ p. bit (inputs rows p) t && bit (takers rows p) u)
      meets t h = meeting_stays arcs arcs₀ w.places t u ∙ met turned t u h low

  -- With the rivals below n given, and nobody above another from n on, all are.
  pub all_given : {n u : ℕ} {arcs : List ℕ} {lower : ℕ} → LowPairs n rows → n ≤ u → u ≤ 64
      → GivenTo rows arcs₀ u arcs lower → Rivals rows arcs lower
  all_given {n} {u} {arcs} {lower} few past small w =
      record {
        size = w.size;
        low_is = λ t p h l. rw (w.places t 0 (omega arith)) (turned.low_is t p h l);
        high_is = λ t p h l. rw (w.places t 1 (omega arith)) (turned.high_is t p h l);
        takes_low_is = λ t p h l. rw (w.places t 2 (omega arith)) (turned.takes_low_is t p h l);
        takes_high_is = λ t p h l. rw (w.places t 3 (omega arith)) (turned.takes_high_is t p h l);
        rivals_are = λ t v h l. grind (arith, nat_tests, w.rivals t v h, none t v h l);
        lower_is = λ t h. w.lowers t h ∙ some_short u 64 (rival rows t) small (λ k far l. none t k h l far);
      }
    where
      none : (t v : ℕ) → t < 64 → v < 64 → u ≤ v → rival rows t v ≡ false
      none t v h l far = rw (few.none v t (omega arith) l h)
