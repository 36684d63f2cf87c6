-- One round keeps what the fired set has to meet: a decided transition has none of those left for a rival, so what it
-- was decided by stays as it was.
use mathlib.Core.Bool.{Bool, true, false, not, ◌&&◌, ◌||◌, and-true, and-false, or-false}
use mathlib.Core.List.{List}
use mathlib.Core.Path.{◌≡◌, refl, sym, ap, ◌∙◌}
use Prim.Native.Nat.{ℕ, zero, suc, ◌+◌, ◌<◌, ◌^◌}
use native.Mathlib.Nat.{not-suc-le-zero, lt_of_le_of_lt}
use native.Mathlib.Omega.{arith}
use lib.Bits.{bit_and, and_le_l}
use borrow.Author.Tests.{eq-eqb}
use Rattle.meaning.specs.Bytes.{bit}
use Rattle.meaning.proofs.Bool.{not_both, and_left, and_right, or_false as or_none}
use Rattle.meaning.proofs.Below.{some_elim, none_intro, none_elim}
use Rattle.meaning.proofs.Reflect.{not_true_false}
use Rattle.sets.proofs.Bits.{bit_zero, bit-and, same_set}
use Rattle.rows.specs.Rows.{takers}
use Rattle.arcs.specs.Arcs.{low, high, rivals_of}
use Rattle.firing.specs.declared.Round.{Round}
use Rattle.firing.specs.Fired.{stopped_at, left_enabled, pays, keeps, Ranks, waits_for, Decided, Fires}

-- Where the set g takes nothing, nothing of it stops t.
pub spared : (m rows : List ℕ) (w s : List (List ℕ)) (near far g t : ℕ) → g ≡ 0
    → left_enabled m rows w s near far g t ≡ true
unfolding left_enabled
spared m rows w s near far g t e =
    ap not (or_none (none_intro 64 _ (λ p h. untouched near p (0 + p)))
    (none_intro 64 _ (λ p h. untouched far p (64 + p))))
  where
    untouched : (word k p : ℕ) → (bit word k && stopped_at m rows w s g t p) ≡ false
    untouched word k p =
        rw (eq-eqb (bit_and g (takers rows p)) 0 (omega (arith, and_le_l g (takers rows p)))) (and-false (bit word k))

-- A walk over the members of `left` has `todo` to come: x has what the base has, and those passed of which f holds.
abbrev pub Passed : ℕ → ℕ → ℕ → (ℕ → Bool) → ℕ → Type 0
Passed base left todo f x = (t : ℕ) → t < 64 → bit x t ≡ (bit base t || ((bit left t && not (bit todo t)) && f t))

-- At the end all are passed.
pub all_passed : (base left todo : ℕ) (f : ℕ → Bool) (x : ℕ) → todo ≡ 0 → Passed base left todo f x
    → (t : ℕ) → t < 64 → bit x t ≡ (bit base t || (bit left t && f t))
all_passed base left todo f x e p t h = p t h ∙ rw (e, bit_zero t, and-true (bit left t))

-- Where the walk over those left has come to: who of those passed waits is kept, and who fires is added to `out`.
pub record Walked (left out : ℕ) (waits fires : ℕ → Bool) (todo keep more : ℕ) : Type 0 where
  pub inside : (t : ℕ) → bit todo t ≡ true → bit left t ≡ true
  pub kept : Passed 0 left todo waits keep
  pub added : Passed out left todo fires more

module _ (able : ℕ) (m rows arcs : List ℕ) (w s : List (List ℕ)) (lower : ℕ) where
  -- After a round: who is decided meets the rule and has none of those left for a rival.
  pub record Settled (left out : ℕ) : Type 0 where
    pub ranks : Ranks arcs lower
    pub opens : (t : ℕ) → t < 64 → bit left t ≡ true → (bit able t ≡ true) × (bit out t ≡ false)
    pub clear : (t u : ℕ) → t < 64 → u < 64 → bit able t ≡ true → bit left t ≡ false → bit (rivals_of arcs t) u ≡ true
        → bit left u ≡ false
    pub meets : (t : ℕ) → t < 64 → bit left t ≡ false → bit out t ≡ (bit able t && keeps m rows arcs w s out t)

  -- At the start those with rivals are left. All other firable ones have fired: nobody takes before them.
  module _ (ranks : Ranks arcs lower) (out : ℕ) (small : out < 2 ^ 64)
      (first : (t : ℕ) → bit out t ≡ (bit able t && not (bit lower t))) where
    -- Who is firable and not left has no rivals.
    open_top : (t : ℕ) → bit able t ≡ true → bit (bit_and able lower) t ≡ false → bit lower t ≡ false
    open_top t e n = rw e at (sym (bit-and able lower t) ∙ n)

    -- So nothing is taken before it.
    untaken : (t : ℕ) → t < 64 → bit lower t ≡ false → keeps m rows arcs w s out t ≡ true
    untaken t h n =
        spared m rows w s (low arcs t) (high arcs t) _ t
        (same_set (bit_and out (rivals_of arcs t)) 0 (lt_of_le_of_lt (and_le_l out (rivals_of arcs t)) small)
        (omega arith)
        (λ u l. bit-and out (rivals_of arcs t) u
        ∙ rw (ranks.lower_is t h n u l, and-false (bit out u)) (sym (bit_zero u))))

    pub at_start : Settled (bit_and able lower) out
    at_start =
        record {
          ranks = ranks;
          opens = λ t h e.
              let both : (bit able t && bit lower t) ≡ true = sym (bit-and able lower t) ∙ e in (
                and_left (bit able t) (bit lower t) both,
                first t ∙ rw (and_right (bit able t) (bit lower t) both) (and-false (bit able t)),
              );
          clear = λ t u h l e n a. not_both a (ranks.lower_is t h (open_top t e n) u l);
          meets = λ t h n. grind (arith, first t, open_top t, untaken t h);
        }

module _ {able : ℕ} {m rows arcs : List ℕ} {w s : List (List ℕ)} {lower left out : ℕ}
    (d : Settled able m rows arcs w s lower left out) where
  -- With none left the set meets the rule.
  pub none_left : ((t : ℕ) → t < 64 → bit left t ≡ false) → Fires able m rows arcs w s out
  none_left none = record { meets = λ t h. d.meets t h (none t h) }

  -- None is left in a set that is 0.
  pub at_end : left ≡ 0 → Fires able m rows arcs w s out
  at_end none = none_left (λ t h. rw (none, bit_zero t))

  -- A round leaves fewer: where all those left waited, each would have a rival of a lower rank among them.
  module _ {x : Round} (r : Decided left out m rows arcs w s x) where
    nobody : ((u : ℕ) → u < 64 → bit left u ≡ true → waits_for arcs left u ≡ true) → (k t : ℕ) → t < 64
        → d.ranks.rank t < k → ¬ (bit left t ≡ true)
    nobody all zero t h l e = not-suc-le-zero l
    nobody all (suc k) t h l e =
        let w = some_elim 64 _ (all t h e) in
        let rival = and_left (bit (rivals_of arcs t) w.0) (bit left w.0) w.2 in
        nobody all k w.0 w.1 (omega (arith, d.ranks.falls t w.0 h w.1 rival)) (and_right _ (bit left w.0) w.2)

    pub fewer : left < 2 ^ 64 → x.left < 2 ^ 64 → ¬ (left ≡ 0) → x.left < left
    fewer small small' some =
        let part : x.left ≡ bit_and left x.left =
        same_set x.left (bit_and left x.left) small' (lt_of_le_of_lt (and_le_l left x.left) small)
        (λ k h. grind (arith, bit-and left x.left k, r.waits k h)) in
        let other : ¬ (x.left ≡ left) =
        λ e. some (same_set left 0 small (omega arith)
        (λ t h. not_true_false (bit left t) (nobody (λ u l q. and_right (bit left u) _
        (sym (r.waits u l) ∙ ap (λ (z : ℕ). bit z u) e ∙ q)) (suc (d.ranks.rank t)) t h (omega arith))
        ∙ sym (bit_zero t))) in
        omega (arith, and_le_l left x.left)

    -- Those of rank k are decided by round k: where none of a lower rank is left before a round, none of rank k is
    -- behind it.
    pub gone : (k : ℕ) → ((t : ℕ) → t < 64 → d.ranks.rank t < k → bit left t ≡ false)
        → (t : ℕ) → t < 64 → d.ranks.rank t < k + 1 → bit x.left t ≡ false
    gone k none t h l = r.waits t h ∙ rw alone (and-false (bit left t))
      where
        rival : (u : ℕ) → u < 64 → (b : Bool) → bit (rivals_of arcs t) u ≡ b → (b && bit left u) ≡ false
        rival u h' true e = none u h' (omega (arith, d.ranks.falls t u h h' e, l))
        rival u h' false e = refl

        alone : waits_for arcs left t ≡ false
        alone = none_intro 64 _ (λ u h'. rival u h' (bit (rivals_of arcs t) u) refl)

  module _ {x : Round} (r : Decided left out m rows arcs w s x) (small : out < 2 ^ 64) (small' : x.out < 2 ^ 64) where
    abbrev keep : ℕ → ℕ → Bool
    keep = keeps m rows arcs w s

    -- Who does not wait has none of those left for a rival.
    unled : (t u : ℕ) → u < 64 → waits_for arcs left t ≡ false → bit (rivals_of arcs t) u ≡ true → bit left u ≡ false
    unled t u h e a = rw a at (none_elim 64 (λ v. bit (rivals_of arcs t) v && bit left v) e u h)

    -- Who is decided stays so, in or out of the fired.
    left_out : (u : ℕ) → u < 64 → bit left u ≡ false → bit x.left u ≡ false
    left_out u h e = r.waits u h ∙ rw e

    out_same : (u : ℕ) → u < 64 → bit left u ≡ false → bit x.out u ≡ bit out u
    out_same u h e = r.fires u h ∙ rw e (or-false (bit out u))

    -- So the fired rivals of t stay the same, where none of those left is a rival of t.
    keeps_same : (t : ℕ) → ((u : ℕ) → u < 64 → bit (rivals_of arcs t) u ≡ true → bit left u ≡ false)
        → keep out t ≡ keep x.out t
    keeps_same t none =
        ap (λ (g : ℕ). pays m rows arcs w s g t)
        (same_set (bit_and out a) (bit_and x.out a) (lt_of_le_of_lt (and_le_l out a) small)
        (lt_of_le_of_lt (and_le_l x.out a) small')
        (λ u h. grind (arith, bit-and out a u, bit-and x.out a u, none u h, out_same u h)))
      where
        a : ℕ
        a = rivals_of arcs t

    -- What is decided in this round or before has none of those left for a rival.
    no_rival : (t : ℕ) → t < 64 → bit able t ≡ true → bit x.left t ≡ false → (b : Bool) → bit left t ≡ b
        → (u : ℕ) → u < 64 → bit (rivals_of arcs t) u ≡ true → bit left u ≡ false
    no_rival t h e n true l u v a = unled t u v (sym (rw l at (r.waits t h)) ∙ n) a
    no_rival t h e n false l u v a = d.clear t u h v e l a

    -- One more round.
    pub one_more : Settled able m rows arcs w s lower x.left x.out
    one_more =
        record {
          ranks = d.ranks;
          opens = λ t h e.
              let o = d.opens t h (and_left (bit left t) _ (sym (r.waits t h) ∙ e)) in
              (o.0, grind (arith, r.waits t h, r.fires t h, o.1));
          clear = λ t u h v e n a. left_out u v (no_rival t h e n (bit left t) refl u v a);
          meets = λ t h n.
              let kept : bit able t ≡ true → keep out t ≡ keep x.out t =
              λ e. keeps_same t (no_rival t h e n (bit left t) refl) in
              grind (arith, r.waits t h, r.fires t h, d.opens t h, d.meets t h, kept);
        }
