-- The image of a fresh net, record by record: after r records the image holds the first tokens of the places declared
-- so far.
use mathlib.Core.Bool.{Bool, true, false, cond, ◌&&◌}
use mathlib.Core.Path.{◌≡◌, refl, sym, ap, fun_ext}
use Prim.Native.Nat.{ℕ, suc, ◌≤◌, ◌<◌}
use native.Mathlib.Omega.{arith}
use lib.Dec.{eqb}
use lib.ListN.{replicate}
use borrow.Author.Tests.{eq-eqb, eqb-true, ne_eqb}
use Rattle.meaning.specs.Below.{sum}
use Rattle.meaning.specs.Bytes.{bytes}
use Rattle.meaning.specs.Table.{Table, is, total}
use Rattle.meaning.specs.Says.{Shown}
use Rattle.meaning.specs.Image.{State, join, image_bytes, fresh}
use Rattle.meaning.proofs.Bool.{and_left, and_right}
use Rattle.meaning.proofs.Below.{sum_zero}
use Rattle.meaning.proofs.Sound.{SoundTable, place_once}
use Rattle.meaning.proofs.Same.{of_kind, shown_place}
use Rattle.state.specs.Stored.{tokens_put}
use Rattle.state.proofs.Put.{store_place}

-- The fresh net of the first r records.
unfoldable pub begun : Table → ℕ → State
begun tb r =
    record {
      tokens = λ p. sum r (λ k. cond (is tb 1 k && eqb (tb.one k) p) (tb.four k) 0);
      counter = λ t. 0;
      order = λ t. false;
    }

-- No records: all zeros.
pub begun_none : (tb : Table) → replicate 768 0 ≡ image_bytes (begun tb 0)
unfolding begun sum image_bytes join bytes
begun_none tb = refl

-- All records: the fresh net.
pub begun_all : (tb : Table) → image_bytes (begun tb tb.records) ≡ image_bytes (fresh tb)
unfolding begun fresh total
begun_all tb = refl

-- A record that declares no place changes nothing.
pub begun_other : (tb : Table) (r : ℕ) → (tb.kind r ≡ 1 → ⊥)
    → image_bytes (begun tb r) ≡ image_bytes (begun tb (suc r))
unfolding begun sum
begun_other tb r e =
    ap (λ (f : ℕ → ℕ). image_bytes (record { tokens = f; counter = λ t. 0; order = λ t. false }))
    (fun_ext (λ p. rw (ne_eqb (tb.kind r) 1 e) (omega arith)))

-- First tokens fit two bytes.
few_tokens : {o t s f x : ℕ} → Shown 1 o t s f x → f ≤ 65535
few_tokens (Shown.place a b) = b

-- A record that declares a place stores its first tokens.
pub begun_place : (tb : Table) → SoundTable tb → (r : ℕ) → r < tb.records → tb.kind r ≡ 1
    → tokens_put tb r (image_bytes (begun tb r)) ≡ image_bytes (begun tb (suc r))
unfolding begun sum
begun_place tb sound r h k =
    store_place (begun tb r) (begun tb (suc r)) (tb.one r) (tb.four r)
    (omega (arith, (shown_place (of_kind tb r 1 (sound.shown r h) k)).0))
    (rw (eq-eqb (tb.kind r) 1 k, eq-eqb (tb.one r) (tb.one r) refl, earlier) (omega arith))
    (few_tokens (of_kind tb r 1 (sound.shown r h) k))
    (λ q apart. rw (eq-eqb (tb.kind r) 1 k, ne_eqb (tb.one r) q (λ e. apart (sym e))) (omega arith))
    (λ t. refl)
    (λ t. refl)
  where
    -- no earlier record declares the place
    not_yet : (b : Bool) (w : ℕ) → (b ≡ true → ⊥) → cond b w 0 ≡ 0
    not_yet true w f = absurd (f refl)
    not_yet false w f = refl

    earlier : sum r (λ j. cond (is tb 1 j && eqb (tb.one j) (tb.one r)) (tb.four j) 0) ≡ 0
    earlier =
        sum_zero r _
        (λ j l.
        not_yet (is tb 1 j && eqb (tb.one j) (tb.one r)) (tb.four j)
        (λ e.
        let same : j ≡ r =
        place_once tb sound j r (omega arith) h (eqb-true (tb.kind j) 1 (and_left (is tb 1 j) _ e)) k
        (eqb-true (tb.one j) (tb.one r) (and_right (is tb 1 j) _ e)) in
        omega arith))
