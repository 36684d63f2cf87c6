-- A set with y alone meets the row exactly if y is in it.
use mathlib.Core.Bool.{◌&&◌}
use mathlib.Core.Path.{◌≡◌, refl, sym, ◌∙◌}
use Prim.Native.Nat.{ℕ, ◌<◌}
use lib.Dec.{eqb}
use native.Mathlib.Omega.{arith}
use Rattle.std.proofs.lemmas.Grind.{common_steps}
use Rattle.meaning.specs.Below.{some}
use Rattle.meaning.specs.Bytes.{bit}
use Rattle.meaning.proofs.Bool.{same_test}
use Rattle.meaning.proofs.Below.{some_intro, some_elim}
use Rattle.scan.proofs.enter.Goals as goal

-- Whoever is alone in a set meets a row exactly if the row has it.
met : (line alone y : ℕ) → y < 64 → ((j : ℕ) → bit alone j ≡ eqb y j)
    → some 64 (λ k. bit line k && bit alone k) ≡ bit line y
met line alone y low is =
    same_test (some 64 (λ k. bit line k && bit alone k)) (bit line y)
    (λ e.
    let w = some_elim 64 (λ k. bit line k && bit alone k) e in
    let there = is w.0 in
    grind (arith, common_steps))
    (λ e. some_intro 64 (λ k. bit line k && bit alone k) y low (let there = is y in grind (arith, common_steps)))

-- What meeting says of the bit.
pub returns-then-meet : goal.returns-then-meet
returns-then-meet c =
    let bit_there =
    c.meet.ensures ∙ met _ c.single-alone.result _ c.requires.1 c.single-alone.ensures in
    record {
      value = sym c.if-meet.true ∙ bit_there;
      entered = record { size = refl; holds = λ k j. grind (arith, common_steps) };
    }

pub returns-clause-value : goal.returns-clause-value
returns-clause-value c =
    sym c.if-meet.false ∙ c.meet.ensures
    ∙ met _ c.single-alone.result _ c.requires.1 c.single-alone.ensures
