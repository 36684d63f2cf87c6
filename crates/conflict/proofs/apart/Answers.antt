-- `apart` asks the places one after the other, until one tells the two apart.
use mathlib.Core.Bool.{Bool, true, false}
use mathlib.Core.Path.{◌≡◌, refl, sym}
use Prim.Native.Nat.{ℕ, ◌<◌}
use native.Mathlib.Nat.{zero-add}
use native.Mathlib.Omega.{arith}
use lib.ListN.{length}
use Rattle.std.proofs.Common.{rules}
use Rattle.std.specs.List.{range_with_len, AllWithin, HoldsAt}
use Rattle.std.specs.Bool.{MatchBool}
use Rattle.std.proofs.lemmas.Iterator.{YieldsList-from_range, cases_from_any}
use Rattle.std.proofs.lemmas.List.FromFn.{length-range_with_len, get_or-range_with_len}
use Rattle.meaning.specs.Below.{some}
use Rattle.meaning.proofs.Below.{some_intro, none_intro}
use Rattle.conflict.specs.Settled.{apart_in}
use Rattle.conflict.proofs.apart.Goals as goal

-- What is asked of the numbers below n, one after the other, is whether one of them passes.
asked : (n : ℕ) (p : ℕ → Bool) (r : Bool)
    → MatchBool r
    ((k : ℕ) × (k < length (range_with_len 0 n)) × HoldsAt (λ x. p x ≡ true) (range_with_len 0 n) k)
    (AllWithin (λ x. p x ≡ false) (range_with_len 0 n) 0 (length (range_with_len 0 n)))
    → r ≡ some n p
asked n p true w =
    let low : w.0 < n = rw length-range_with_len at w.1 in
    sym (some_intro n p w.0 low (rw (get_or-range_with_len 0 n w.0 0 low, zero-add w.0) at (w.2 0)))
asked n p false f =
    sym
    (none_intro n p
    (λ k h. rw (get_or-range_with_len 0 n k 0 h, zero-add k) at (f k 0 (omega arith) (rw length-range_with_len h))))

pub returns : goal.returns
returns c =
    let a = c.args in
    let p : ℕ → Bool = apart_in a.rows.now a.w.now a.s.now a.i a.j in
    asked a.n p _
    (cases_from_any _ _ _ (λ x. p x ≡ true) (λ x. p x ≡ false) c.any.ensures.ran
    (YieldsList-from_range 0 a.n a.n refl (omega arith))
    (λ x q k. search rules)
    (λ x q k. (search rules, search rules)))
