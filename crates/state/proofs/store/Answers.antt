-- Storing a number and two bytes of 0 makes one record.
use mathlib.Core.List.{List}
use mathlib.Core.Path.{subst, sym}
use Prim.Native.Nat.{ℕ, ◌+◌, ◌*◌}
use lib.ListN.{set}
use Rattle.state.specs.Stored.{Stored}
use Rattle.state.proofs.Write.{stored_is, two_of}
use Rattle.state.proofs.store.Goals as goal

pub returns : goal.returns
returns c =
    let s = c in
    let k = s.args.k in
    subst (λ (l : List ℕ). Stored s.args.image.now k s.args.x (set (set l (4 * k + 2) 0) (4 * k + 3) 0))
    (sym c.put_two.ensures)
    (stored_is _ _ _ _ _ _ s.requires.0 s.requires.1 _ (two_of _ s.requires.2))
