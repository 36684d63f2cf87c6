-- Document 01, "When a table is well defined": the priority relation, the transitive closure of the kind 5
-- records.
use Rattle.std.specs.Prelude.{Bool, false, cond, ◌&&◌, ◌||◌, ℕ, zero, suc, eqb}
use Rattle.meaning.specs.Table.{Table, is}

-- Transition u stands above t by the pairs of the first n records. One more pair, x over y, brings x and all
-- above x over y and all below y.
unfoldable pub through : Table → ℕ → ℕ → ℕ → Bool
through tb zero u t = false
through tb (suc r) u t =
    let before = through tb r u t in
    let down = eqb t (tb.two r) || through tb r (tb.two r) t in
    let new = (eqb u (tb.one r) || through tb r u (tb.one r)) && down in
    let more = before || new in
    cond (is tb 5 r) more before

-- u stands above t in the closed priority.
unfoldable pub above : Table → ℕ → ℕ → Bool
above tb u t = through tb tb.records u t
