-- Each kind of record is kept by its own leaf; what it files is added, and whether an earlier one said the same is
-- what its row or the declared ones tell.
use mathlib.Core.Bool.{Bool, true, false, not}
use mathlib.Core.List.{List}
use mathlib.Core.Path.{◌≡◌, refl, sym, ap, ◌∙◌}
use Prim.Native.Nat.{ℕ, ◌<◌}
use native.Mathlib.Omega.{arith}
use lib.Dec.{eqb}
use lib.ListN.{length}
use borrow.Author.Tests.{ne_eqb}
use Rattle.std.proofs.Common.{Option}
use Rattle.std.specs.Bool.{then_some}
use Rattle.records.specs.declared.Rec.{Rec}
use Rattle.records.specs.declared.kind.Kind.{Kind}
use Rattle.records.specs.Kinds.{kind_number}
use Rattle.records.specs.Record.{fault_of}
use Rattle.rows.specs.declared.Declared.{Declared}
use Rattle.scan.specs.Scan.{own_row, again_by, Kept, SameRoom, Adds, Keeps}
use Rattle.scan.proofs.Filing.{paired_next}
use Rattle.scan.proofs.Sound.{one_there, two_there, sort_there}
use Rattle.scan.proofs.Keeping.{files_input, files_post, files_row, files_place, files_transition, in_no_row}
use Rattle.scan.proofs.Keeping.{priority_row, action_row, function_row}
use Rattle.scan.proofs.keep.Goals as goal

-- There is as much room as before where the rows alone are written.
rows_alone : {rows rows' : List ℕ} {w s : List (List ℕ)} {heads posts times : List ℕ} → length rows' ≡ length rows
    → SameRoom rows w s heads posts times rows' w s heads posts times
rows_alone same =
    record {
      rows_same = same;
      weights_same = refl;
      sorts_same = refl;
      heads_same = refl;
      posts_same = refl;
      times_same = refl;
    }

-- None is told where an earlier record said the same; else what is declared after it.
module _ {x : Rec} {r : ℕ} {known after : Declared} {rows : List ℕ} {w s : List (List ℕ)} {heads posts times : List ℕ}
    {rows' : List ℕ} {w' s' : List (List ℕ)} {heads' posts' times' : List ℕ} where
  told : (b : Bool) {k : Option Declared} → k ≡ then_some (not b) after → b ≡ again_by x known rows
      → SameRoom rows w s heads posts times rows' w' s' heads' posts' times'
      → (b ≡ false → Adds x r known after rows w s heads posts times rows' w' s' heads' posts' times')
      → Keeps x r known k rows w s heads posts times rows' w' s' heads' posts' times'
  told true e again same adds = record { told = rw e (sym again); room = same }
  told false e again same adds = record { told = rw e (sym again, adds refl); room = same }

-- A record of the kind that is matched has its number.
number_is : {k v : Kind} {n : ℕ} → kind_number k ≡ n → k ≡ v → n ≡ kind_number v
number_is e f = sym e ∙ ap kind_number f

-- A record that stands in the rows alone is added there.
row_added : {x : Rec} {r : ℕ} {known : Declared} {rows rows' : List ℕ} {w s : List (List ℕ)}
    {heads posts times : List ℕ} (kind : ℕ) → x.kind ≡ kind
    → eqb kind 3 ≡ false → eqb kind 1 ≡ false → eqb kind 2 ≡ false → Kept x rows rows'
    → Adds x r known known rows w s heads posts times rows' w s heads posts times
row_added kind e arc place transition kept =
    record {
      filed = λ tb reads g. files_row reads g kind e arc place transition kept;
      paired = λ tb reads. paired_next reads kept;
    }

-- PLACES

pub returns-in-Place : goal.returns-in-Place
unfolding again_by
returns-in-Place c =
    let x = c.args.x in
    let kind : x.kind ≡ 1 = number_is c.requires.kind_is c.in-Place.is in
    let kept : Kept x c.args.rows.now c.args.rows.now = in_no_row x _ 1 kind refl refl refl refl refl in
    told c.has_place.result c.then_some.ensures (c.has_place.ensures ∙ rw (kind, c.from-p.ensures))
    (rows_alone refl)
    (λ e.
    record {
      filed =
          λ tb reads g. files_place reads g kind c.from-p.ensures
          c.with_place.ensures.0 c.with_place.ensures.1 kept;
      paired = λ tb reads. paired_next reads kept;
    })

-- TRANSITIONS

pub returns-in-Transition : goal.returns-in-Transition
unfolding again_by
returns-in-Transition c =
    let x = c.args.x in
    let kind : x.kind ≡ 2 = number_is c.requires.kind_is c.in-Transition.is in
    let kept : Kept x c.args.rows.now c.args.rows.now = in_no_row x _ 2 kind refl refl refl refl refl in
    told c.has.result c.then_some-in-Transition.ensures (c.has.ensures ∙ rw (kind, c.from-t.ensures))
    (record {
      rows_same = refl;
      weights_same = refl;
      sorts_same = refl;
      heads_same = refl;
      posts_same = refl;
      times_same = c.keep_times.ensures.size ∙ sym c.requires.keep_asks.times_size;
    })
    (λ e.
    record {
      filed = λ tb reads g.
          files_transition reads g kind c.from-t.ensures
          c.with_transition.ensures.0 c.with_transition.ensures.1 c.keep_times.ensures kept;
      paired = λ tb reads. paired_next reads kept;
    })

-- POST ARCS

pub returns-in-Arc : goal.returns-in-Arc
unfolding again_by own_row
returns-in-Arc c =
    let x = c.args.x in
    let asks = c.requires.keep_asks in
    let kind : x.kind ≡ 3 = number_is c.requires.kind_is c.in-Arc.is in
    let sort : x.sort ≡ 3 = c.if-x-eq3.true in
    let done = c.keep_post.ensures.post_kept in
    told c.keep_post.result c.then_some-in-Arc.ensures (c.keep_post.ensures.value ∙ rw (kind, sort))
    (record {
      rows_same = done.size;
      weights_same = refl;
      sorts_same = refl;
      heads_same = done.heads_size;
      posts_same = done.posts_size;
      times_same = refl;
    })
    (λ e.
    record {
      filed =
          λ tb reads g. files_post reads g kind sort (one_there x asks.sound) (two_there x asks.sound)
          asks.heads_size asks.posts_there (rw e at done);
      paired = λ tb reads. paired_next reads (done.kept e);
    })

-- INPUT ARCS

-- A sort that is not 3 is below 3.
below_three : (x : Rec) → fault_of x ≡ 0 → x.kind ≡ 3 → ¬ (x.sort ≡ 3) → x.sort < 3
below_three x sound kind n = omega (arith, sort_there x sound kind, n)

pub returns-in-Arc-2 : goal.returns-in-Arc-2
unfolding again_by own_row
returns-in-Arc-2 c =
    let x = c.args.x in
    let asks = c.requires.keep_asks in
    let kind : x.kind ≡ 3 = number_is c.requires.kind_is c.in-Arc-2.is in
    let other : ¬ (x.sort ≡ 3) = c.if-x-eq3.false in
    let done = c.keep_input.ensures.input_kept in
    told c.keep_input.result c.then_some-in-Arc-2.ensures
    (c.keep_input.ensures.value ∙ rw (kind, ne_eqb x.sort 3 other))
    (record {
      rows_same = done.size;
      weights_same = done.weights_size;
      sorts_same = done.sorts_size;
      heads_same = refl;
      posts_same = refl;
      times_same = refl;
    })
    (λ e.
    record {
      filed = λ tb reads g.
          files_input reads g kind (below_three x asks.sound kind other) asks.weights_there
          asks.sorts_there (two_there x asks.sound) (rw e at done);
      paired = λ tb reads. paired_next reads (done.kept e);
    })

-- CONDITIONS

pub returns-in-Condition : goal.returns-in-Condition
unfolding again_by own_row
returns-in-Condition c =
    let kind : c.args.x.kind ≡ 4 = number_is c.requires.kind_is c.in-Condition.is in
    let done = c.keep_condition.ensures.kept in
    told c.keep_condition.result c.then_some-in-Condition.ensures (c.keep_condition.ensures.value ∙ rw kind)
    (rows_alone done.1) (λ e. row_added 4 kind refl refl refl (done.0 e))

-- PRIORITIES

pub keep_alone-requires-clause-own : goal.keep_alone-requires-clause-own
keep_alone-requires-clause-own c = priority_row _ (number_is c.requires.kind_is c.in-Priority.is)

pub returns-in-Priority : goal.returns-in-Priority
unfolding again_by own_row
returns-in-Priority c =
    let kind : c.args.x.kind ≡ 5 = number_is c.requires.kind_is c.in-Priority.is in
    let done = c.keep_alone.ensures in
    told c.keep_alone.result c.then_some-in-Priority.ensures (done.value ∙ rw kind) (rows_alone done.kept.1)
    (λ e. row_added 5 kind refl refl refl done.kept.0)

-- ACTIONS

pub keep_alone-requires-in-Action-clause-own : goal.keep_alone-requires-in-Action-clause-own
keep_alone-requires-in-Action-clause-own c = action_row _ (number_is c.requires.kind_is c.in-Action.is)

pub returns-in-Action : goal.returns-in-Action
unfolding again_by own_row
returns-in-Action c =
    let kind : c.args.x.kind ≡ 6 = number_is c.requires.kind_is c.in-Action.is in
    let done = c.keep_alone-in-Action.ensures in
    told c.keep_alone-in-Action.result c.then_some-in-Action.ensures (done.value ∙ rw kind) (rows_alone done.kept.1)
    (λ e. row_added 6 kind refl refl refl done.kept.0)

-- FUNCTIONS

pub keep_alone-requires-in-Function-clause-own : goal.keep_alone-requires-in-Function-clause-own
keep_alone-requires-in-Function-clause-own c = function_row _ (number_is c.requires.kind_is c.in-Function.is)

pub returns-in-Function : goal.returns-in-Function
unfolding again_by own_row
returns-in-Function c =
    let kind : c.args.x.kind ≡ 7 = number_is c.requires.kind_is c.in-Function.is in
    let done = c.keep_alone-in-Function.ensures in
    told c.keep_alone-in-Function.result c.then_some-in-Function.ensures (done.value ∙ rw kind) (rows_alone done.kept.1)
    (λ e. row_added 7 kind refl refl refl done.kept.0)
