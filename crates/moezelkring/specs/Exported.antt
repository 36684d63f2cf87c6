-- What the exported structs say, in the words of the meaning.
use Rattle.std.specs.Prelude.{List, ◌≡◌, ℕ, length, take, drop}
use Rattle.meaning.specs.Answer as meaning
use Rattle.meaning.specs.Calls.{lookup, lookup_from}
use Rattle.moezelkring.specs.declared.Told.{Told}
use Rattle.moezelkring.specs.declared.Part.{Part}
use Rattle.moezelkring.specs.declared.Sum.{Sum}
use Rattle.moezelkring.specs.declared.Difference.{Difference}

-- The answer that C is told: number, where and cycles done.
abbrev pub told : Told → meaning.Answer
told a = record { number = a.number; at = a.at; cycles = a.cycles }

-- The answers of the calls that do no cycle.
abbrev pub counted : Sum → meaning.Answer
counted s = meaning.refused s.number s.at

abbrev pub changed : Difference → meaning.Answer
changed d = meaning.refused d.number d.at

-- The part that lookup hands back: where it begins in the report, how long it is, and that its bytes are lookup's.
pub record PartOf (report : List ℕ) (cycle : ℕ) (p : Part) : Type 0 where
  pub from_is : p.from ≡ lookup_from report cycle
  pub length_is : p.length ≡ length (lookup report cycle)
  pub bytes_are : take p.length (drop p.from report) ≡ lookup report cycle
