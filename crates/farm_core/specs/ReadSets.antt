-- The read set that the fields stand for.
use Rattle.std.specs.Prelude.{Bool, ◌==◌}
use Rattle.std.specs.BTreeSet.{btree_set_len}
use Rattle.farm_core.specs.declared.reads.ReadMarks.{ReadMarks}
use Rattle.farm_core.specs.ReadSet.{ReadSet, marks}

abbrev pub read_set : ReadMarks → ReadSet
read_set r = record { read = marks r.read; unchecked = marks r.unchecked }

-- each address that was read was locked or found the same
abbrev pub all_checked : ReadMarks → Bool
all_checked r = btree_set_len r.unchecked == 0
