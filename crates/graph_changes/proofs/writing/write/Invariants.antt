use Rattle.std.proofs.Common.{◌≡◌, take}
use Rattle.std.specs.List.{flat_map}
use Rattle.type_schema.specs.Layout.{change_bytes}
use Rattle.graph_changes.proofs.writing.write.Given as goal

abbrev pub invariant-loop-change : goal.invariant-loop-change
invariant-loop-change l = l.out ≡ flat_map change_bytes (take l.change-index l.changes)
