use Rattle.std.proofs.Common.{◌≡◌, map}
use Rattle.type_schema.specs.Rows.{gone_at}
use Rattle.graph_plain.proofs.changing.all_gone.Given as goal

abbrev pub invariant-loop-key : goal.invariant-loop-key
invariant-loop-key l = l.rows.items ≡ map gone_at l.yielded
