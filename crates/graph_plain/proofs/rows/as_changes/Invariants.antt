use Rattle.std.proofs.Common.{◌≡◌, map}
use Rattle.type_schema.specs.Rows.{put_at}
use Rattle.graph_plain.proofs.rows.as_changes.Given as goal

abbrev pub invariant-loop-key : goal.invariant-loop-key
invariant-loop-key l = l.rows.items ≡ map (λ r. put_at r.0 r.1) l.yielded
