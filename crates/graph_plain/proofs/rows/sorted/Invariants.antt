use Rattle.std.proofs.Common.{◌≡◌, vec_len}
use Rattle.type_schema.specs.Rows.{sorted_rows}
use Rattle.graph_plain.proofs.RowLemmas.{sorted_among}
use Rattle.graph_plain.proofs.rows.sorted.Given as goal

abbrev pub invariant-loop-key : goal.invariant-loop-key
invariant-loop-key l = sorted_among l.found.entries l.rows.items ≡ sorted_rows l.fn.rows.items

abbrev pub decreases-loop-key : goal.decreases-loop-key
decreases-loop-key l = vec_len l.rows
