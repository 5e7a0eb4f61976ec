use Rattle.std.proofs.Common.{◌≡◌, ◌++◌, map, drop}
use Rattle.graph_plain.proofs.RowLemmas.{of_graphs}
use Rattle.graph_plain.proofs.rows.push_graphs.Given as goal

abbrev pub invariant-loop-name : goal.invariant-loop-name
invariant-loop-name l =
    l.rows.items ++ of_graphs (map (λ e. (e.0.now, e.1.now)) (drop l.name-index l.name-items))
    ≡ l.fn.rows.items ++ of_graphs l.draft.graphs.now
