use Rattle.std.proofs.Common.{◌≡◌, ◌++◌, map, drop}
use Rattle.std.specs.Map.{keys_of}
use Rattle.graph_plain.proofs.finding.edges_in.Given as goal

abbrev pub invariant-loop-name : goal.invariant-loop-name
invariant-loop-name l =
    l.names.items ++ keys_of (map (λ e. (e.0.now, e.1.now)) (drop l.name-index l.name-items)) ≡ keys_of (map (λ e. (e.0.now, e.1.now)) l.name-items)
