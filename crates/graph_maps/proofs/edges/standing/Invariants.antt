use Rattle.std.proofs.Common.{◌≡◌, ◌++◌, map, drop}
use Rattle.graph_maps.specs.Halves.{seen_edges}
use Rattle.graph_maps.proofs.edges.standing.Given as goal

abbrev pub invariant-loop-half : goal.invariant-loop-half
invariant-loop-half g l =
    map (λ e. (e.0.now, e.1.now)) l.rows.items ++ seen_edges l.named.now (map (λ e. (e.0.now, e.1.now)) (drop l.half-index l.half-items))
    ≡ seen_edges l.named.now (map (λ e. (e.0.now, e.1.now)) l.half-items)
