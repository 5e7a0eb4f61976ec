use Rattle.std.proofs.Common.{◌≡◌, map, drop}
use Rattle.std.specs.List.{list_any, list_all}
use Rattle.std.specs.Map.Iter.{deref_pair}
use Rattle.a1ql_plan.specs.Answer.{hop_says}
use Rattle.a1ql_answer.specs.Steps.{joins}
use Rattle.a1ql_answer.proofs.matching.+matching.Given as goal

abbrev pub invariant-are_met-loop-hop : goal.invariant-are_met-loop-hop
invariant-are_met-loop-hop g l =
    list_all (λ h. h.is_met (g.V.View.graph l.view) l.vertex) (map hop_says (drop l.hop-index l.hops))
    ≡ list_all (λ h. h.is_met (g.V.View.graph l.view) l.vertex) (map hop_says l.hops)

abbrev pub invariant-is_hop_met-loop-edge : goal.invariant-is_hop_met-loop-edge
invariant-is_hop_met-loop-edge g l =
    list_any (joins (g.V.View.graph l.view) l.hop) (map deref_pair (drop l.edge-index l.edge-items))
    ≡ (hop_says l.hop).is_met (g.V.View.graph l.view) l.vertex
