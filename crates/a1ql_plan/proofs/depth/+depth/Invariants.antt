use Rattle.std.proofs.Common.{◌≡◌, nat_le, map, drop}
use Rattle.a1ql_plan.specs.Depth.{hop_depth, deepest}
use Rattle.a1ql_plan.proofs.depth.+depth.Given as goal

abbrev pub invariant-are_within-loop-hop : goal.invariant-are_within-loop-hop
invariant-are_within-loop-hop l = nat_le (deepest (map hop_depth (drop l.hop-index l.hops))) l.left ≡ nat_le (deepest (map hop_depth l.hops)) l.left
