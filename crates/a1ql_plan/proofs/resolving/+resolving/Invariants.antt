use Rattle.std.proofs.Common.{◌≡◌, map, drop}
use Rattle.a1ql_plan.specs.Plan.{all_of, expand_of}
use Rattle.a1ql_plan.proofs.EachLemmas.{with_front}
use Rattle.a1ql_plan.proofs.resolving.+resolving.Given as goal

abbrev pub invariant-matches-loop-hop : goal.invariant-matches-loop-hop
invariant-matches-loop-hop g l = with_front l.expands (all_of (map (expand_of (g.T.Types.list l.types) l.graph) (drop l.hop-index l.hops))) ≡ all_of (map (expand_of (g.T.Types.list l.types) l.graph) l.hops)
