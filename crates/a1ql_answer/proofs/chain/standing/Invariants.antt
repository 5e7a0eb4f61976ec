use Rattle.std.proofs.Common.{◌≡◌, ◌++◌, map, filter, drop}
use Rattle.std.specs.Map.Iter.{deref_pair}
use Rattle.a1ql_plan.specs.Answer.{says}
use Rattle.a1ql_answer.proofs.chain.standing.Given as goal

abbrev pub invariant-loop-vertex : goal.invariant-loop-vertex
invariant-loop-vertex g l =
    map deref_pair l.set.items
    ++ filter ((says l.plan).stands (g.V.View.graph l.view)) (map deref_pair (drop l.vertex-index l.vertices))
    ≡ filter ((says l.plan).stands (g.V.View.graph l.view)) (map deref_pair l.vertices)
