use Rattle.std.proofs.Common.{◌≡◌, ◌++◌, map}
use Rattle.std.specs.Map.Iter.{deref_pair}
use Rattle.a1ql_answer.specs.Steps.{found}
use Rattle.a1ql_answer.proofs.chain.there.Given as goal

abbrev pub invariant-loop-name : goal.invariant-loop-name
invariant-loop-name g l =
    map deref_pair l.set.items ++ found (g.V.View.graph l.view) l.name-iterator
    ≡ found (g.V.View.graph l.view) l.names.keys
