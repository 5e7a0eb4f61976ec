use Rattle.farm_node.proofs.Common.{◌≡◌, ◌+◌, ◌^◌, ◌<◌, values, counted}
use Rattle.farm_node.proofs.Counts.{lengths}
use Rattle.farm_node.proofs.node.Node.counts.Given as goal

abbrev pub invariant-loop-object : goal.invariant-loop-object
invariant-loop-object l = record {
  so : counted (l.versions + lengths l.object-iterator) ≡ counted (lengths (values l.self.objects));
  small : l.versions < 2 ^ 64;
}
