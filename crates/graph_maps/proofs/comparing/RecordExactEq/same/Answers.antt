use Rattle.std.proofs.Common.{rules}
use Rattle.std.proofs.lemmas.Slice.Eq.{slice_eq-Decides}
use Rattle.graph_maps.proofs.ComparingLemmas.{values_told}
use Rattle.graph_maps.proofs.comparing.RecordExactEq.same.Goals as goal

pub returns : goal.returns
returns c = slice_eq-Decides values_told c.args.self.now c.args.other.now c.eq.result (search rules)
