use Rattle.std.proofs.Common.{◌∙◌}
use Rattle.std.specs.BTreeMap.{IsFromIterResult}
use Rattle.std.proofs.lemmas.Iterator.Adapters.{fact_from_collect, YieldsList-from_vec}
use Rattle.object_view.specs.Agreement.{addr_order}
use Rattle.object_view.proofs.mem_view.mapped.Goals as goal

pub returns : goal.returns
returns c =
    fact_from_collect (IsFromIterResult addr_order) c.collect.result c.collect.ensures.ran
    (YieldsList-from_vec c.args.objects.items c.into_iter.ensures.rest (c.into_iter.ensures.len ∙ c.args.objects.ok.0))
