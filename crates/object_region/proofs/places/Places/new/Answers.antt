use Rattle.object_region.proofs.Kept.{kept_first}
use Rattle.object_region.proofs.places.Places.new.Goals as goal

pub invariant_of-result : goal.invariant_of-result
invariant_of-result c = kept_first _ _ _ _ _ c.requires.node c.requires.nodes c.new.ensures.empty c.new-2.ensures.items c.new-2.ensures.heap_order
