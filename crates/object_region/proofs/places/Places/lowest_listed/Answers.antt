use Rattle.object_region.proofs.Words.{◌<◌, length, sym, subst, heap_items, Regions, IsLowestListed}
use Rattle.std.proofs.Common.{ltb-true}
use Rattle.object_region.proofs.Kept.{top_is_lowest}
use Rattle.object_region.proofs.places.Places.lowest_listed.Goals as goal

pub returns-clause-lowest : goal.returns-clause-lowest
returns-clause-lowest c =
    let e = c.in_ok-lowest.ensures in
    let top = c.in_ok-lowest.lowest.now in
    let some : 0 < length (heap_items c.self.inside.open_regions) = ltb-true _ _ (sym e.item.0) in
    let lowest = top_is_lowest c.self.invariant top some e.lookup (e.greatest c.self.invariant.lowest_first) in
    subst (λ (r : Regions). IsLowestListed r top.0) c.self.view_is lowest
