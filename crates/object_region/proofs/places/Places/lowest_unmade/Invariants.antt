use Rattle.object_region.proofs.Words.{◌≡◌, ◌-◌, heap_items, heap_capacity, REGION_LIMIT, IsKept}
use Rattle.object_region.proofs.places.Places.lowest_unmade.Given as goal

abbrev pub invariant-loop-self : goal.invariant-loop-self
invariant-loop-self l = record {
  node : l.self-inside.node ≡ l.initial.self-inside.node;
  nodes : l.self-inside.nodes ≡ l.initial.self-inside.nodes;
  made : l.self-inside.regions.entries ≡ l.initial.self-inside.regions.entries;
  kept : IsKept l.self-inside.node l.self-inside.nodes l.self-inside.next l.self-inside.regions.entries (heap_items l.self-inside.open_regions) (heap_capacity l.self-inside.open_regions);
}

abbrev pub decreases-loop-self : goal.decreases-loop-self
decreases-loop-self l = REGION_LIMIT - l.self-inside.next
