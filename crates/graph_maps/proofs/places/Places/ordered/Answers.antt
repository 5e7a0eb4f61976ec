use Rattle.graph_maps.proofs.PlacesLemmas.{ordered_kept}
use Rattle.graph_maps.proofs.places.Places.ordered.Goals as goal

pub returns : goal.returns
returns g c = rw (← c.self.view_is) (ordered_kept g.K.Ord.cmp c.self.inside.map.entries c.self.invariant.ordered)
