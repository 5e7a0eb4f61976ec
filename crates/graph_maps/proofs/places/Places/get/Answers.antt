use Rattle.std.proofs.Common.{sym, ap, ◌∙◌}
use Rattle.std.specs.Option.{option_flatten}
use Rattle.graph_maps.proofs.PlacesLemmas.{at_kept}
use Rattle.graph_maps.proofs.places.Places.get.Goals as goal

pub returns-in-Some : goal.returns-in-Some
returns-in-Some g c =
    rw (← c.self.view_is)
    (c.as_ref.ensures.value ∙ sym (at_kept g.K.Ord.cmp g.met.K.Ord.total g.met.K.ExactOrd.exact c.args.key.now c.self.inside.map.entries c.self.invariant.ordered ∙ ap option_flatten (sym c.in-Some.ensures.value)))

pub returns-in-None : goal.returns-in-None
returns-in-None g c =
    rw (← c.self.view_is)
    (sym (at_kept g.K.Ord.cmp g.met.K.Ord.total g.met.K.ExactOrd.exact c.args.key.now c.self.inside.map.entries c.self.invariant.ordered ∙ ap option_flatten (sym c.in-None.ensures.value)))
