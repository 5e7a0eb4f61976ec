use Rattle.std.proofs.Common.{[], ◌∷◌, sym, ap}
use Rattle.graph_maps.specs.Places.{kept}
use Rattle.graph_maps.proofs.PlacesLemmas.{shown_one, shown_none}
use Rattle.graph_maps.proofs.places.Places.entries.Goals as goal

pub loop-key-preserved-in-Some-place : goal.loop-key-preserved-in-Some-place
loop-key-preserved-in-Some-place g c =
    shown_one (λ e. (e.0.now, e.1.now)) (λ e. (e.0.now, e.1.now)) c.loop-key.yielded (c.in-Some.key, c.in-Some.place) c.push_reserved.ensures.items
    c.in_ok-reserve.ensures.items c.loop-key.invariant (ap (λ w. kept ((c.in-Some.key.now, w) ∷ [])) (sym c.in-Some-place.is))

pub loop-key-preserved : goal.loop-key-preserved
loop-key-preserved g c =
    shown_none (λ e. (e.0.now, e.1.now)) (λ e. (e.0.now, e.1.now)) c.loop-key.rows.items c.loop-key.yielded (c.in-Some.key, c.in-Some.place)
    c.loop-key.invariant (ap (λ w. kept ((c.in-Some.key.now, w) ∷ [])) (sym c.in_default.is))
