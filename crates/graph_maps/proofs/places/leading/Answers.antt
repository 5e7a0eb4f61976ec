use Rattle.std.proofs.Common.{[], ◌∷◌, sym, ap}
use Rattle.graph_maps.specs.Places.{filled, kept}
use Rattle.graph_maps.proofs.PartLemmas.{front_is, walked_one, walked_none}
use Rattle.graph_maps.proofs.places.leading.Goals as goal

pub loop-key-preserved-in-Some-place : goal.loop-key-preserved-in-Some-place
loop-key-preserved-in-Some-place g c =
    walked_one (λ e. (e.0.now, e.1.now)) filled _ (c.in-Some.key.now, c.in-Some.place.now) _ _ c.push_reserved.ensures.items c.in_ok-reserve.ensures.items
    (ap (λ w. kept ((c.in-Some.key.now, w) ∷ [])) (sym c.in-Some-place.is))
    (front_is (g.P.Part.has c.args.part.now) (c.in-Some.key.now, c.in-Some.place.now) c.loop-key.places c.next.new.self c.in-Some.ensures.steps (sym c.if-not-has.ensures)) c.loop-key.invariant

pub loop-key-preserved : goal.loop-key-preserved
loop-key-preserved g c =
    walked_none (λ e. (e.0.now, e.1.now)) filled _ c.loop-key.rows.items (c.in-Some.key.now, c.in-Some.place.now) _ _ (ap (λ w. kept ((c.in-Some.key.now, w) ∷ [])) (sym c.in_default-place.is))
    (front_is (g.P.Part.has c.args.part.now) (c.in-Some.key.now, c.in-Some.place.now) c.loop-key.places c.next.new.self c.in-Some.ensures.steps (sym c.if-not-has.ensures)) c.loop-key.invariant
