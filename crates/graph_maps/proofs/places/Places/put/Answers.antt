use Rattle.std.proofs.Common.{◌≡◌, [], ◌∷◌, ◌++◌, Some, sym, ap, ◌∙◌, subst}
use Rattle.std.specs.Option.{option_flatten}
use Rattle.std.specs.List.{AllByRecursion}
use Rattle.std.specs.Map.{keys_of}
use Rattle.graph_maps.specs.Places.{kept, led_back, AreSound}
use Rattle.graph_maps.proofs.MapLemmas.{all_with}
use Rattle.graph_maps.proofs.PlacesLemmas.{Changes, changes_with, now_put, step}
use Rattle.graph_maps.proofs.places.Places.put.Given.{Over}
use Rattle.graph_maps.proofs.places.Places.put.Goals as goal

change : (g : Over) (c : goal.After-push_reserved g) → Changes g.K.Ord.cmp c.args.key (Some c.args.value) c.self.inside.map.entries c.insert.new.self.entries
change g c =
    subst (λ new. Changes g.K.Ord.cmp c.args.key (Some c.args.value) c.self.inside.map.entries new) (sym c.in-Ok.ensures.entries)
    (changes_with g.K.Ord.cmp g.met.K.Ord.total g.met.K.ExactOrd.exact c.args.key (Some c.args.value) c.self.inside.map.entries c.self.invariant.ordered)

keys : (g : Over) (c : goal.After-push_reserved g) → AllByRecursion g.K.ExactOrd.IsSound (keys_of c.insert.new.self.entries)
keys g c =
    subst (λ new. AllByRecursion g.K.ExactOrd.IsSound (keys_of new)) (sym c.in-Ok.ensures.entries)
    (all_with g.K.Ord.cmp g.met.K.Ord.total g.met.K.ExactOrd.exact g.K.ExactOrd.IsSound c.args.key (Some c.args.value) c.self.inside.map.entries c.sound.ensures c.self.invariant.sound)

stepped : (g : Over) (c : goal.After-push_reserved g)
    → AreSound g.K.Ord.cmp g.K.ExactOrd.IsSound c.push_reserved.new.self.items c.insert.new.self.entries
    × (kept (led_back g.K.Ord.cmp c.push_reserved.new.self.items c.insert.new.self.entries) ≡ kept (led_back g.K.Ord.cmp c.self.inside.trail.items c.self.inside.map.entries))
stepped g c =
    step g.K.Ord.cmp g.met.K.Ord.total g.met.K.ExactOrd.exact g.K.ExactOrd.IsSound c.self.inside.trail.items c.self.inside.map.entries c.push_reserved.new.self.items c.insert.new.self.entries
    c.args.key c.args.again (Some c.args.value) c.flatten.result c.self.invariant (change g c) (keys g c)
    (c.push_reserved.ensures.items ∙ ap (λ t. t ++ (c.args.again, c.flatten.result) ∷ []) c.in_ok-reserve.ensures.items)
    c.requires (c.flatten.ensures ∙ ap option_flatten c.in-Ok.ensures.old)

pub invariant_of-self-in-Ok : goal.invariant_of-self-in-Ok
invariant_of-self-in-Ok g c = (stepped g c).0

pub returns-in-Ok-clause-ok : goal.returns-in-Ok-clause-ok
returns-in-Ok-clause-ok g c =
    rw (← c.self.view_is)
    (now_put g.K.Ord.cmp g.met.K.Ord.total g.met.K.ExactOrd.exact c.self.inside.map.entries c.insert.new.self.entries c.args.key c.args.value c.self.invariant.ordered (change g c))

pub returns-in-Ok-clause-was : goal.returns-in-Ok-clause-was
returns-in-Ok-clause-was g c = rw (← c.self.view_is) (stepped g c).1
