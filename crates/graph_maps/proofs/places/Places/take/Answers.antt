use Rattle.std.proofs.Common.{◌≡◌, [], ◌∷◌, ◌++◌, None, is_some, sym, refl, ap, ◌∙◌, subst}
use Rattle.std.specs.Option.{option_flatten}
use Rattle.std.specs.BTreeMap.{is_at}
use Rattle.std.specs.List.{AllByRecursion}
use Rattle.std.specs.Map.{keys_of}
use Rattle.std.proofs.lemmas.Map.{keys-set_value}
use Rattle.graph_maps.specs.Places.{kept, led_back, AreSound, set_at}
use Rattle.graph_maps.proofs.PlacesLemmas.{Changes, changes_set, now_taken, kept_without, step}
use Rattle.graph_maps.proofs.places.Places.take.Given.{Over}
use Rattle.graph_maps.proofs.places.Places.take.Goals as goal

pub returns-in_default-clause-ok : goal.returns-in_default-clause-ok
returns-in_default-clause-ok g c =
    rw (← c.self.view_is)
    (ap (λ m. kept m.entries) c.get_mut.follows.holds-at-none
    ∙ kept_without g.K.Ord.cmp g.met.K.Ord.total g.met.K.ExactOrd.exact c.args.key c.self.inside.map.entries c.self.invariant.ordered (sym c.in_default.ensures.value))

place : (g : Over) (c : goal.After-push_reserved g) → (c.get_mut.follows.lender c.take-old.new.self).entries ≡ set_at g.K.Ord.cmp c.args.key None c.self.inside.map.entries
place g c = (c.get_mut.follows.holds c.take-old.new.self).0 ∙ ap (λ w. set_at g.K.Ord.cmp c.args.key w c.self.inside.map.entries) c.take-old.ensures.after

keys : (g : Over) (c : goal.After-push_reserved g) → AllByRecursion g.K.ExactOrd.IsSound (keys_of (c.get_mut.follows.lender c.take-old.new.self).entries)
keys g c =
    subst (AllByRecursion g.K.ExactOrd.IsSound) (sym (ap keys_of (place g c) ∙ keys-set_value (is_at (g.K.Ord.cmp c.args.key)) c.self.inside.map.entries None)) c.self.invariant.sound

change : (g : Over) (c : goal.After-push_reserved g) → Changes g.K.Ord.cmp c.args.key None c.self.inside.map.entries (c.get_mut.follows.lender c.take-old.new.self).entries
change g c =
    subst (λ new. Changes g.K.Ord.cmp c.args.key None c.self.inside.map.entries new)
    (sym (place g c))
    (changes_set g.K.Ord.cmp g.met.K.Ord.total g.met.K.ExactOrd.exact c.args.key None c.self.inside.map.entries c.self.invariant.ordered (ap is_some (sym c.in-Some.ensures.value)))

stepped : (g : Over) (c : goal.After-push_reserved g)
    → AreSound g.K.Ord.cmp g.K.ExactOrd.IsSound c.push_reserved.new.self.items (c.get_mut.follows.lender c.take-old.new.self).entries
    × (kept (led_back g.K.Ord.cmp c.push_reserved.new.self.items (c.get_mut.follows.lender c.take-old.new.self).entries) ≡ kept (led_back g.K.Ord.cmp c.self.inside.trail.items c.self.inside.map.entries))
stepped g c =
    step g.K.Ord.cmp g.met.K.Ord.total g.met.K.ExactOrd.exact g.K.ExactOrd.IsSound c.self.inside.trail.items c.self.inside.map.entries c.push_reserved.new.self.items (c.get_mut.follows.lender c.take-old.new.self).entries
    c.args.key c.args.key None c.take-old.result c.self.invariant (change g c) (keys g c)
    (c.push_reserved.ensures.items ∙ ap (λ t. t ++ (c.args.key, c.take-old.result) ∷ []) c.in_ok-reserve.ensures.items)
    refl (c.take-old.ensures.value ∙ ap option_flatten c.in-Some.ensures.value)

pub invariant_of-self-2 : goal.invariant_of-self-2
invariant_of-self-2 g c = (stepped g c).0

pub returns-clause-ok : goal.returns-clause-ok
returns-clause-ok g c =
    rw (← c.self.view_is)
    (now_taken g.K.Ord.cmp g.met.K.Ord.total g.met.K.ExactOrd.exact c.self.inside.map.entries (c.get_mut.follows.lender c.take-old.new.self).entries c.args.key c.self.invariant.ordered (change g c))

pub returns-clause-was : goal.returns-clause-was
returns-clause-was g c = rw (← c.self.view_is) (stepped g c).1
