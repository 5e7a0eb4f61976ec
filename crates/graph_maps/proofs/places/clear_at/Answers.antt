use Rattle.std.proofs.Common.{sym, ap, ◌∙◌, subst, Some}
use Rattle.std.specs.List.{AllByRecursion}
use Rattle.std.specs.Map.{keys_of}
use Rattle.graph_maps.specs.Places.{kept}
use Rattle.graph_maps.proofs.PlacesLemmas.{kept_less, all_less}
use Rattle.graph_maps.proofs.places.clear_at.Goals as goal

pub returns-in-Some-None-clause-same : goal.returns-in-Some-None-clause-same
returns-in-Some-None-clause-same g c =
    ap kept c.remove.ensures.entries
    ∙ kept_less g.K.Ord.cmp c.args.key.now c.args.map.now.entries (sym c.in-Some-None.ensures.value ∙ ap Some c.in-Some-None.field-0-is)

pub returns-in-Some-None-clause-sound : goal.returns-in-Some-None-clause-sound
returns-in-Some-None-clause-sound g c all =
    subst (λ es. AllByRecursion g.K.ExactOrd.IsSound (keys_of es)) (sym c.remove.ensures.entries)
    (all_less g.K.Ord.cmp g.K.ExactOrd.IsSound c.args.key.now c.args.map.now.entries all)
