use Rattle.std.proofs.Common.{sym, ap, ◌∙◌}
use Rattle.graph_maps.proofs.PlacesLemmas.{set_absent}
use Rattle.graph_maps.proofs.places.undo.Goals as goal

pub returns-in_default-clause-entries : goal.returns-in_default-clause-entries
returns-in_default-clause-entries g c =
    ap (λ m. m.entries) c.get_mut.follows.holds-at-none
    ∙ sym (set_absent g.K.Ord.cmp c.args.change.now.0 c.args.change.now.1 c.args.map.now.entries (sym c.in_default.ensures.value))
