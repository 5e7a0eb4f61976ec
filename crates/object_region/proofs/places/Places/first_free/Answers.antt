use Rattle.object_region.proofs.Words.{◌≡◌, sym, ap, ◌∙◌, Some, option_copied_mut, set_value_same, Made, Regions, made_at}
use Rattle.object_region.proofs.places.Places.first_free.Goals as goal

pub returns-clause-same : goal.returns-clause-same
returns-clause-same c =
    let p = c.self.inside in
    let old : Made = c.unwrap.result.now in
    let new : Made = record { region = c.first_free.new.self; listed = old.listed } in
    let same : old ≡ new = ap (λ flags. let m : Made = record { region = flags; listed = old.listed } in m) (sym c.first_free.ensures.same) in
    let there : made_at p.regions.entries c.args.region ≡ Some new = sym c.get_mut.ensures.value ∙ (ap option_copied_mut c.unwrap.ensures ∙ ap Some same) in
    ap (λ es. let r : Regions = record { node = p.node; nodes = p.nodes; made = es } in r) ((c.get_mut.follows.holds new).0 ∙ set_value_same _ p.regions.entries new there)
    ∙ c.self.view_is
