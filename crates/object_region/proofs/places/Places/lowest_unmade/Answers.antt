use Rattle.object_region.proofs.Words.{◌≡◌, ◌+◌, ◌*◌, arith, sym, subst, region_count, Regions, IsLowestUnmade}
use Rattle.object_region.proofs.Kept.{next_is_lowest}
use Rattle.object_region.proofs.places.Places.lowest_unmade.Goals as goal

pub returns-then-not-contains_key-clause-unmade : goal.returns-then-not-contains_key-clause-unmade
unfolding region_count
returns-then-not-contains_key-clause-unmade c =
    let p = c.loop-self.self-inside in
    let now : Regions = record { node = p.node; nodes = p.nodes; made = p.regions.entries } in
    let same : now ≡ c.args.self.now = cc in
    subst (λ (r : Regions). IsLowestUnmade r (p.node + p.next * p.nodes)) same
    (next_is_lowest c.loop-self.invariant.kept (omega arith) (sym c.if-not-contains_key.ensures))
