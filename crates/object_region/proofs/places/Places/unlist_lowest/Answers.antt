use Rattle.object_region.proofs.Words.{◌<◌, false, sym, ap, ◌∙◌, refl, subst, arith, heap_items, heap_capacity, Made, Regions, listed_in, listed_count, taken_in, IsFullAt, IsLowestListed}
use Rattle.object_region.proofs.Keys.{changed, fewer_listed}
use Rattle.object_region.proofs.Kept.{kept_struck, some_to_strike, full_here}
use Rattle.object_region.proofs.Taken.{unchanged}
use Rattle.object_region.proofs.places.Places.unlist_lowest.Goals as goal

pub invariant_of-self : goal.invariant_of-self
invariant_of-self c =
    let p = c.self.inside in
    let new : Made = record { region = c.unwrap-made.result.now.region; listed = false } in
    let change = changed p.regions (c.get_mut.follows.lender new) c.args.region new _ _
    c.get_mut.ensures.value c.unwrap-made.ensures (c.get_mut.follows.holds new) in
    let lowest = subst (λ (r : Regions). IsLowestListed r c.args.region) (sym c.self.view_is) c.requires.lowest in
    let full = subst (λ (r : Regions). IsFullAt r.made c.args.region) (sym c.self.view_is) c.requires.full in
    let popped = c.pop.ensures.variant.1 (omega (arith, some_to_strike c.self.invariant c.args.region lowest.listed, p.open_regions.data.ok.0)) in
    kept_struck c.self.invariant _ (heap_items c.pop.new.self) (heap_capacity c.pop.new.self) c.args.region new change.put lowest refl (full_here _ _ change.there full)
    c.pop.result popped c.pop.ensures.permutation c.pop.ensures.heap_order (omega (arith, c.pop.ensures.capacity, c.self.invariant.roomy, change.count))

pub returns-clause-same : goal.returns-clause-same
returns-clause-same c =
    let new : Made = record { region = c.unwrap-made.result.now.region; listed = false } in
    let change = changed c.self.inside.regions (c.get_mut.follows.lender new) c.args.region new _ _
    c.get_mut.ensures.value c.unwrap-made.ensures (c.get_mut.follows.holds new) in
    unchanged c.self.view_is _ (λ ks. ks) c.args.region new change.keys change.put (λ j. ap (λ o. taken_in o j) (sym change.there))

pub returns-clause-fewer : goal.returns-clause-fewer
returns-clause-fewer c =
    let new : Made = record { region = c.unwrap-made.result.now.region; listed = false } in
    let change = changed c.self.inside.regions (c.get_mut.follows.lender new) c.args.region new _ _
    c.get_mut.ensures.value c.unwrap-made.ensures (c.get_mut.follows.holds new) in
    let lowest = subst (λ (r : Regions). IsLowestListed r c.args.region) (sym c.self.view_is) c.requires.lowest in
    subst (λ (r : Regions). listed_count (c.get_mut.follows.lender new).entries < listed_count r.made) c.self.view_is
    (fewer_listed change (sym (ap listed_in change.there) ∙ lowest.listed) refl)
