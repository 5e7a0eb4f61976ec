use Rattle.object_region.proofs.Words.{ℕ, ◌∷◌, true, sym, ap, ◌∙◌, refl, subst, arith, IsPermutation, heap_items, heap_capacity, IsHeap, keys_of, Reverse, IfOk-at_ok, Made, add_region, Regions, IsRegion, made_at, listed_in, taken_in}
use Rattle.object_region.proofs.Keys.{keys_insert_entry}
use Rattle.object_region.proofs.Kept.{highest, listed_fit, kept_listed, one_more}
use Rattle.object_region.proofs.Taken.{unchanged}
use Rattle.object_region.proofs.places.Places.make.Goals as goal

pub overflow_sub-unlisted : goal.overflow_sub-unlisted
overflow_sub-unlisted c = omega (arith, listed_fit c.self.invariant, c.self.inside.open_regions.data.ok.0)

pub invariant_of-self-in-Ok : goal.invariant_of-self-in-Ok
invariant_of-self-in-Ok c =
    let made : Made = record { region = c.in_ok-new.field-0; listed = true } in
    let x : Reverse ℕ = record { 0 = c.args.region } in
    let unmade = ap (λ (r : Regions). made_at r.made c.args.region) c.self.view_is ∙ c.requires.unmade in
    let moved : IsPermutation (x ∷ heap_items c.reserve.new.self) (heap_items c.push.new.self) = IfOk-at_ok (λ _. _) c.unwrap.ensures c.push.ensures.permutation in
    let heap = subst (IsHeap highest) (sym c.in_ok-reserve.ensures.items) c.self.invariant.lowest_first in
    kept_listed c.self.invariant c.insert.new.self.entries (heap_items c.push.new.self) (heap_capacity c.push.new.self) x made c.in-Ok.ensures.updates.0
    (subst (λ (r : Regions). IsRegion r.node r.nodes c.args.region) (sym c.self.view_is) c.requires.of_node) (ap listed_in unmade) refl
    (subst (λ ys. IsPermutation (x ∷ ys) (heap_items c.push.new.self)) c.in_ok-reserve.ensures.items moved)
    (IfOk-at_ok (λ _. _) c.unwrap.ensures c.push.ensures.heap_order heap)
    (omega (
      arith,
      one_more _ _ _ c.in-Ok.ensures.len,
      c.in_ok-reserve.ensures.ok,
      c.in_ok-reserve.ensures.len,
      listed_fit c.self.invariant,
      c.self.inside.open_regions.data.ok.0,
    ))

pub returns-in-Ok-clause-ok : goal.returns-in-Ok-clause-ok
returns-in-Ok-clause-ok c =
    let made : Made = record { region = c.in_ok-new.field-0; listed = true } in
    let unmade = ap (λ (r : Regions). made_at r.made c.args.region) c.self.view_is ∙ c.requires.unmade in
    unchanged c.self.view_is _ (add_region c.args.region) c.args.region made
    (ap keys_of c.in-Ok.ensures.entries ∙ keys_insert_entry c.args.region made c.self.inside.regions.entries)
    c.in-Ok.ensures.updates.0 (λ j. c.in_ok-new.ensures j ∙ sym (ap (λ o. taken_in o j) unmade))
