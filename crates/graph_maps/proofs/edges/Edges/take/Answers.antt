use Rattle.std.proofs.Common.{◌≡◌, true, false, sym, subst, ap, ◌∙◌, is_eq}
use Rattle.a1_base.specs.Maps.{has}
use Rattle.type_schema.specs.Graph.{edge_order}
use Rattle.graph_maps.specs.declared.half.Half.{Half}
use Rattle.graph_maps.specs.Halves.{AreSeen, half_order}
use Rattle.graph_maps.proofs.SeenLemmas.{seen_take}
use Rattle.graph_maps.proofs.edges.Edges.take.Goals as goal

pub invariant_of-self-2 : goal.invariant_of-self-2
invariant_of-self-2 c =
    let still : (h : Half) → is_eq (edge_order h.edge c.args.name) ≡ false → has half_order h c.self.inside.halves.now ≡ true → has half_order h c.take_half-2.new.halves.now ≡ true =
    λ h apart there.
    let other : is_eq (edge_order h.edge c.in_ok-again.again) ≡ false = ap (λ z. is_eq (edge_order h.edge z)) c.in_ok-again.ensures ∙ apart in
    c.take_half-2.ensures.others h other (c.take_half.ensures.others h other there) in (
      subst (λ edges. AreSeen edges c.take_half-2.new.halves.now) (sym c.in_ok-take.ensures.ok)
          (seen_take c.args.name c.self.inside.named.now c.self.inside.halves.now c.take_half-2.new.halves.now c.self.invariant.0 still),
      rw (c.take.ensures.was, c.take_half-2.ensures.was, c.take_half.ensures.was) c.self.invariant.1,
    )
