use Rattle.std.proofs.Common.{◌≡◌, List, [], ◌∷◌, ◌+◌, drop, map, Option, ap, sym, ◌∙◌, subst, ◌++◌}
use Rattle.std.specs.Option.{option_map}
use Rattle.std.specs.List.{cons_option}
use Rattle.std.proofs.lemmas.List.{drop_more}
use Rattle.type_schema.specs.declared.names.EdgeName.{EdgeName}
use Rattle.type_schema.specs.Schemas.{Record}
use Rattle.type_schema.specs.Graph.{edge_order}
use Rattle.a1_base.specs.Maps.{at}
use Rattle.graph_maps.specs.declared.half.Half.{Half}
use Rattle.graph_maps.specs.Halves.{seen_edges}
use Rattle.graph_maps.proofs.PartLemmas.{walked_one, walked_none}
use Rattle.graph_maps.proofs.edges.standing.Goals as goal
use Rattle.graph_maps.proofs.edges.standing.Goals.{in-Some+in_ok-reserve, in_default}

pub loop-half-preserved : goal.loop-half-preserved
loop-half-preserved g c =
    let halves = c.deref-half-items.result.now in let n = c.loop-half.half-index in let this = c.loop-half-item.result in
    let edge = this.0.now.edge in
    let made : Option Record → List (EdgeName × Record) = λ w. cons_option (option_map (λ x. (edge, x)) w) [] in
    let found : Half × Unit {0} → Option (EdgeName × Record) = λ h. option_map (λ x. (h.0.edge, x)) (at edge_order h.0.edge c.args.named.now.now) in
    let ahead : map (λ e. (e.0.now, e.1.now)) (drop n halves) ≡ (this.0.now, this.1.now) ∷ map (λ e. (e.0.now, e.1.now)) (drop (n + 1) halves) =
    ap (map (λ e. (e.0.now, e.1.now))) (drop_more halves n this c.loop-half-test.true ∙ ap (λ z. z ∷ drop (n + 1) halves) (sym c.loop-half-item.is)) in
    elim c.match-get.branch [
      | in-Some+in_ok-reserve w ↦
          rw w.rows-is
          (walked_one (λ e. (e.0.now, e.1.now)) found _ (this.0.now, this.1.now) _ _ w.push_reserved.ensures.items w.in_ok-reserve.ensures.items (ap made w.in-Some.ensures) ahead
          c.loop-half.invariant)
      | in_default w ↦
          rw w.rows-is (walked_none (λ e. (e.0.now, e.1.now)) found _ c.loop-half.rows.items (this.0.now, this.1.now) _ _ (ap made w.in_default.ensures) ahead c.loop-half.invariant)
    ]
