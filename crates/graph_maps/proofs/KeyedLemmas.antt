-- Vertices whose records have their keys first.
use Rattle.std.proofs.Common.{◌≡◌, List, Bool, true, false, cond, not, Option, Some, None, sym, refl, ap, ◌∙◌, is_eq}
use Rattle.a1_value.specs.declared.value.Value.{Value}
use Rattle.a1_base.specs.Maps.{at, with_entry, without}
use Rattle.type_schema.specs.declared.names.VertexName.{VertexName}
use Rattle.type_schema.specs.Graph.{vertex_order}
use Rattle.type_schema.specs.Schemas.{Record, key_of}
use Rattle.graph_maps.specs.ExactKeys.{exact_vertices}
use Rattle.graph_maps.specs.KeyOrders.{vertex_total}
use Rattle.graph_maps.specs.Vertices.{AreKeyed}
use Rattle.graph_maps.proofs.MapLemmas.{one_key, at_with, at_filter}

pub keyed_put : (v : VertexName) (x : Record) (vertices : List (VertexName × Record)) → key_of x ≡ v.key → AreKeyed vertices → AreKeyed (with_entry vertex_order v x vertices)
keyed_put v x vertices here keyed w y there = by (is_eq (vertex_order w v)) refl (sym (at_with vertex_order vertex_total exact_vertices w v x vertices) ∙ there) where
  by : (b : Bool) → is_eq (vertex_order w v) ≡ b → cond b (Some x) (at vertex_order w vertices) ≡ Some y → key_of y ≡ w.key
  by true e h = let same : x ≡ y = cc in sym (ap key_of same) ∙ (here ∙ ap (λ z. z.key) (sym (one_key vertex_order vertex_total exact_vertices w v e)))
  by false e h = keyed w y h

pub keyed_take : (v : VertexName) (vertices : List (VertexName × Record)) → AreKeyed vertices → AreKeyed (without vertex_order v vertices)
keyed_take v vertices keyed w y there = by (is_eq (vertex_order w v)) (sym (at_filter vertex_order vertex_total exact_vertices (λ z. not (is_eq (vertex_order z v))) w vertices) ∙ there) where
  by : (b : Bool) → cond (not b) (at vertex_order w vertices) None ≡ Some y → key_of y ≡ w.key
  by true h = absurd cc
  by false h = keyed w y h
