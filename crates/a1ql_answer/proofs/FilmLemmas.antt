-- A map of vertices whose records have their keys first, as one is put in.
use Rattle.std.proofs.Common.{◌≡◌, List, Bool, true, false, cond, Some, Result, Ok, Err, sym, refl, ap, ◌∙◌, is_eq}
use Rattle.std.specs.BTreeMap.{BTreeMap, Updates, IsUnchanged}
use Rattle.std.specs.Result.{OnOk, OnErr}
use Rattle.a1_base.specs.Maps.{at}
use Rattle.type_schema.specs.declared.names.VertexName.{VertexName}
use Rattle.type_schema.specs.Schemas.{Record, key_of}
use Rattle.type_schema.specs.Graph.{vertex_order}
use Rattle.a1ql_plan.specs.Answer.{Vertex}
use Rattle.a1ql_answer.proofs.OrderLemmas.{vertex_total, exact_vertices}
use Rattle.a1ql_answer.proofs.MapLemmas.{one_key}

abbrev pub AreKeyed : List Vertex → Type 0
AreKeyed entries = (v : VertexName) (x : Record) → at vertex_order v entries ≡ Some x → key_of x ≡ v.key

pub still_keyed : {A E : Type 0} (r : Result A E) (k : VertexName) (w : Record) (old new : BTreeMap VertexName Record) → AreKeyed old.entries → key_of w ≡ k.key
    → OnOk r (Updates vertex_order old new k (Some w)) → OnErr r (IsUnchanged old new) → AreKeyed new.entries
still_keyed (Ok a) k w old new keyed first put same q x e = by (is_eq (vertex_order k q)) refl (sym (put.0 q) ∙ e) where
  by : (b : Bool) → is_eq (vertex_order k q) ≡ b → cond b (Some w) (at vertex_order q old.entries) ≡ Some x → key_of x ≡ q.key
  by true h f = let this : w ≡ x = cc in ap key_of (sym this) ∙ (first ∙ ap (λ v. v.key) (one_key vertex_order vertex_total exact_vertices k q h))
  by false h f = keyed q x f
still_keyed (Err a) k w old new keyed first put same q x e = keyed q x (ap (λ es. at vertex_order q es) (sym same) ∙ e)
