-- All rows of a graph, kind by kind, and each put at its place.
use Rattle.std.proofs.Common.{◌≡◌, List, [], ◌∷◌, ◌++◌, ℕ, map, refl, ap, append_assoc}
use Rattle.a1_base.specs.Maps.{with_entry}
use Rattle.type_schema.specs.declared.names.GraphName.{GraphName}
use Rattle.type_schema.specs.declared.names.TypeName.{TypeName}
use Rattle.type_schema.specs.declared.names.VertexName.{VertexName}
use Rattle.type_schema.specs.declared.names.EdgeName.{EdgeName}
use Rattle.type_schema.specs.declared.rows.TypeSchema.{TypeSchema}
use Rattle.type_schema.specs.declared.rows.StoreKey.{StoreKey}
use Rattle.type_schema.specs.declared.rows.StoreKey.TheVariants as key
use Rattle.type_schema.specs.declared.rows.StoreValue.{StoreValue}
use Rattle.type_schema.specs.declared.rows.StoreValue.TheVariants as value
use Rattle.type_schema.specs.Names.{Name}
use Rattle.type_schema.specs.Schemas.{Record}
use Rattle.type_schema.specs.Rows.{key_order, sorted_rows}

-- ---- kind by kind

abbrev pub Row : Type 0
Row = StoreKey × StoreValue

abbrev pub of_tenants : List (Name × Unit {0}) → List Row
of_tenants = map (λ e. (key.Tenant e.0, value.Nothing))

abbrev pub of_graphs : List (GraphName × ℕ) → List Row
of_graphs = map (λ e. (key.Graph e.0, value.Number e.1))

abbrev pub of_types : List (TypeName × TypeSchema) → List Row
of_types = map (λ e. (key.TypeKey e.0, value.Schema e.1))

abbrev pub of_vertices : List (VertexName × Record) → List Row
of_vertices = map (λ e. (key.Vertex e.0, value.Record e.1))

abbrev pub of_edges : List (EdgeName × Record) → List Row
of_edges = map (λ e. (key.Edge e.0, value.Record e.1))

-- one kind behind the other
pub regrouped : (a b c d e f : List Row) → a ++ b ++ c ++ d ++ e ++ f ≡ (a ++ b) ++ (c ++ (d ++ (e ++ f)))
regrouped a b c d e f = simp append_assoc

-- ---- at their places

-- the rows, the last first, put at their places among those found so far
abbrev pub sorted_among : List Row → List Row → List Row
sorted_among found [] = found
sorted_among found (r ∷ rows) = with_entry key_order r.0 r.1 (sorted_among found rows)

pub one_less : (found rows : List Row) (r : Row) → sorted_among found (rows ++ r ∷ []) ≡ sorted_among (with_entry key_order r.0 r.1 found) rows
one_less found [] r = refl
one_less found (q ∷ rows) r = ap (with_entry key_order q.0 q.1) (one_less found rows r)

pub none_found : (rows : List Row) → sorted_among [] rows ≡ sorted_rows rows
none_found [] = refl
none_found (r ∷ rows) = ap (with_entry key_order r.0 r.1) (none_found rows)
