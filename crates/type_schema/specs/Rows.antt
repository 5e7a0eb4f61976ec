-- The rows of a graph, in the order of their keys, and changes of them.
use Rattle.std.specs.Prelude.{ℕ, ◌+◌, pos, List, [], ◌∷◌, ◌++◌, length, map, Option, Some, None, option_map}
use Rattle.std.specs.Ordering.{on, then_cmp, nat_cmp}
use Rattle.std.specs.declared.cmp.Ordering.{Ordering}
use Rattle.std.specs.BTreeSet.{insert_key}
use Rattle.a1_base.specs.Maps.{with_entry}
use Rattle.a1_value.specs.declared.value.Value.{Value}
use Rattle.a1_value.specs.declared.value.Value.TheVariants.{Int}
use Rattle.a1_value.specs.Order.{byte_order, value_order}
use Rattle.type_schema.specs.declared.rows.StoreKey.{StoreKey}
use Rattle.type_schema.specs.declared.rows.StoreKey.TheVariants as key
use Rattle.type_schema.specs.declared.rows.StoreValue.{StoreValue}
use Rattle.type_schema.specs.declared.rows.StoreValue.TheVariants as value
use Rattle.type_schema.specs.declared.rows.RowChange.{RowChange}
use Rattle.type_schema.specs.declared.rows.Change.{Change}
use Rattle.type_schema.specs.Names.{Name}
use Rattle.type_schema.specs.Layout.{row_value, change_bytes}
use Rattle.type_schema.specs.Graph.{Graph, tenant_at, number_at, type_at, vertex_at, edge_at}

-- ---- the order of whole keys

-- the parts of a key, in the order in which its bytes have them; a part that it lacks is empty. A graph's tenant and
-- name stand in its text already; they are parts too, so that different keys differ in a part whatever their names are
pub record Parts : Type 0 where
  pub tag : ℕ
  pub text : List ℕ
  pub tenant : Name
  pub graph : ℕ
  pub name : Name
  pub from_kind : Name
  pub from : Value
  pub to_kind : Name
  pub to : Value

abbrev pub no_parts : Parts
no_parts = record {
  tag = 0;
  text = [];
  tenant = [];
  graph = 0;
  name = [];
  from_kind = [];
  from = Int (pos 0);
  to_kind = [];
  to = Int (pos 0);
}

abbrev pub parts : StoreKey → Parts
parts key.Counter = no_parts
parts (key.Tenant t) = record no_parts { tag = 1; text = t }
parts (key.Graph g) = record no_parts { tag = 2; text = g.tenant ++ 47 ∷ g.name; tenant = g.tenant; name = g.name }
parts (key.TypeKey t) = record no_parts { tag = 3; graph = t.graph; name = t.name }
parts (key.Vertex v) = record no_parts { tag = 4; graph = v.graph; name = v.kind; from = v.key }
parts (key.Edge e) = record {
  tag = 5;
  text = [];
  tenant = [];
  graph = e.graph;
  name = e.kind;
  from_kind = e.from_kind;
  from = e.from;
  to_kind = e.to_kind;
  to = e.to;
}

-- a name in a key has its length in front
abbrev pub short_first : Name → Name → Ordering
short_first = then_cmp (on length nat_cmp) byte_order

abbrev pub parts_order : Parts → Parts → Ordering
parts_order =
    then_cmp (on (λ p. p.tag) nat_cmp)
    (then_cmp (on (λ p. p.text) byte_order)
    (then_cmp (on (λ p. p.tenant) byte_order)
    (then_cmp (on (λ p. p.graph) nat_cmp)
    (then_cmp (on (λ p. p.name) short_first)
    (then_cmp (on (λ p. p.from_kind) short_first)
    (then_cmp (on (λ p. p.from) value_order)
    (then_cmp (on (λ p. p.to_kind) short_first) (on (λ p. p.to) value_order))))))))

-- the order of the bytes of whole keys
unfoldable pub key_order : StoreKey → StoreKey → Ordering
key_order = on parts parts_order

-- ---- changes

abbrev pub put_at : StoreKey → StoreValue → RowChange
put_at k v = record { key = k; value = Some v }

abbrev pub gone_at : StoreKey → RowChange
gone_at k = record { key = k; value = None }

-- the change, with the bytes of its value
abbrev pub stored : RowChange → Change
stored c = record { key = c.key; value = option_map row_value c.value }

-- the bytes of the row item: a tag, a stamp and the change
abbrev pub item_size : RowChange → ℕ
item_size c = 9 + length (change_bytes (stored c))

-- the keys, each put at its place among those found so far
abbrev pub placed_among : List StoreKey → List StoreKey → List StoreKey
placed_among found [] = found
placed_among found (k ∷ keys) = placed_among (insert_key key_order found k) keys

abbrev pub in_key_order : List StoreKey → List StoreKey
in_key_order keys = placed_among [] keys

-- ---- the rows of a graph

-- what a graph has at a key
abbrev pub row_at : Graph → StoreKey → Option StoreValue
row_at g key.Counter = Some (value.Number g.next)
row_at g (key.Tenant t) = option_map (λ u. value.Nothing) (tenant_at g t)
row_at g (key.Graph n) = option_map value.Number (number_at g n)
row_at g (key.TypeKey t) = option_map value.Schema (type_at g t)
row_at g (key.Vertex v) = option_map value.Record (vertex_at g v)
row_at g (key.Edge e) = option_map value.Record (edge_at g e)

abbrev pub all_rows : Graph → List (StoreKey × StoreValue)
all_rows g =
    (key.Counter, value.Number g.next)
    ∷ map (λ e. (key.Tenant e.0, value.Nothing)) g.tenants
    ++ (map (λ e. (key.Graph e.0, value.Number e.1)) g.graphs
    ++ (map (λ e. (key.TypeKey e.0, value.Schema e.1)) g.types
    ++ (map (λ e. (key.Vertex e.0, value.Record e.1)) g.vertices
    ++ map (λ e. (key.Edge e.0, value.Record e.1)) g.edges)))

abbrev pub sorted_rows : List (StoreKey × StoreValue) → List (StoreKey × StoreValue)
sorted_rows [] = []
sorted_rows (r ∷ rows) = with_entry key_order r.0 r.1 (sorted_rows rows)

-- the counter and every tenant, graph, type, vertex and edge, in key order
unfoldable pub rows : Graph → List (StoreKey × StoreValue)
rows g = sorted_rows (all_rows g)

-- the same as changes
abbrev pub rows_as_changes : Graph → List RowChange
rows_as_changes g = map (λ r. put_at r.0 r.1) (rows g)
