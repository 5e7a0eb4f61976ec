-- Keys, each put at its place, and the keys of edges.
use Rattle.std.proofs.Common.{◌≡◌, List, [], ◌∷◌, ◌++◌, map, refl, ap, ◌∙◌}
use Rattle.std.proofs.lemmas.List.{map-append}
use Rattle.std.specs.BTreeSet.{insert_key}
use Rattle.type_schema.specs.declared.names.EdgeName.{EdgeName}
use Rattle.type_schema.specs.declared.rows.StoreKey.{StoreKey}
use Rattle.type_schema.specs.declared.rows.StoreKey.TheVariants as key
use Rattle.type_schema.specs.Schemas.{Record}
use Rattle.type_schema.specs.Rows.{key_order, placed_among, in_key_order}

-- one key more at the end
placed_last : (found keys : List StoreKey) (k : StoreKey) → placed_among found (keys ++ k ∷ []) ≡ insert_key key_order (placed_among found keys) k
placed_last found [] k = refl
placed_last found (q ∷ keys) k = placed_last (insert_key key_order found q) keys k

-- the key of one name more
pub one_more : (names : List EdgeName) (name : EdgeName)
    → in_key_order (map (λ n. key.Edge n) (names ++ name ∷ [])) ≡ insert_key key_order (in_key_order (map (λ n. key.Edge n) names)) (key.Edge name)
one_more names name =
    ap (placed_among []) (map-append (λ n. key.Edge n) names (name ∷ [])) ∙ placed_last [] (map (λ n. key.Edge n) names) (key.Edge name)

-- the keys of the names
pub keys_of_names : (edges : List (EdgeName × Record)) → map (λ name. key.Edge name) (map (λ e. e.0) edges) ≡ map (λ e. key.Edge e.0) edges
keys_of_names [] = refl
keys_of_names (e ∷ edges) = ap (λ keys. key.Edge e.0 ∷ keys) (keys_of_names edges)
