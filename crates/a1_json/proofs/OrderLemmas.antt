-- That the names of a tree are in order.
use Rattle.std.proofs.Common.{◌≡◌, ℕ, List, [], ◌∷◌, ◌++◌, map, Bool, ◌&&◌, refl, ap, ◌∙◌, append_assoc, String, Global, string_bytes, string_cmp, nat_cmp, Less, IsTrue, rules}
use Rattle.std.specs.List.{list_all, AllByRecursion}
use Rattle.std.specs.List.Sorted.{IsStrictlySortedBy}
use Rattle.std.specs.Map.{keys_of}
use Rattle.std.specs.Ordering.{is_lt}
use Rattle.std.specs.Cmp.Lexicographic.{slice_cmp}
use Rattle.std.proofs.lemmas.List.{map-append}
use Rattle.std.proofs.lemmas.List.Folds.{list_all-map}
use Rattle.serde_json.proofs.Views.{Entry}
use Rattle.a1_json.specs.Tree.{names_ordered, has_ordered_names, members_ordered}
use Rattle.a1_json.specs.declared.tree.Json.{Json, the_lemmas}
use Rattle.a1_json.specs.declared.tree.Json.TheVariants as json

abbrev pub names_of : List Entry → List (List ℕ)
names_of es = map (λ e. string_bytes e.0) es

all_after : (name : String Global) (es : List Entry) → AllByRecursion (λ y. string_cmp name y ≡ Less) (keys_of es) → IsTrue (list_all (λ other. is_lt (slice_cmp nat_cmp (string_bytes name) other)) (names_of es))
all_after name [] h = refl
all_after name (e ∷ es) h = rw (h.0, all_after name es h.1)

-- the names of a map are in order
pub names_of_map : (es : List Entry) → IsStrictlySortedBy string_cmp (keys_of es) → IsTrue (names_ordered (names_of es))
unfolding IsStrictlySortedBy
names_of_map [] h = refl
names_of_map (e ∷ es) h = rw (all_after e.0 es h.0, names_of_map es h.1)

-- what is said of a list is said of its items
pub list_ordered : (items : List Json) → has_ordered_names (json.List items) ≡ list_all has_ordered_names items
list_ordered items =
    let level : has_ordered_names (json.List items) ≡ list_all (λ ordered. ordered) (map has_ordered_names items) = search (rules, the_lemmas) in
    level ∙ list_all-map (λ ordered. ordered) has_ordered_names items

abbrev pub Member : Type 0
Member = List ℕ × Json

abbrev seen_in : List Member → List (List ℕ × Bool)
seen_in members = map (λ m. (m.0, has_ordered_names m.1)) members

names_kept : (members : List Member) → map (λ m. m.0) (seen_in members) ≡ map (λ m. m.0) members
names_kept [] = refl
names_kept (m ∷ members) = ap (λ names. m.0 ∷ names) (names_kept members)

-- and what is said of an object, of its members
pub object_ordered : (members : List Member) → has_ordered_names (json.Members members) ≡ members_ordered members
object_ordered members =
    let level : has_ordered_names (json.Members members) ≡ (names_ordered (map (λ m. m.0) (seen_in members)) && list_all (λ m. m.1) (seen_in members)) = search (rules, the_lemmas) in
    level ∙ rw (names_kept members, list_all-map (λ (m : List ℕ × Bool). m.1) (λ (m : Member). (m.0, has_ordered_names m.1)) members)

-- a name that goes from what is left to what was done
pub one_named : (members : List Member) (m : Member) (rest : List (List ℕ)) → names_ordered (map (λ m. m.0) members ++ m.0 ∷ rest) ≡ names_ordered (map (λ m. m.0) (members ++ m ∷ []) ++ rest)
one_named members m rest = rw (map-append, append_assoc)
