-- What stands where in a pattern.
use Rattle.std.specs.Prelude.{ℕ, List, [], ◌∷◌, Bool, true, false, nat_eq, Option, Some, None, is_some, if◌then◌else◌, codes}
use Rattle.std.specs.Str.{bytes_eq}
use Rattle.a1ql_reader.specs.declared.patterns.Comparison.{Comparison}
use Rattle.a1ql_reader.specs.declared.patterns.Comparison.TheVariants.{Eq, Ne, Lt, Le, Gt, Ge}
use Rattle.a1ql_reader.specs.declared.places.Place.{Place}
use Rattle.a1ql_reader.specs.declared.places.Place.TheVariants as at

-- the comparison of this name
abbrev pub comparison_named : List ℕ → Option Comparison
comparison_named name =
    if bytes_eq name (codes "_eq") then Some Eq
    else if bytes_eq name (codes "_ne") then Some Ne
    else if bytes_eq name (codes "_lt") then Some Lt
    else if bytes_eq name (codes "_le") then Some Le
    else if bytes_eq name (codes "_gt") then Some Gt
    else if bytes_eq name (codes "_ge") then Some Ge
    else None

-- whether a hop of this name leads out or in
abbrev pub direction : List ℕ → Option Bool
direction name =
    if bytes_eq name (codes "_out_edge") then Some true
    else if bytes_eq name (codes "_in_edge") then Some false
    else None

-- the name begins with `_`
abbrev pub is_reserved : List ℕ → Bool
is_reserved [] = false
is_reserved (b ∷ name) = nat_eq b 95

abbrev pub attribute_place : List ℕ → Option Place
attribute_place name = if is_reserved name then None else Some at.Compared

-- the members of a vertex pattern; with true inside a `_match`
abbrev pub vertex_place : Bool → List ℕ → Option Place
vertex_place inside name =
    if bytes_eq name (codes "_type") then Some at.Kind
    else if bytes_eq name (codes "_match") then Some at.Matches
    else if bytes_eq name (codes "_out_edge") then Some (at.Edge inside)
    else if bytes_eq name (codes "_in_edge") then Some (at.Edge inside)
    else if bytes_eq name (codes "_select") then (if inside then None else Some at.Selected)
    else attribute_place name

-- those of an edge pattern
abbrev pub edge_place : Bool → List ℕ → Option Place
edge_place inside name =
    if bytes_eq name (codes "_type") then Some at.Kind
    else if bytes_eq name (codes "_vertex") then Some (at.Vertex inside)
    else attribute_place name

-- those of an entry of a `_match`
abbrev pub entry_place : List ℕ → Option Place
entry_place name = if is_some (direction name) then Some (at.Edge true) else None

-- those of an object of comparisons
abbrev pub operand_place : List ℕ → Option Place
operand_place name = if is_some (comparison_named name) then Some at.Operand else None

-- what stands at the member of this name of an object at this place; none where it has no such member
abbrev pub place_of : Place → List ℕ → Option Place
place_of (at.Vertex inside) name = vertex_place inside name
place_of (at.Edge inside) name = edge_place inside name
place_of at.Entry name = entry_place name
place_of at.Compared name = operand_place name
place_of at.Matches name = None
place_of at.Kind name = None
place_of at.Operand name = None
place_of at.Selected name = None
