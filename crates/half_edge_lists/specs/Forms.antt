-- What the bytes of a list's object tell.
use Rattle.std.specs.Prelude.{◌≡◌, ℕ, List, length, map, Option, Some, None}
use Rattle.a1_base.specs.declared.place.Addr.{Addr}
use Rattle.object_view.specs.Agreement.{State}
use Rattle.object_view.specs.Layout.{entries, word_of}
use Rattle.object_btree.specs.Intervals.{Pair}
use Rattle.type_schema.specs.declared.objects.Half.{Half}
use Rattle.type_schema.specs.Objects.{half_entry, half_key}
use Rattle.type_schema.specs.Structures.{IsShort, IsLong}
use Rattle.half_edge_lists.specs.declared.lists.Form.{Form}
use Rattle.half_edge_lists.specs.declared.lists.Form.TheVariants as form

-- the entries of one object, or the number of half-edges and the anchor of the tree that has them
abbrev pub FormTells : ℕ → State → Addr → Addr → List Half → List Addr → Option Form → Type 0
FormTells nodes s at owner halves places None = ⊥
FormTells nodes s at owner halves places (Some (form.Short body)) =
    IsShort s at owner halves places × (body.now ≡ entries (map half_entry halves))
FormTells nodes s at owner halves places (Some (form.Long count anchor)) =
    (long : IsLong nodes s at owner halves places) × (long.anchor ≡ anchor) × (count ≡ length halves)

-- a half-edge as a pair of a tree
abbrev pub half_pair : Half → Pair
half_pair h = (half_key h.kind h.far, word_of h.body)
