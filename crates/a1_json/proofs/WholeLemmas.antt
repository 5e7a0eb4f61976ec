-- That what a tree stands for has no float.
use Rattle.std.proofs.Common.{◌≡◌, ℕ, ℤ, pos, negsuc, List, [], ◌∷◌, map, false, refl, ap, ◌∙◌, subst, nat_cmp, Ordering, Less, Equal, Greater}
use Rattle.std.proofs.lemmas.Bool.{or_parts}
use Rattle.std.specs.Ordering.{match_ordering}
use Rattle.std.specs.Cmp.Lexicographic.{slice_cmp}
use Rattle.serde_json.specs.Data.{Data, Members, no_members, member, put}
use Rattle.serde_json.specs.Find.{is_float, of_integer}
use Rattle.serde_json.specs.View.{items_of}
use Rattle.serde_json.specs.Written.{has_float, items_have_float, members_have_float}
use Rattle.a1_json.specs.Written.{data_of, data_step, put_all}
use Rattle.a1_json.specs.declared.tree.Json.{Json, map-Json}
use Rattle.a1_json.specs.declared.tree.Json.TheOpen.{Json-F}
use Rattle.a1_json.specs.declared.tree.Json.TheFolds.{fold-roll-Json, ind-Json}

abbrev IsWhole : Json → Type 0
IsWhole json = has_float (data_of json) ≡ false

abbrev Whole : Type 0
Whole = (json : Json) × IsWhole json

integer_whole : (z : ℤ) → is_float (of_integer z) ≡ false
integer_whole (pos n) = refl
integer_whole (negsuc n) = refl

-- an object without floats has none behind a put of a value without floats
pub put_whole : (name : List ℕ) (d : Data) (ms : Members) → has_float d ≡ false → members_have_float ms ≡ false → members_have_float (put name d ms) ≡ false
put_whole name d no_members none rest = rw none refl
put_whole name d (member other e ms) none rest = at (slice_cmp nat_cmp name other) (put_whole name d ms none both.1)
  where
    both : (has_float e ≡ false) × (members_have_float ms ≡ false)
    both = or_parts (has_float e) (members_have_float ms) rest

    at : (o : Ordering) → members_have_float (put name d ms) ≡ false
        → members_have_float (match_ordering o (member name d (member other e ms)) (member other d ms) (member other e (put name d ms))) ≡ false
    at Less later = rw (none, both.0, both.1) refl
    at Equal later = rw (none, both.1) refl
    at Greater later = rw (both.0, later) refl

items_whole : (items : List Whole) → items_have_float (items_of (map data_of (map (λ e. e.0) items))) ≡ false
items_whole [] = refl
items_whole (e ∷ items) = rw (e.1, items_whole items) refl

members_whole : (done : Members) (ms : List (List ℕ × Whole)) → members_have_float done ≡ false
    → members_have_float (put_all done (map (λ (m : List ℕ × Json). (m.0, data_of m.1)) (map (λ m. (m.0, m.1.0)) ms))) ≡ false
members_whole done [] none = none
members_whole done (m ∷ ms) none = members_whole (put m.0 (data_of m.1.0) done) ms (put_whole m.0 (data_of m.1.0) done m.1.1 none)

level_whole : (level : Json-F Whole) → has_float (data_step (map-Json Json Data data_of (map-Json Whole Json (λ e. e.0) level))) ≡ false
level_whole Json-F.Null = refl
level_whole (Json-F.Bool b) = refl
level_whole (Json-F.Int z) = integer_whole z
level_whole (Json-F.Text s) = refl
level_whole (Json-F.List items) = items_whole items
level_whole (Json-F.Members ms) = members_whole no_members ms refl

-- no tree has a float
pub whole : (json : Json) → has_float (data_of json) ≡ false
whole = ind-Json IsWhole (λ level inner is.
    ap has_float (fold-roll-Json Data data_step level)
    ∙ subst (λ l. has_float (data_step (map-Json Json Data data_of l)) ≡ false) is (level_whole inner))
