use Rattle.std.proofs.Common.{◌≡◌, List, ℕ, sym, ap, subst, ◌∙◌}
use Rattle.std.specs.Prelude.{map, option_map}
use Rattle.object_view.specs.Layout.{entries}
use Rattle.object_btree.specs.Steps.{Place}
use Rattle.type_schema.specs.Objects.{half_entry, half_key}
use Rattle.half_edge_lists.specs.Changes.{from_half}
use Rattle.half_edge_lists.proofs.Behind.{placed_behind}
use Rattle.half_edge_lists.proofs.Halves.{halves_fit}
use Rattle.half_edge_lists.proofs.walking.behind.Goals as goal

pub returns-in-None : goal.returns-in-None
returns-in-None c halves fit body = c.in-None.ensures (map half_entry halves) (halves_fit halves fit) body

pub returns : goal.returns
returns c halves fit body =
    let key : c.as_slice.result.now ≡ half_key c.in-Some.from.now.kind c.in-Some.from.now.far =
    c.as_slice.ensures ∙ c.in_ok-key.ensures in
    let p : Place (half_key c.in-Some.from.now.kind c.in-Some.from.now.far) (map half_entry halves)
    c.in-Some-place_in.field-0-0.now c.in-Some-place_in.back.now c.in-Some-place_in.field-0-2 =
    subst (λ (k : List ℕ). Place k (map half_entry halves) c.in-Some-place_in.field-0-0.now
    c.in-Some-place_in.back.now c.in-Some-place_in.field-0-2) key
    (c.in-Some-place_in.ensures (map half_entry halves) (halves_fit halves fit) body) in
    p.back_is
    ∙ ap entries (placed_behind c.in-Some.from.now.kind c.in-Some.from.now.far halves p.low p.high p.result)
    ∙ ap (λ o. entries (map half_entry (from_half (option_map (λ f. f.now) o) halves))) (sym c.in-Some.is)
