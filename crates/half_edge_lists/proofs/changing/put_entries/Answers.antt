use Rattle.std.proofs.Common.{◌≡◌, ℕ, List, [], ◌∷◌, length, ap, ◌∙◌, arith}
use Rattle.std.specs.Prelude.{map}
use Rattle.object_view.specs.Agreement.{stood, State}
use Rattle.object_view.specs.Layout.{entries, word_of, object_bytes}
use Rattle.type_schema.specs.Objects.{half_entry}
use Rattle.half_edge_lists.proofs.Becoming.{short_tells, moves_same}
use Rattle.half_edge_lists.proofs.Filling.{entries_length}
use Rattle.half_edge_lists.proofs.changing.put_entries.Goals as goal

pub returns-then-body-gt-ENTRIES_LIMIT-clause-tells : goal.returns-then-body-gt-ENTRIES_LIMIT-clause-tells
returns-then-body-gt-ENTRIES_LIMIT-clause-tells g c heap halves ag f there few body =
    let long : length c.args.body.now ≡ length (entries (map half_entry halves)) = ap length body in
    let over = c.if-body-gt-ENTRIES_LIMIT.true in
    omega (arith, long, over, few, entries_length halves)

pub returns-clause-tells : goal.returns-clause-tells
returns-clause-tells g c heap halves ag f there few body =
    let s : State = stood heap (g.V.View.overlay c.args.view.now) in
    let t : State = stood heap (g.V.View.overlay c.rewrite.new.view) in
    let long : length c.args.body.now ≡ length (entries (map half_entry halves)) = ap length body in
    let within = c.if-body-gt-ENTRIES_LIMIT.false in
    short_tells (g.V.View.count c.args.view.now) s s t c.args.at c.args.owner halves [] c.rewrite.result _ f
    (omega (arith, long, within, entries_length halves)) (moves_same s [])
    (c.as_slice.ensures ∙ c.in_ok-bytes.ensures
    ∙ ap (λ (z : List ℕ). object_bytes 9 (word_of c.args.owner) (0 ∷ z)) body)
    (c.rewrite.ensures.tells heap ag c.requires.served there)
