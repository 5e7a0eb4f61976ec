use Rattle.std.proofs.Common.{◌≡◌, length, ap, arith}
use Rattle.std.specs.Prelude.{map}
use Rattle.object_view.specs.Layout.{entries}
use Rattle.type_schema.specs.Objects.{half_entry}
use Rattle.half_edge_lists.proofs.Filling.{entries_length}
use Rattle.half_edge_lists.proofs.growing.put_short.Goals as goal

pub returns-then-body-gt-ENTRIES_LIMIT-clause-tells : goal.returns-then-body-gt-ENTRIES_LIMIT-clause-tells
returns-then-body-gt-ENTRIES_LIMIT-clause-tells g c heap halves ag f there few body =
    let long : length c.args.body.now ≡ length (entries (map half_entry halves)) = ap length body in
    let over = c.if-body-gt-ENTRIES_LIMIT.true in
    c.grow.ensures.tells heap halves ag f there (omega (arith, long, over, entries_length halves)) few body

pub returns-clause-tells : goal.returns-clause-tells
returns-clause-tells g c heap halves ag f there few body =
    let long : length c.args.body.now ≡ length (entries (map half_entry halves)) = ap length body in
    let within = c.if-body-gt-ENTRIES_LIMIT.false in
    c.put_entries.ensures.tells heap halves ag f there (omega (arith, long, within, entries_length halves)) body
