use Rattle.std.proofs.Common.{◌≡◌, ap, ◌∙◌, map, arith}
use Rattle.std.proofs.lemmas.Grind.{common_steps}
use Rattle.std.proofs.lemmas.List.{take_all}
use Rattle.serde_json.specs.Data.{array}
use Rattle.serde_json.specs.View.{view, items_of}
use Rattle.serde_json.proofs.Views.{view-Array}
use Rattle.answer_text.specs.Reply.{row_data}
use Rattle.answer_text.proofs.printing.rows_json.Goals as goal

pub returns : goal.returns
returns c =
    let all : map view c.loop-row.list.items ≡ map row_data c.args.rows.now = grind (arith, common_steps, take_all, c.loop-row.invariant) in
    view-Array c.loop-row.list ∙ ap (λ ds. array (items_of ds)) all
