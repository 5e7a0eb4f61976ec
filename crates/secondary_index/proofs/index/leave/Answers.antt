use Rattle.std.proofs.Common.{◌≡◌, ℕ, List, ap, subst, ◌∙◌}
use Rattle.std.specs.Prelude.{map, is_some}
use Rattle.a1_base.specs.declared.place.Addr.{Addr}
use Rattle.object_view.specs.Agreement.{stood, State}
use Rattle.object_view.proofs.Views.{tells_from}
use Rattle.object_btree.specs.Changes.{RemoveTells}
use Rattle.type_schema.specs.Objects.{index_key, index_entry}
use Rattle.secondary_index.specs.Changes.{without_row}
use Rattle.secondary_index.proofs.Rows.{pairs_without, fit_without, rows_stand}
use Rattle.secondary_index.proofs.index.leave.Goals as goal

pub returns-in_err-old-clause-tells : goal.returns-in_err-old-clause-tells
returns-in_err-old-clause-tells g c h owner rows places ag index =
    tells_from c.from_residual-in_err-old.result _ _ _ c.from_residual-in_err-old.ensures.1
    (c.in_err-old.ensures.tells h owner (map index_entry rows) places ag index.tree)

pub returns-clause-tells : goal.returns-clause-tells
returns-clause-tells g c h owner rows places ag index =
    let s : State = stood h (g.V.View.overlay c.args.view.now) in
    let t : State = stood h (g.V.View.overlay c.remove.new.view) in
    let nodes : ℕ = g.V.View.count c.args.view.now in
    let anchor : Addr = c.args.tree.now.anchor in
    let is : c.as_slice.result.now ≡ index_key c.args.value.now c.args.key.now =
    c.as_slice.ensures ∙ c.in_ok-row.ensures in
    let w : RemoveTells nodes s t anchor owner (map index_entry rows) places
    (index_key c.args.value.now c.args.key.now) c.in_ok-old.old =
    subst (λ (k : List ℕ). RemoveTells nodes s t anchor owner (map index_entry rows) places k c.in_ok-old.old) is
    (c.in_ok-old.ensures.tells h owner (map index_entry rows) places ag index.tree) in
    record {
      was_there = c.is_some.ensures ∙ ap is_some w.old_is;
      becomes = rows_stand nodes s t anchor owner places (without_row c.args.value.now c.args.key.now rows) _
          (fit_without c.args.value.now c.args.key.now rows index.fit)
          (pairs_without c.args.value.now c.args.key.now rows) w.becomes;
    }
