use Rattle.std.proofs.Common.{◌≡◌, ℕ, Bool, true, Ok, sym, subst}
use Rattle.a1_base.specs.declared.place.Addr.{Addr}
use Rattle.object_view.specs.Agreement.{State, Agrees, stood}
use Rattle.object_view.specs.Keys.{inserted}
use Rattle.object_view.specs.Trees.{IsTree}
use Rattle.object_view.proofs.Moving.{onward_then}
use Rattle.object_btree.specs.Changes.{InsertTells}
use Rattle.type_schema.specs.Structures.{with_half}
use Rattle.half_edge_lists.specs.Changes.{AddTells}
use Rattle.half_edge_lists.proofs.Composing.{both_become}
use Rattle.half_edge_lists.proofs.together.add_both.Goals as goal

pub returns-in_err-insert-clause-onward : goal.returns-in_err-insert-clause-onward
returns-in_err-insert-clause-onward g c =
    onward_then g.V.View.trace g.V.View.overlay g.V.View.reaches g.V.View.count g.V.View.kept c.args.view.now c.add.new.view
    c.insert.new.view c.in_ok-is_new.ensures.onward c.in_err-insert.ensures.onward

pub returns-clause-onward : goal.returns-clause-onward
returns-clause-onward g c =
    onward_then g.V.View.trace g.V.View.overlay g.V.View.reaches g.V.View.count g.V.View.kept c.args.view.now c.add.new.view
    c.insert.new.view c.in_ok-is_new.ensures.onward c.in_ok-insert.ensures.onward

pub returns-clause-tells : goal.returns-clause-tells
returns-clause-tells g c h graph fields halves places owner pairs below ag vertex list tree fits fits2 differ is_new =
    let s : State = stood h (g.V.View.overlay c.args.view.now) in
    let t : State = stood h (g.V.View.overlay c.add.new.view) in
    let u : State = stood h (g.V.View.overlay c.insert.new.view) in
    let nodes : ℕ = g.V.View.count c.args.view.now in
    let anchor : Addr = c.args.tree.now.anchor in
    let same : g.V.View.count c.add.new.view ≡ nodes = c.in_ok-is_new.ensures.onward.steady.count in
    let earlier : Agrees h (g.V.View.trace c.add.new.view) (g.V.View.overlay c.add.new.view) =
    c.in_ok-insert.ensures.onward.agreed h ag in
    let added : AddTells nodes s t fields.out c.args.header halves places c.args.new.now (Ok true) =
    subst (λ (b : Bool). AddTells nodes s t fields.out c.args.header halves places c.args.new.now (Ok b)) is_new
    (c.in_ok-is_new.ensures.tells h graph fields halves places earlier vertex list) in
    both_become nodes s t u fields.out c.args.header halves (with_half c.args.new.now halves) places anchor owner pairs
    (inserted c.args.key.now c.args.word pairs) below list tree fits fits2 differ added.1 (λ kept.
    let put : InsertTells nodes t u anchor owner pairs below c.args.key.now c.args.word (Ok c.in_ok-insert.field-0) =
    subst (λ (n : ℕ). InsertTells n t u anchor owner pairs below c.args.key.now c.args.word (Ok c.in_ok-insert.field-0))
    same (c.in_ok-insert.ensures.tells h owner pairs below ag
    (subst (λ (n : ℕ). IsTree n t anchor owner pairs below) (sym same) kept)) in put.1)
