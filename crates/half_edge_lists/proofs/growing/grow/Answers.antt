use Rattle.std.proofs.Common.{◌≡◌, ◌%◌, ◌<◌, ◌*◌, ℕ, [], sym, ap, subst, ◌∙◌, arith}
use Rattle.std.specs.Prelude.{map}
use Rattle.a1_base.specs.declared.place.Addr.{Addr}
use Rattle.object_view.specs.Agreement.{stood, State}
use Rattle.object_view.specs.Trees.{IsTree, Becomes}
use Rattle.object_view.proofs.Moving.{moves_then, onward_then}
use Rattle.object_view.proofs.Views.{tells_from}
use Rattle.object_btree.specs.Changes.{CreateTells}
use Rattle.object_btree.proofs.Freeing.{served_later}
use Rattle.type_schema.specs.Objects.{half_entry, long_bytes}
use Rattle.half_edge_lists.proofs.Becoming.{long_tells}
use Rattle.half_edge_lists.proofs.growing.grow.Goals as goal

pub returns-in_err-tree-clause-tells : goal.returns-in_err-tree-clause-tells
returns-in_err-tree-clause-tells g c heap halves ag f there many few body =
    tells_from c.from_residual.result _ _ _ c.from_residual.ensures.1 (c.in_err-tree.ensures.tells heap ag)

pub returns-in_err-count-clause-tells : goal.returns-in_err-count-clause-tells
returns-in_err-count-clause-tells g c heap halves ag f there many few body =
    let made = c.in_ok-tree.ensures.tells heap (c.in_err-count.ensures.onward.agreed heap ag) in
    tells_from c.from_residual-in_err-count.result _ _ _ c.from_residual-in_err-count.ensures.1
    (c.in_err-count.ensures.tells heap halves made.0 ag f.fit f.rising few body
    (subst (λ (n : ℕ). IsTree n (stood heap (g.V.View.overlay c.create.new.view)) c.in_ok-tree.tree.anchor c.args.at []
    made.0) (sym c.in_ok-tree.ensures.onward.steady.count) made.1))

pub returns-in_err-count-clause-onward : goal.returns-in_err-count-clause-onward
returns-in_err-count-clause-onward g c =
    onward_then _ _ _ _ _ _ _ _ c.in_ok-tree.ensures.onward c.in_err-count.ensures.onward

pub returns-in_err-bytes-clause-onward : goal.returns-in_err-bytes-clause-onward
returns-in_err-bytes-clause-onward g c =
    onward_then _ _ _ _ _ _ _ _ c.in_ok-tree.ensures.onward c.in_ok-count.ensures.onward

pub returns-clause-tells : goal.returns-clause-tells
returns-clause-tells g c heap halves ag f there many few body =
    let nodes : ℕ = g.V.View.count c.args.view.now in
    let at : Addr = c.args.at in
    let anchor : Addr = c.in_ok-tree.tree.anchor in
    let s : State = stood heap (g.V.View.overlay c.args.view.now) in
    let v : State = stood heap (g.V.View.overlay c.create.new.view) in
    let u : State = stood heap (g.V.View.overlay c.fill.new.view) in
    let t : State = stood heap (g.V.View.overlay c.rewrite.new.view) in
    let two = c.rewrite.ensures.onward.agreed heap ag in
    let made : CreateTells nodes s v anchor at =
    c.in_ok-tree.ensures.tells heap (c.in_ok-count.ensures.onward.agreed heap two) in
    let full = c.in_ok-count.ensures.tells heap halves made.0 two f.fit f.rising few body
    (subst (λ (n : ℕ). IsTree n v anchor at [] made.0) (sym c.in_ok-tree.ensures.onward.steady.count) made.1) in
    let b : Becomes nodes v u anchor at made.0 (map half_entry halves) =
    subst (λ (n : ℕ). Becomes n v u anchor at made.0 (map half_entry halves)) c.in_ok-tree.ensures.onward.steady.count
    full.1 in
    let home : anchor.region % nodes ≡ at.region % nodes =
    c.in_ok-tree.ensures.place.home ∙ ap (λ (n : ℕ). at.region % n) c.nodes.ensures.count in
    let wide : anchor.region < 1048576 * nodes = c.in_ok-tree.ensures.place.region in
    let low : anchor.offset < 4096 = c.in_ok-tree.ensures.place.offset in
    let few_nodes = c.nodes.ensures.few in
    let number = c.nodes.ensures.count in
    long_tells nodes s u t at c.args.owner anchor halves [] c.rewrite.result _ there (λ i. i) f (omega (arith, many))
    (omega (arith, few)) (omega (arith, wide, few_nodes, number), omega (arith, low)) home
    (record { now = b.now; tree = b.tree; moves = moves_then s v u [] made.0 b.now made.2 b.moves })
    (c.as_slice.ensures ∙ c.in_ok-bytes.ensures
    ∙ ap (λ (n : ℕ). long_bytes c.args.owner n anchor) full.0)
    (c.rewrite.ensures.tells heap ag (served_later _ _ _ _ at
    (c.in_ok-count.ensures.onward.steady.reaches ∙ c.in_ok-tree.ensures.onward.steady.reaches)
    (c.in_ok-count.ensures.onward.steady.count ∙ c.in_ok-tree.ensures.onward.steady.count) c.requires.served))

pub returns-clause-onward : goal.returns-clause-onward
returns-clause-onward g c =
    onward_then _ _ _ _ _ _ _ _
    (onward_then _ _ _ _ _ _ _ _ c.in_ok-tree.ensures.onward c.in_ok-count.ensures.onward)
    c.rewrite.ensures.onward
