use Rattle.std.proofs.Common.{◌≡◌, ◌%◌, ℕ, List, None, Some, Option, sym, ap, subst, ◌∙◌}
use Rattle.object_view.specs.Agreement.{stood}
use Rattle.object_view.specs.Layout.{Entry, addr_of, word_of, anchor_bytes}
use Rattle.object_view.specs.Trees.{is_on}
use Rattle.object_view.proofs.Layouts.{some_is}
use Rattle.object_view.proofs.Moving.{onward_then}
use Rattle.object_view.specs.Parts.{Gives}
use Rattle.object_view.specs.Keys.{lookup}
use Rattle.object_view.proofs.Views.{gives_look}
use Rattle.object_btree.proofs.Anchors.{tree_gives}
use Rattle.object_btree.proofs.tree.Tree.get.Goals as goal

pub returns-in_err-bytes-clause-tells : goal.returns-in_err-bytes-clause-tells
returns-in_err-bytes-clause-tells g c h owner pairs at ag tree =
    gives_look c.from_residual.result c.args.self.now.anchor _ _ _ _ _ c.from_residual.ensures.1
    (c.in_err-bytes.ensures.tells h ag) c.requires.served tree.rooted.bytes

pub returns-in_default-clause-tells : goal.returns-in_default-clause-tells
returns-in_default-clause-tells g c h owner pairs at ag tree =
    let bytes : c.as_slice.result.now ≡ anchor_bytes (word_of owner) tree.root.word tree.height =
    c.as_slice.ensures ∙ some_is _ _ (sym ((c.in_ok-bytes.ensures.tells h ag).1) ∙ tree.rooted.bytes) in
    let n : ◌≡◌ {A = Option (ℕ × ℕ × ℕ)} None (Some (word_of owner, tree.root.word, tree.height)) =
    c.in_default.ensures (word_of owner) tree.root.word tree.height tree.rooted.owner_fits tree.rooted.root_fits
    bytes in
    cc

pub returns-clause-tells : goal.returns-clause-tells
returns-clause-tells g c h owner pairs at ag tree =
    let bytes : c.as_slice.result.now ≡ anchor_bytes (word_of owner) tree.root.word tree.height =
    c.as_slice.ensures ∙
    some_is _ _ (sym ((c.in_ok-bytes.ensures.tells h (c.get_at.ensures.onward.agreed h ag)).1)
    ∙ tree.rooted.bytes) in
    let n : ◌≡◌ {A = ℕ × ℕ × ℕ} (c.in-Some.field-0-0, c.in-Some.root, c.in-Some.height)
    (word_of owner, tree.root.word, tree.height) =
    some_is _ _ (c.in-Some.ensures (word_of owner) tree.root.word tree.height tree.rooted.owner_fits
    tree.rooted.root_fits bytes) in
    let root : addr_of tree.root.word ≡ c.addr_of.result =
    ap (λ (p : ℕ × ℕ × ℕ). addr_of p.1) (sym n) ∙ sym c.addr_of.ensures in
    let on : is_on (g.V.View.count c.look.new.view) (c.args.self.now.anchor.region % c.nodes.result) ≡
    is_on (g.V.View.count c.args.view.now)
    (c.args.self.now.anchor.region % g.V.View.count c.args.view.now) =
    ap (λ (n : ℕ). is_on n (c.args.self.now.anchor.region % c.nodes.result))
    c.in_ok-bytes.ensures.onward.steady.count ∙
    ap (λ (n : ℕ). is_on (g.V.View.count c.args.view.now) (c.args.self.now.anchor.region % n))
    c.nodes.ensures.count in
    subst (λ (x : List Entry). Gives c.get_at.result (lookup c.args.key.now x)) (sym tree.pairs_are)
    (tree_gives
    (is_on (g.V.View.count c.args.view.now) (c.args.self.now.anchor.region % g.V.View.count c.args.view.now))
    (is_on (g.V.View.count c.look.new.view) (c.args.self.now.anchor.region % c.nodes.result))
    (stood h (g.V.View.overlay c.args.view.now)) (stood h (g.V.View.overlay c.look.new.view))
    c.args.self.now.anchor (word_of owner) tree.height tree.root c.args.key.now c.get_at.result c.word_of.result
    c.in-Some.height c.addr_of.result tree.rooted on (ap (stood h) c.in_ok-bytes.ensures.overlay)
    (ap (λ (p : ℕ × ℕ × ℕ). p.2) (sym n)) c.word_of.ensures root
    (λ b least lo hi. c.get_at.ensures.tells h b least lo hi ag))

pub returns-clause-onward : goal.returns-clause-onward
returns-clause-onward g c = onward_then _ _ _ _ _ _ _ _ c.in_ok-bytes.ensures.onward c.get_at.ensures.onward
