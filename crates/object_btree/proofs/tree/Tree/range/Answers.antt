use Rattle.std.proofs.Common.{◌≡◌, inl, inr, ◌%◌, Bool, true, List, ℕ, Option, None, Some, sym, ap, subst, ◌∙◌}
use Rattle.std.specs.Prelude.{map, take}
use Rattle.a1_base.specs.declared.place.Addr.{Addr}
use Rattle.object_view.specs.Agreement.{stood, State}
use Rattle.object_view.specs.Layout.{Entry, entries, addr_of, word_of, node_bytes, anchor_bytes}
use Rattle.object_view.specs.Parts.{ReadsOnly, Tells}
use Rattle.object_view.specs.Trees.{spell, is_on, IsRooted}
use Rattle.object_view.proofs.Layouts.{some_is}
use Rattle.object_view.proofs.Moving.{onward_then}
use Rattle.object_btree.specs.Intervals.{between}
use Rattle.object_btree.specs.Levels.{Visits, RangeReads}
use Rattle.object_view.proofs.Views.{tells_from, look_err, on_served}
use Rattle.object_btree.proofs.Freeing.{served_later}
use Rattle.object_btree.proofs.RangeSteps.{tree_ranges, tree_visits}
use Rattle.object_view.proofs.Reading.{reads_weaker, reads_then}
use Rattle.object_btree.proofs.tree.Tree.range.Goals as goal

pub returns-in_err-bytes-clause-tells : goal.returns-in_err-bytes-clause-tells
returns-in_err-bytes-clause-tells g c h owner pairs ps ag tree =
    let anchor : Addr = c.args.self.now.anchor in
    let nodes : ℕ = g.V.View.count c.args.view.now in
    let R : Addr → Bool = is_on nodes (anchor.region % nodes) in
    let s : State = stood h (g.V.View.overlay c.args.view.now) in
    let w : IsRooted R s anchor (word_of owner) tree.height tree.root = tree.rooted in
    tells_from c.from_residual.result _ _ _ c.from_residual.ensures.1
    (look_err {A = Bool} anchor c.in_err-bytes.field-0.0 _ _ _ (λ x. Bool) (c.in_err-bytes.ensures.tells h ag)
    c.requires.served w.bytes)

pub returns-in_err-bytes-clause-reads : goal.returns-in_err-bytes-clause-reads
returns-in_err-bytes-clause-reads g c h owner pairs ps ag tree =
    let anchor : Addr = c.args.self.now.anchor in
    let nodes : ℕ = g.V.View.count c.args.view.now in
    let R : Addr → Bool = is_on nodes (anchor.region % nodes) in
    let s : State = stood h (g.V.View.overlay c.args.view.now) in
    let w : IsRooted R s anchor (word_of owner) tree.height tree.root = tree.rooted in
    let P : Addr → Type 0 = RangeReads anchor tree.height tree.root c.args.from.now c.args.to.now c.args.limit in
    let first : ReadsOnly P (g.V.View.trace c.args.view.now) (g.V.View.trace c.look.new.view) =
    reads_weaker (λ a. a ≡ anchor) P (g.V.View.trace c.args.view.now) (g.V.View.trace c.look.new.view)
    (λ a e. inl e) c.look.ensures.reads in
    first

pub returns-in_default-clause-tells : goal.returns-in_default-clause-tells
returns-in_default-clause-tells g c h owner pairs ps ag tree =
    let anchor : Addr = c.args.self.now.anchor in
    let nodes : ℕ = g.V.View.count c.args.view.now in
    let R : Addr → Bool = is_on nodes (anchor.region % nodes) in
    let s : State = stood h (g.V.View.overlay c.args.view.now) in
    let w : IsRooted R s anchor (word_of owner) tree.height tree.root = tree.rooted in
    let bytes : c.as_slice.result.now ≡ anchor_bytes (word_of owner) tree.root.word tree.height =
    c.as_slice.ensures ∙ some_is _ _ (sym ((c.in_ok-bytes.ensures.tells h (ag)).1) ∙ w.bytes) in
    let n : ◌≡◌ {A = Option (ℕ × ℕ × ℕ)} None (Some (word_of owner, tree.root.word, tree.height)) =
    c.in_default.ensures (word_of owner) tree.root.word tree.height w.owner_fits w.root_fits bytes in
    cc

pub returns-in_default-clause-reads : goal.returns-in_default-clause-reads
returns-in_default-clause-reads g c h owner pairs ps ag tree =
    let anchor : Addr = c.args.self.now.anchor in
    let nodes : ℕ = g.V.View.count c.args.view.now in
    let R : Addr → Bool = is_on nodes (anchor.region % nodes) in
    let s : State = stood h (g.V.View.overlay c.args.view.now) in
    let w : IsRooted R s anchor (word_of owner) tree.height tree.root = tree.rooted in
    let P : Addr → Type 0 = RangeReads anchor tree.height tree.root c.args.from.now c.args.to.now c.args.limit in
    let first : ReadsOnly P (g.V.View.trace c.args.view.now) (g.V.View.trace c.look.new.view) =
    reads_weaker (λ a. a ≡ anchor) P (g.V.View.trace c.args.view.now) (g.V.View.trace c.look.new.view)
    (λ a e. inl e) c.look.ensures.reads in
    first

pub returns-in_err-node-clause-tells : goal.returns-in_err-node-clause-tells
returns-in_err-node-clause-tells g c h owner pairs ps ag tree =
    let anchor : Addr = c.args.self.now.anchor in
    let nodes : ℕ = g.V.View.count c.args.view.now in
    let R : Addr → Bool = is_on nodes (anchor.region % nodes) in
    let s : State = stood h (g.V.View.overlay c.args.view.now) in
    let w : IsRooted R s anchor (word_of owner) tree.height tree.root = tree.rooted in
    let bytes : c.as_slice.result.now ≡ anchor_bytes (word_of owner) tree.root.word tree.height =
    c.as_slice.ensures ∙ some_is _ _ (sym ((c.in_ok-bytes.ensures.tells h (c.in_err-node.ensures.onward.agreed h ag)).1)
    ∙ w.bytes) in
    let n : ◌≡◌ {A = ℕ × ℕ × ℕ} (c.in-Some.field-0-0, c.in-Some.root, c.in-Some.height)
    (word_of owner, tree.root.word, tree.height) =
    some_is _ _ (c.in-Some.ensures (word_of owner) tree.root.word tree.height w.owner_fits w.root_fits bytes) in
    let at : c.addr_of-at.result ≡ addr_of tree.root.word =
    c.addr_of-at.ensures ∙ ap (λ (p : ℕ × ℕ × ℕ). addr_of p.1) n in
    let there : stood h (g.V.View.overlay c.look.new.view) c.addr_of-at.result
    ≡ Some (node_bytes (word_of anchor) (map (spell tree.height) tree.root.items)) =
    ap (λ o. stood h o c.addr_of-at.result) c.in_ok-bytes.ensures.overlay ∙ ap s at ∙ w.sub.node.bytes in
    let served : g.V.View.reaches c.look.new.view (c.addr_of-at.result.region % g.V.View.count c.look.new.view)
    ≡ true =
    served_later (g.V.View.reaches c.args.view.now) (g.V.View.reaches c.look.new.view) nodes
    (g.V.View.count c.look.new.view) c.addr_of-at.result c.in_ok-bytes.ensures.onward.steady.reaches
    c.in_ok-bytes.ensures.onward.steady.count
    (on_served (g.V.View.reaches c.args.view.now) nodes (anchor.region % nodes) c.addr_of-at.result
    (ap R at ∙ w.sub.node.reached) c.requires.served) in
    tells_from c.from_residual-in_err-node.result _ _ _ c.from_residual-in_err-node.ensures.1
    (look_err {A = Bool} c.addr_of-at.result c.in_err-node.field-0.0 _ _ _ (λ x. Bool)
    (c.in_err-node.ensures.tells h ag) served there)

pub returns-in_err-node-clause-reads : goal.returns-in_err-node-clause-reads
returns-in_err-node-clause-reads g c h owner pairs ps ag tree =
    let anchor : Addr = c.args.self.now.anchor in
    let nodes : ℕ = g.V.View.count c.args.view.now in
    let R : Addr → Bool = is_on nodes (anchor.region % nodes) in
    let s : State = stood h (g.V.View.overlay c.args.view.now) in
    let w : IsRooted R s anchor (word_of owner) tree.height tree.root = tree.rooted in
    let bytes : c.as_slice.result.now ≡ anchor_bytes (word_of owner) tree.root.word tree.height =
    c.as_slice.ensures ∙ some_is _ _ (sym ((c.in_ok-bytes.ensures.tells h (c.in_err-node.ensures.onward.agreed h ag)).1)
    ∙ w.bytes) in
    let n : ◌≡◌ {A = ℕ × ℕ × ℕ} (c.in-Some.field-0-0, c.in-Some.root, c.in-Some.height)
    (word_of owner, tree.root.word, tree.height) =
    some_is _ _ (c.in-Some.ensures (word_of owner) tree.root.word tree.height w.owner_fits w.root_fits bytes) in
    let at : c.addr_of-at.result ≡ addr_of tree.root.word =
    c.addr_of-at.ensures ∙ ap (λ (p : ℕ × ℕ × ℕ). addr_of p.1) n in
    let P : Addr → Type 0 = RangeReads anchor tree.height tree.root c.args.from.now c.args.to.now c.args.limit in
    let first : ReadsOnly P (g.V.View.trace c.args.view.now) (g.V.View.trace c.look.new.view) =
    reads_weaker (λ a. a ≡ anchor) P (g.V.View.trace c.args.view.now) (g.V.View.trace c.look.new.view)
    (λ a e. inl e) c.look.ensures.reads in
    let second : ReadsOnly P (g.V.View.trace c.look.new.view) (g.V.View.trace c.look-2.new.view) =
    reads_weaker (λ a. a ≡ c.addr_of-at.result) P (g.V.View.trace c.look.new.view)
    (g.V.View.trace c.look-2.new.view) (λ a e. inr (inl (e ∙ at))) c.look-2.ensures.reads in
    let two : ReadsOnly P (g.V.View.trace c.args.view.now) (g.V.View.trace c.look-2.new.view) =
    reads_then P (g.V.View.trace c.args.view.now) (g.V.View.trace c.look.new.view)
    (g.V.View.trace c.look-2.new.view) first second in
    two

pub returns-in_default-node_of-clause-tells : goal.returns-in_default-node_of-clause-tells
returns-in_default-node_of-clause-tells g c h owner pairs ps ag tree =
    let anchor : Addr = c.args.self.now.anchor in
    let nodes : ℕ = g.V.View.count c.args.view.now in
    let R : Addr → Bool = is_on nodes (anchor.region % nodes) in
    let s : State = stood h (g.V.View.overlay c.args.view.now) in
    let w : IsRooted R s anchor (word_of owner) tree.height tree.root = tree.rooted in
    let bytes : c.as_slice.result.now ≡ anchor_bytes (word_of owner) tree.root.word tree.height =
    c.as_slice.ensures ∙ some_is _ _ (sym ((c.in_ok-bytes.ensures.tells h (c.in_ok-node.ensures.onward.agreed h ag)).1)
    ∙ w.bytes) in
    let n : ◌≡◌ {A = ℕ × ℕ × ℕ} (c.in-Some.field-0-0, c.in-Some.root, c.in-Some.height)
    (word_of owner, tree.root.word, tree.height) =
    some_is _ _ (c.in-Some.ensures (word_of owner) tree.root.word tree.height w.owner_fits w.root_fits bytes) in
    let at : c.addr_of-at.result ≡ addr_of tree.root.word =
    c.addr_of-at.ensures ∙ ap (λ (p : ℕ × ℕ × ℕ). addr_of p.1) n in
    let there : stood h (g.V.View.overlay c.look.new.view) c.addr_of-at.result
    ≡ Some (node_bytes (word_of anchor) (map (spell tree.height) tree.root.items)) =
    ap (λ o. stood h o c.addr_of-at.result) c.in_ok-bytes.ensures.overlay ∙ ap s at ∙ w.sub.node.bytes in
    let same : c.as_slice-2.result.now ≡ node_bytes c.word_of.result (map (spell tree.height) tree.root.items) =
    c.as_slice-2.ensures ∙ some_is _ _ (sym ((c.in_ok-node.ensures.tells h (ag)).1) ∙ there)
    ∙ ap (λ (o : ℕ). node_bytes o (map (spell tree.height) tree.root.items)) (sym c.word_of.ensures) in
    c.in_default-node_of.ensures (map (spell tree.height) tree.root.items) same

pub returns-in_default-node_of-clause-reads : goal.returns-in_default-node_of-clause-reads
returns-in_default-node_of-clause-reads g c h owner pairs ps ag tree =
    let anchor : Addr = c.args.self.now.anchor in
    let nodes : ℕ = g.V.View.count c.args.view.now in
    let R : Addr → Bool = is_on nodes (anchor.region % nodes) in
    let s : State = stood h (g.V.View.overlay c.args.view.now) in
    let w : IsRooted R s anchor (word_of owner) tree.height tree.root = tree.rooted in
    let bytes : c.as_slice.result.now ≡ anchor_bytes (word_of owner) tree.root.word tree.height =
    c.as_slice.ensures ∙ some_is _ _ (sym ((c.in_ok-bytes.ensures.tells h (c.in_ok-node.ensures.onward.agreed h ag)).1)
    ∙ w.bytes) in
    let n : ◌≡◌ {A = ℕ × ℕ × ℕ} (c.in-Some.field-0-0, c.in-Some.root, c.in-Some.height)
    (word_of owner, tree.root.word, tree.height) =
    some_is _ _ (c.in-Some.ensures (word_of owner) tree.root.word tree.height w.owner_fits w.root_fits bytes) in
    let at : c.addr_of-at.result ≡ addr_of tree.root.word =
    c.addr_of-at.ensures ∙ ap (λ (p : ℕ × ℕ × ℕ). addr_of p.1) n in
    let P : Addr → Type 0 = RangeReads anchor tree.height tree.root c.args.from.now c.args.to.now c.args.limit in
    let first : ReadsOnly P (g.V.View.trace c.args.view.now) (g.V.View.trace c.look.new.view) =
    reads_weaker (λ a. a ≡ anchor) P (g.V.View.trace c.args.view.now) (g.V.View.trace c.look.new.view)
    (λ a e. inl e) c.look.ensures.reads in
    let second : ReadsOnly P (g.V.View.trace c.look.new.view) (g.V.View.trace c.look-2.new.view) =
    reads_weaker (λ a. a ≡ c.addr_of-at.result) P (g.V.View.trace c.look.new.view)
    (g.V.View.trace c.look-2.new.view) (λ a e. inr (inl (e ∙ at))) c.look-2.ensures.reads in
    let two : ReadsOnly P (g.V.View.trace c.args.view.now) (g.V.View.trace c.look-2.new.view) =
    reads_then P (g.V.View.trace c.args.view.now) (g.V.View.trace c.look.new.view)
    (g.V.View.trace c.look-2.new.view) first second in
    two

pub returns-clause-tells : goal.returns-clause-tells
returns-clause-tells g c h owner pairs ps ag tree =
    let anchor : Addr = c.args.self.now.anchor in
    let nodes : ℕ = g.V.View.count c.args.view.now in
    let R : Addr → Bool = is_on nodes (anchor.region % nodes) in
    let s : State = stood h (g.V.View.overlay c.args.view.now) in
    let w : IsRooted R s anchor (word_of owner) tree.height tree.root = tree.rooted in
    let bytes : c.as_slice.result.now ≡ anchor_bytes (word_of owner) tree.root.word tree.height =
    c.as_slice.ensures ∙ some_is _ _
    (sym ((c.in_ok-bytes.ensures.tells h
    (c.in_ok-node.ensures.onward.agreed h (c.range_in.ensures.onward.agreed h ag))).1) ∙ w.bytes) in
    let n : ◌≡◌ {A = ℕ × ℕ × ℕ} (c.in-Some.field-0-0, c.in-Some.root, c.in-Some.height)
    (word_of owner, tree.root.word, tree.height) =
    some_is _ _ (c.in-Some.ensures (word_of owner) tree.root.word tree.height w.owner_fits w.root_fits bytes) in
    let at : c.addr_of-at.result ≡ addr_of tree.root.word =
    c.addr_of-at.ensures ∙ ap (λ (p : ℕ × ℕ × ℕ). addr_of p.1) n in
    let there : stood h (g.V.View.overlay c.look.new.view) c.addr_of-at.result
    ≡ Some (node_bytes (word_of anchor) (map (spell tree.height) tree.root.items)) =
    ap (λ o. stood h o c.addr_of-at.result) c.in_ok-bytes.ensures.overlay ∙ ap s at ∙ w.sub.node.bytes in
    let same : c.as_slice-2.result.now ≡ node_bytes c.word_of.result (map (spell tree.height) tree.root.items) =
    c.as_slice-2.ensures ∙ some_is _ _
    (sym ((c.in_ok-node.ensures.tells h (c.range_in.ensures.onward.agreed h ag)).1) ∙ there)
    ∙ ap (λ (o : ℕ). node_bytes o (map (spell tree.height) tree.root.items)) (sym c.word_of.ensures) in
    let body : c.in-Some-node_of.body.now ≡ entries (map (spell tree.height) tree.root.items) =
    c.in-Some-node_of.ensures (map (spell tree.height) tree.root.items) same in
    let on : is_on (g.V.View.count c.look-2.new.view) (anchor.region % c.nodes.result) ≡ R =
    ap (λ (x : ℕ). is_on x (anchor.region % c.nodes.result))
    (c.in_ok-node.ensures.onward.steady.count ∙ c.in_ok-bytes.ensures.onward.steady.count)
    ∙ ap (λ (x : ℕ). is_on nodes (anchor.region % x)) c.nodes.ensures.count in
    let stays : stood h (g.V.View.overlay c.look-2.new.view) ≡ s =
    ap (stood h) (c.in_ok-node.ensures.overlay ∙ c.in_ok-bytes.ensures.overlay) in
    let high : tree.height ≡ c.in-Some.height = ap (λ (p : ℕ × ℕ × ℕ). p.2) (sym n) in
    subst (λ (x : List Entry). Tells c.range_in.result (λ v. v.items
    ≡ take c.args.limit (between c.args.from.now c.args.to.now x))) (sym tree.pairs_are)
    (tree_ranges R (is_on (g.V.View.count c.look-2.new.view) (anchor.region % c.nodes.result)) s
    (stood h (g.V.View.overlay c.look-2.new.view)) anchor (word_of owner) tree.height tree.root c.args.from.now
    c.args.to.now c.args.limit c.new.result.items c.range_in.result (λ v. v.items) c.word_of.result c.in-Some.height
    c.in-Some-node_of.body.now w on stays high c.word_of.ensures c.new.ensures.items body
    (λ xs lo hi. c.range_in.ensures.tells h xs lo hi ag))

pub returns-clause-reads : goal.returns-clause-reads
returns-clause-reads g c h owner pairs ps ag tree =
    let anchor : Addr = c.args.self.now.anchor in
    let nodes : ℕ = g.V.View.count c.args.view.now in
    let R : Addr → Bool = is_on nodes (anchor.region % nodes) in
    let s : State = stood h (g.V.View.overlay c.args.view.now) in
    let w : IsRooted R s anchor (word_of owner) tree.height tree.root = tree.rooted in
    let bytes : c.as_slice.result.now ≡ anchor_bytes (word_of owner) tree.root.word tree.height =
    c.as_slice.ensures ∙ some_is _ _
    (sym ((c.in_ok-bytes.ensures.tells h
    (c.in_ok-node.ensures.onward.agreed h (c.range_in.ensures.onward.agreed h ag))).1) ∙ w.bytes) in
    let n : ◌≡◌ {A = ℕ × ℕ × ℕ} (c.in-Some.field-0-0, c.in-Some.root, c.in-Some.height)
    (word_of owner, tree.root.word, tree.height) =
    some_is _ _ (c.in-Some.ensures (word_of owner) tree.root.word tree.height w.owner_fits w.root_fits bytes) in
    let at : c.addr_of-at.result ≡ addr_of tree.root.word =
    c.addr_of-at.ensures ∙ ap (λ (p : ℕ × ℕ × ℕ). addr_of p.1) n in
    let there : stood h (g.V.View.overlay c.look.new.view) c.addr_of-at.result
    ≡ Some (node_bytes (word_of anchor) (map (spell tree.height) tree.root.items)) =
    ap (λ o. stood h o c.addr_of-at.result) c.in_ok-bytes.ensures.overlay ∙ ap s at ∙ w.sub.node.bytes in
    let same : c.as_slice-2.result.now ≡ node_bytes c.word_of.result (map (spell tree.height) tree.root.items) =
    c.as_slice-2.ensures ∙ some_is _ _
    (sym ((c.in_ok-node.ensures.tells h (c.range_in.ensures.onward.agreed h ag)).1) ∙ there)
    ∙ ap (λ (o : ℕ). node_bytes o (map (spell tree.height) tree.root.items)) (sym c.word_of.ensures) in
    let body : c.in-Some-node_of.body.now ≡ entries (map (spell tree.height) tree.root.items) =
    c.in-Some-node_of.ensures (map (spell tree.height) tree.root.items) same in
    let on : is_on (g.V.View.count c.look-2.new.view) (anchor.region % c.nodes.result) ≡ R =
    ap (λ (x : ℕ). is_on x (anchor.region % c.nodes.result))
    (c.in_ok-node.ensures.onward.steady.count ∙ c.in_ok-bytes.ensures.onward.steady.count)
    ∙ ap (λ (x : ℕ). is_on nodes (anchor.region % x)) c.nodes.ensures.count in
    let stays : stood h (g.V.View.overlay c.look-2.new.view) ≡ s =
    ap (stood h) (c.in_ok-node.ensures.overlay ∙ c.in_ok-bytes.ensures.overlay) in
    let high : tree.height ≡ c.in-Some.height = ap (λ (p : ℕ × ℕ × ℕ). p.2) (sym n) in
    let P : Addr → Type 0 = RangeReads anchor tree.height tree.root c.args.from.now c.args.to.now c.args.limit in
    let first : ReadsOnly P (g.V.View.trace c.args.view.now) (g.V.View.trace c.look.new.view) =
    reads_weaker (λ a. a ≡ anchor) P (g.V.View.trace c.args.view.now) (g.V.View.trace c.look.new.view)
    (λ a e. inl e) c.look.ensures.reads in
    let second : ReadsOnly P (g.V.View.trace c.look.new.view) (g.V.View.trace c.look-2.new.view) =
    reads_weaker (λ a. a ≡ c.addr_of-at.result) P (g.V.View.trace c.look.new.view)
    (g.V.View.trace c.look-2.new.view) (λ a e. inr (inl (e ∙ at))) c.look-2.ensures.reads in
    let two : ReadsOnly P (g.V.View.trace c.args.view.now) (g.V.View.trace c.look-2.new.view) =
    reads_then P (g.V.View.trace c.args.view.now) (g.V.View.trace c.look.new.view)
    (g.V.View.trace c.look-2.new.view) first second in
    let old = g.V.View.trace c.look-2.new.view in
    let new = g.V.View.trace c.range_in.new.view in
    reads_then P (g.V.View.trace c.args.view.now) old new two
    (reads_weaker (λ a. Visits tree.height c.args.from.now c.args.to.now c.args.limit tree.root.items a) P old new
    (λ a v. inr (inr v))
    (tree_visits R (is_on (g.V.View.count c.look-2.new.view) (anchor.region % c.nodes.result)) s
    (stood h (g.V.View.overlay c.look-2.new.view)) anchor (word_of owner) tree.height tree.root c.args.from.now
    c.args.to.now c.args.limit c.new.result.items c.word_of.result c.in-Some.height c.in-Some-node_of.body.now old
    new w on stays high c.word_of.ensures c.new.ensures.items body
    (λ xs lo hi. c.range_in.ensures.reads h xs lo hi ag)))

pub returns-in_err-node-clause-onward : goal.returns-in_err-node-clause-onward
returns-in_err-node-clause-onward g c = onward_then _ _ _ _ _ _ _ _
    c.in_ok-bytes.ensures.onward c.in_err-node.ensures.onward

pub returns-in_default-node_of-clause-onward : goal.returns-in_default-node_of-clause-onward
returns-in_default-node_of-clause-onward g c = onward_then _ _ _ _ _ _ _ _
    c.in_ok-bytes.ensures.onward c.in_ok-node.ensures.onward

pub returns-clause-onward : goal.returns-clause-onward
returns-clause-onward g c = onward_then _ _ _ _ _ _ _ _
    (onward_then _ _ _ _ _ _ _ _
    c.in_ok-bytes.ensures.onward c.in_ok-node.ensures.onward) c.range_in.ensures.onward
