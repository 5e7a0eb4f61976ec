use Rattle.std.proofs.Common.{◌≡◌, ◌%◌, ◌≤◌, ℕ, Bool, None, Some, Option, [], Ok, Err, sym, ap, subst, ◌∙◌, arith}
use Rattle.std.specs.Prelude.{map}
use Rattle.a1_base.specs.declared.place.Addr.{Addr}
use Rattle.object_view.specs.Agreement.{Agrees, State, stood}
use Rattle.object_view.specs.Layout.{addr_of, word_of, anchor_bytes}
use Rattle.object_view.specs.Trees.{is_on, root_least, spell}
use Rattle.object_btree.specs.Steps.{Removes}
use Rattle.object_view.specs.Parts.{Tells}
use Rattle.object_view.proofs.Layouts.{some_is}
use Rattle.object_view.proofs.Moving.{onward_then}
use Rattle.object_view.proofs.Views.{some_not_none, tells_from}
use Rattle.object_view.proofs.Views.{tells_look}
use Rattle.object_btree.proofs.Anchors.{tree_removes, tree_firm, tree_leaf, root_at, tree_lower}
use Rattle.object_btree.proofs.Outcomes.{taken_tells}
use Rattle.object_btree.proofs.tree.Tree.remove.Goals as goal
use Rattle.object_btree.proofs.tree.Tree.remove.Goals.{then-taken+then-height-gt0+in_ok-lower, else-taken, else-taken-via-then-taken+else-height-gt0, else-taken-via-else-taken}

pub returns-in_err-bytes-clause-tells : goal.returns-in_err-bytes-clause-tells
returns-in_err-bytes-clause-tells g c h owner pairs at ag tree =
    tells_look c.from_residual.result c.args.self.now.anchor _ _ _ _ c.from_residual.ensures.1
    (c.in_err-bytes.ensures.tells h ag) c.requires.served (some_not_none _ _ tree.rooted.bytes)

pub returns-in_default-clause-tells : goal.returns-in_default-clause-tells
returns-in_default-clause-tells g c h owner pairs at ag tree =
    let bytes : c.as_slice.result.now ≡ anchor_bytes (word_of owner) tree.root.word tree.height =
    c.as_slice.ensures ∙ some_is _ _ (sym ((c.in_ok-bytes.ensures.tells h ag).1) ∙ tree.rooted.bytes) in
    let n : ◌≡◌ {A = Option (ℕ × ℕ × ℕ)} None (Some (word_of owner, tree.root.word, tree.height)) =
    c.in_default.ensures (word_of owner) tree.root.word tree.height tree.rooted.owner_fits tree.rooted.root_fits bytes
    in
    cc

pub returns-in_err-taken-clause-onward : goal.returns-in_err-taken-clause-onward
returns-in_err-taken-clause-onward g c =
    onward_then _ _ _ _ _ _ _ _ c.in_ok-bytes.ensures.onward c.in_err-taken.ensures.onward

pub returns-in_err-lower-clause-onward : goal.returns-in_err-lower-clause-onward
returns-in_err-lower-clause-onward g c =
    onward_then _ _ _ _ _ _ _ _
    (onward_then _ _ _ _ _ _ _ _ c.in_ok-bytes.ensures.onward c.in_ok-taken.ensures.onward)
    c.in_err-lower.ensures.onward

pub returns-clause-onward : goal.returns-clause-onward
returns-clause-onward g c =
    let first = onward_then _ _ _ _ _ _ _ _ c.in_ok-bytes.ensures.onward c.in_ok-taken.ensures.onward in
    elim c.if-taken.branch [
      | then-taken+then-height-gt0+in_ok-lower w ↦
          rw (w.view-is) (onward_then _ _ _ _ _ _ _ _ first w.in_ok-lower.ensures.onward)
      | else-taken w ↦ rw (w.view-is) first
    ]

pub returns-in_err-taken-clause-tells : goal.returns-in_err-taken-clause-tells
returns-in_err-taken-clause-tells g c h owner pairs at ag tree =
    let R : Addr → Bool =
    is_on (g.V.View.count c.args.view.now) (c.args.self.now.anchor.region % g.V.View.count c.args.view.now) in
    let s : State = stood h (g.V.View.overlay c.args.view.now) in
    let u : State = stood h (g.V.View.overlay c.remove_at.new.view) in
    let mid : Agrees h (g.V.View.trace c.remove_at.new.view) (g.V.View.overlay c.remove_at.new.view) = ag in
    let bytes : c.as_slice.result.now ≡ anchor_bytes (word_of owner) tree.root.word tree.height =
    c.as_slice.ensures ∙
    some_is _ _ (sym ((c.in_ok-bytes.ensures.tells h (c.in_err-taken.ensures.onward.agreed h mid)).1) ∙
    tree.rooted.bytes) in
    let n : ◌≡◌ {A = ℕ × ℕ × ℕ} (c.in-Some.owner, c.in-Some.root, c.in-Some.height)
    (word_of owner, tree.root.word, tree.height) =
    some_is _ _ (c.in-Some.ensures (word_of owner) tree.root.word tree.height tree.rooted.owner_fits
    tree.rooted.root_fits bytes) in
    let root : addr_of tree.root.word ≡ c.addr_of.result =
    ap (λ (p : ℕ × ℕ × ℕ). addr_of p.1) (sym n) ∙ sym c.addr_of.ensures in
    let high : tree.height ≡ c.in-Some.height = ap (λ (p : ℕ × ℕ × ℕ). p.2) (sym n) in
    let on : is_on (g.V.View.count c.look.new.view) (c.args.self.now.anchor.region % c.nodes.result) ≡ R =
    ap (λ (n : ℕ). is_on n (c.args.self.now.anchor.region % c.nodes.result))
    c.in_ok-bytes.ensures.onward.steady.count ∙
    ap (λ (n : ℕ). is_on (g.V.View.count c.args.view.now) (c.args.self.now.anchor.region % n))
    c.nodes.ensures.count in
    let w : Tells (Err c.in_err-taken.field-0.0) (λ taken. Removes R s u (word_of c.args.self.now.anchor)
    (root_least tree.height) tree.height (Some []) tree.root None c.args.key.now taken) =
    tree_removes R (is_on (g.V.View.count c.look.new.view) (c.args.self.now.anchor.region % c.nodes.result)) s
    (stood h (g.V.View.overlay c.look.new.view)) u c.args.self.now.anchor (word_of owner) tree.height tree.root
    c.args.key.now (Err c.in_err-taken.field-0.0) c.word_of.result c.in-Some.height c.addr_of.result tree.rooted on
    (ap (stood h) c.in_ok-bytes.ensures.overlay) high c.word_of.ensures root
    (λ b least lo hi. c.in_err-taken.ensures.tells h b least lo hi mid) in
    tells_from c.from_residual-in_err-taken.result _ _ _ c.from_residual-in_err-taken.ensures.1 w

pub returns-in_err-lower-clause-tells : goal.returns-in_err-lower-clause-tells
returns-in_err-lower-clause-tells g c h owner pairs at ag tree =
    let R : Addr → Bool =
    is_on (g.V.View.count c.args.view.now) (c.args.self.now.anchor.region % g.V.View.count c.args.view.now) in
    let s : State = stood h (g.V.View.overlay c.args.view.now) in
    let u : State = stood h (g.V.View.overlay c.remove_at.new.view) in
    let mid : Agrees h (g.V.View.trace c.remove_at.new.view) (g.V.View.overlay c.remove_at.new.view) =
    c.in_err-lower.ensures.onward.agreed h ag in
    let bytes : c.as_slice.result.now ≡ anchor_bytes (word_of owner) tree.root.word tree.height =
    c.as_slice.ensures ∙
    some_is _ _ (sym ((c.in_ok-bytes.ensures.tells h (c.in_ok-taken.ensures.onward.agreed h mid)).1) ∙
    tree.rooted.bytes) in
    let n : ◌≡◌ {A = ℕ × ℕ × ℕ} (c.in-Some.owner, c.in-Some.root, c.in-Some.height)
    (word_of owner, tree.root.word, tree.height) =
    some_is _ _ (c.in-Some.ensures (word_of owner) tree.root.word tree.height tree.rooted.owner_fits
    tree.rooted.root_fits bytes) in
    let root : addr_of tree.root.word ≡ c.addr_of.result =
    ap (λ (p : ℕ × ℕ × ℕ). addr_of p.1) (sym n) ∙ sym c.addr_of.ensures in
    let high : tree.height ≡ c.in-Some.height = ap (λ (p : ℕ × ℕ × ℕ). p.2) (sym n) in
    let on : is_on (g.V.View.count c.look.new.view) (c.args.self.now.anchor.region % c.nodes.result) ≡ R =
    ap (λ (n : ℕ). is_on n (c.args.self.now.anchor.region % c.nodes.result))
    c.in_ok-bytes.ensures.onward.steady.count ∙
    ap (λ (n : ℕ). is_on (g.V.View.count c.args.view.now) (c.args.self.now.anchor.region % n))
    c.nodes.ensures.count in
    let w : Tells (Ok c.in_ok-taken.taken) (λ taken. Removes R s u (word_of c.args.self.now.anchor)
    (root_least tree.height) tree.height (Some []) tree.root None c.args.key.now taken) =
    tree_removes R (is_on (g.V.View.count c.look.new.view) (c.args.self.now.anchor.region % c.nodes.result)) s
    (stood h (g.V.View.overlay c.look.new.view)) u c.args.self.now.anchor (word_of owner) tree.height tree.root
    c.args.key.now (Ok c.in_ok-taken.taken) c.word_of.result c.in-Some.height c.addr_of.result tree.rooted on
    (ap (stood h) c.in_ok-bytes.ensures.overlay) high c.word_of.ensures root
    (λ b least lo hi. c.in_ok-taken.ensures.tells h b least lo hi mid) in
    let on2 : is_on (g.V.View.count c.remove_at.new.view) (c.args.self.now.anchor.region % c.nodes.result) ≡ R =
    ap (λ (n : ℕ). is_on n (c.args.self.now.anchor.region % c.nodes.result))
    c.in_ok-taken.ensures.onward.steady.count ∙ on in
    let more = c.if-height-gt0.true in
    let below : addr_of tree.root.word ≡ c.addr_of-then-height-gt0.result =
    ap (λ (p : ℕ × ℕ × ℕ). addr_of p.1) (sym n) ∙ sym c.addr_of-then-height-gt0.ensures in
    let at_root = root_at R (is_on (g.V.View.count c.remove_at.new.view)
    (c.args.self.now.anchor.region % c.nodes.result))
    s u c.args.self.now.anchor c.addr_of-then-height-gt0.result (word_of owner) tree.height tree.root c.args.key.now
    c.in_ok-taken.taken tree.rooted on2 w (omega (arith, high, more)) below in
    tells_from c.from_residual-in_err-lower.result _ _ _ c.from_residual-in_err-lower.ensures.1
    (c.in_err-lower.ensures.tells h (map (spell tree.height) w.shrunk.items) ag at_root (omega (arith, more)))

pub returns-clause-tells : goal.returns-clause-tells
returns-clause-tells g c h owner pairs at ag tree =
    let R : Addr → Bool =
    is_on (g.V.View.count c.args.view.now) (c.args.self.now.anchor.region % g.V.View.count c.args.view.now) in
    let s : State = stood h (g.V.View.overlay c.args.view.now) in
    let u : State = stood h (g.V.View.overlay c.remove_at.new.view) in
    let mid : Agrees h (g.V.View.trace c.remove_at.new.view) (g.V.View.overlay c.remove_at.new.view) =
    elim c.if-taken.branch [
      | then-taken+then-height-gt0+in_ok-lower w ↦ w.in_ok-lower.ensures.onward.agreed h
          (subst (λ v. Agrees h (g.V.View.trace v) (g.V.View.overlay v)) w.view-is ag)
      | else-taken w ↦ subst (λ v. Agrees h (g.V.View.trace v) (g.V.View.overlay v)) w.view-is ag
    ] in
    let bytes : c.as_slice.result.now ≡ anchor_bytes (word_of owner) tree.root.word tree.height =
    c.as_slice.ensures ∙
    some_is _ _ (sym ((c.in_ok-bytes.ensures.tells h (c.in_ok-taken.ensures.onward.agreed h mid)).1) ∙
    tree.rooted.bytes) in
    let n : ◌≡◌ {A = ℕ × ℕ × ℕ} (c.in-Some.owner, c.in-Some.root, c.in-Some.height)
    (word_of owner, tree.root.word, tree.height) =
    some_is _ _ (c.in-Some.ensures (word_of owner) tree.root.word tree.height tree.rooted.owner_fits
    tree.rooted.root_fits bytes) in
    let root : addr_of tree.root.word ≡ c.addr_of.result =
    ap (λ (p : ℕ × ℕ × ℕ). addr_of p.1) (sym n) ∙ sym c.addr_of.ensures in
    let high : tree.height ≡ c.in-Some.height = ap (λ (p : ℕ × ℕ × ℕ). p.2) (sym n) in
    let on : is_on (g.V.View.count c.look.new.view) (c.args.self.now.anchor.region % c.nodes.result) ≡ R =
    ap (λ (n : ℕ). is_on n (c.args.self.now.anchor.region % c.nodes.result))
    c.in_ok-bytes.ensures.onward.steady.count ∙
    ap (λ (n : ℕ). is_on (g.V.View.count c.args.view.now) (c.args.self.now.anchor.region % n))
    c.nodes.ensures.count in
    let w : Tells (Ok c.in_ok-taken.taken) (λ taken. Removes R s u (word_of c.args.self.now.anchor)
    (root_least tree.height) tree.height (Some []) tree.root None c.args.key.now taken) =
    tree_removes R (is_on (g.V.View.count c.look.new.view) (c.args.self.now.anchor.region % c.nodes.result)) s
    (stood h (g.V.View.overlay c.look.new.view)) u c.args.self.now.anchor (word_of owner) tree.height tree.root
    c.args.key.now (Ok c.in_ok-taken.taken) c.word_of.result c.in-Some.height c.addr_of.result tree.rooted on
    (ap (stood h) c.in_ok-bytes.ensures.overlay) high c.word_of.ensures root
    (λ b least lo hi. c.in_ok-taken.ensures.tells h b least lo hi mid) in
    let on2 : is_on (g.V.View.count c.remove_at.new.view) (c.args.self.now.anchor.region % c.nodes.result) ≡ R =
    ap (λ (n : ℕ). is_on n (c.args.self.now.anchor.region % c.nodes.result))
    c.in_ok-taken.ensures.onward.steady.count ∙ on in
    let nodes : ℕ = g.V.View.count c.args.view.now in
    elim c.if-taken.branch [
      | then-taken+then-height-gt0+in_ok-lower v ↦
          let t : State = stood h (g.V.View.overlay v.lower.new.view) in
          let later = subst (λ x. Agrees h (g.V.View.trace x) (g.V.View.overlay x)) v.view-is ag in
          let more = v.if-height-gt0.true in
          let some : 1 ≤ tree.height = omega (arith, high, more) in
          let below : addr_of tree.root.word ≡ v.addr_of-then-height-gt0.result =
          ap (λ (p : ℕ × ℕ × ℕ). addr_of p.1) (sym n) ∙ sym v.addr_of-then-height-gt0.ensures in
          let at_root = root_at R
          (is_on (g.V.View.count c.remove_at.new.view) (c.args.self.now.anchor.region % c.nodes.result))
          s u c.args.self.now.anchor v.addr_of-then-height-gt0.result (word_of owner) tree.height tree.root
          c.args.key.now c.in_ok-taken.taken tree.rooted on2 w some below in
          let low = v.in_ok-lower.ensures.tells h (map (spell tree.height) w.shrunk.items) later at_root
          (omega (arith, more)) in
          rw (v.view-is) (taken_tells nodes s t c.args.self.now.anchor owner pairs at c.args.key.now
          c.in_ok-taken.taken.old tree
          (tree_lower R s u t c.args.self.now.anchor v.addr_of-then-height-gt0.result (word_of owner) tree.height
          tree.root c.args.key.now c.in_ok-taken.taken c.in-Some.height c.in-Some.owner tree.rooted w some high
          (ap (λ (p : ℕ × ℕ × ℕ). p.0) n) below low))
      | else-taken v ↦ rw (v.view-is) (taken_tells nodes s u c.args.self.now.anchor owner pairs at c.args.key.now
          c.in_ok-taken.taken.old tree (elim v.else-taken.branch [
            | else-taken-via-then-taken+else-height-gt0 x ↦
                let no = x.if-height-gt0.false in
                tree_leaf R s u c.args.self.now.anchor (word_of owner) tree.height tree.root c.args.key.now
                c.in_ok-taken.taken tree.rooted w (omega (arith, high, no))
            | else-taken-via-else-taken x ↦
                tree_firm R s u c.args.self.now.anchor (word_of owner) tree.height tree.root c.args.key.now
                c.in_ok-taken.taken tree.rooted w x.if-taken.false
          ]))
    ]
