use Rattle.std.proofs.Common.{◌≡◌, ◌%◌, ℕ, Bool, None, Some, Option, [], Ok, Err, sym, ap, ◌∙◌, arith}
use Rattle.a1_base.specs.declared.place.Addr.{Addr}
use Rattle.object_view.specs.Agreement.{stood, State}
use Rattle.object_view.specs.declared.parts.PartFault.TheVariants as part
use Rattle.object_view.specs.Layout.{addr_of, word_of, anchor_bytes}
use Rattle.object_view.specs.Trees.{is_on, root_least}
use Rattle.object_view.proofs.Layouts.{some_is}
use Rattle.object_view.proofs.Moving.{onward_then}
use Rattle.object_btree.specs.Steps.{Inserts}
use Rattle.object_view.specs.Parts.{Tells}
use Rattle.object_view.proofs.Views.{look_err, stands_later}
use Rattle.object_btree.proofs.Roots.{tree_from, tree_inserts, tree_same, tree_tall, tree_above, split_short, put_tells}
use Rattle.object_btree.proofs.tree.Tree.insert.Goals as goal

pub returns-in_err-put-clause-onward : goal.returns-in_err-put-clause-onward
returns-in_err-put-clause-onward g c =
    onward_then _ _ _ _ _ _ _ _ c.in_ok-bytes.ensures.onward c.in_err-put.ensures.onward

pub returns-in_default-more-clause-onward : goal.returns-in_default-more-clause-onward
returns-in_default-more-clause-onward g c =
    onward_then _ _ _ _ _ _ _ _ c.in_ok-bytes.ensures.onward c.in_ok-put.ensures.onward

pub returns-then-height-ge-TOP-clause-onward : goal.returns-then-height-ge-TOP-clause-onward
returns-then-height-ge-TOP-clause-onward g c =
    onward_then _ _ _ _ _ _ _ _ c.in_ok-bytes.ensures.onward c.in_ok-put.ensures.onward

pub returns-in_err-new_root-clause-onward : goal.returns-in_err-new_root-clause-onward
returns-in_err-new_root-clause-onward g c =
    onward_then _ _ _ _ _ _ _ _
    (onward_then _ _ _ _ _ _ _ _ c.in_ok-bytes.ensures.onward c.in_ok-put.ensures.onward)
    c.in_err-new_root.ensures.onward

pub returns-clause-onward : goal.returns-clause-onward
returns-clause-onward g c =
    onward_then _ _ _ _ _ _ _ _
    (onward_then _ _ _ _ _ _ _ _ c.in_ok-bytes.ensures.onward c.in_ok-put.ensures.onward)
    c.in_ok-new_root.ensures.onward

pub new_root-requires-clause-stands : goal.new_root-requires-clause-stands
new_root-requires-clause-stands g c =
    stands_later _ _ _ _ c.args.self.now.anchor c.in_ok-bytes.ensures.stands c.in_ok-put.ensures.onward.agreed
    c.in_ok-put.ensures.lasts

pub returns-in_default-clause-tells : goal.returns-in_default-clause-tells
returns-in_default-clause-tells g c h owner pairs at ag tree =
    let bytes : c.as_slice.result.now ≡ anchor_bytes (word_of owner) tree.root.word tree.height =
    c.as_slice.ensures ∙ some_is _ _ (sym ((c.in_ok-bytes.ensures.tells h ag).1) ∙ tree.rooted.bytes) in
    let n : ◌≡◌ {A = Option (ℕ × ℕ × ℕ)} None (Some (word_of owner, tree.root.word, tree.height)) =
    c.in_default.ensures (word_of owner) tree.root.word tree.height tree.rooted.owner_fits tree.rooted.root_fits
    bytes in
    absurd cc

pub returns-in_err-bytes-clause-tells : goal.returns-in_err-bytes-clause-tells
returns-in_err-bytes-clause-tells g c h owner pairs at ag tree =
    let s : State = stood h (g.V.View.overlay c.args.view.now) in
    put_tells (g.V.View.count c.args.view.now) s (stood h (g.V.View.overlay c.look.new.view)) c.args.self.now.anchor
    owner
    pairs at c.args.key.now c.args.value c.from_residual.result tree
    (tree_from _ s _ c.args.self.now.anchor (word_of owner) tree.height tree.root c.args.key.now c.args.value
    c.from_residual.result _ (λ (x : Bool). Bool) c.from_residual.ensures.1
    (look_err c.args.self.now.anchor _ _ _ _ _ (c.in_err-bytes.ensures.tells h ag) c.requires.served
    tree.rooted.bytes))

pub returns-in_err-put-clause-tells : goal.returns-in_err-put-clause-tells
returns-in_err-put-clause-tells g c h owner pairs at ag tree =
    let R : Addr → Bool =
    is_on (g.V.View.count c.args.view.now) (c.args.self.now.anchor.region % g.V.View.count c.args.view.now) in
    let s : State = stood h (g.V.View.overlay c.args.view.now) in
    let u : State = stood h (g.V.View.overlay c.insert_at.new.view) in
    let later = ag in
    let bytes : c.as_slice.result.now ≡ anchor_bytes (word_of owner) tree.root.word tree.height =
    c.as_slice.ensures ∙
    some_is _ _ (sym ((c.in_ok-bytes.ensures.tells h (c.in_err-put.ensures.onward.agreed h later)).1) ∙
    tree.rooted.bytes) in
    let n : ◌≡◌ {A = ℕ × ℕ × ℕ} (c.in-Some.owner, c.in-Some.root, c.in-Some.height)
    (word_of owner, tree.root.word, tree.height) =
    some_is _ _ (c.in-Some.ensures (word_of owner) tree.root.word tree.height tree.rooted.owner_fits
    tree.rooted.root_fits bytes) in
    let root : addr_of tree.root.word ≡ c.addr_of.result =
    ap (λ (p : ℕ × ℕ × ℕ). addr_of p.1) (sym n) ∙ sym c.addr_of.ensures in
    let on : is_on (g.V.View.count c.look.new.view) (c.args.self.now.anchor.region % c.nodes.result) ≡ R =
    ap (λ (n : ℕ). is_on n (c.args.self.now.anchor.region % c.nodes.result))
    c.in_ok-bytes.ensures.onward.steady.count ∙
    ap (λ (n : ℕ). is_on (g.V.View.count c.args.view.now) (c.args.self.now.anchor.region % n))
    c.nodes.ensures.count in
    let w : Tells (Err c.in_err-put.field-0.0) (λ put. Inserts R s u (word_of c.args.self.now.anchor)
    (root_least tree.height) tree.height (Some []) tree.root None c.args.key.now c.args.value put) =
    tree_inserts R (is_on (g.V.View.count c.look.new.view) (c.args.self.now.anchor.region % c.nodes.result)) s
    (stood h (g.V.View.overlay c.look.new.view)) u c.args.self.now.anchor (word_of owner) tree.height tree.root
    c.args.key.now c.args.value (Err c.in_err-put.field-0.0) c.word_of.result c.in-Some.height c.addr_of.result
    tree.rooted on
    (ap (stood h) c.in_ok-bytes.ensures.overlay) (ap (λ (p : ℕ × ℕ × ℕ). p.2) (sym n)) c.word_of.ensures root
    (λ b least lo hi. c.in_err-put.ensures.tells h b least lo hi later) in
    put_tells (g.V.View.count c.args.view.now) s u c.args.self.now.anchor owner pairs at
    c.args.key.now c.args.value c.from_residual-in_err-put.result tree
    (tree_from R s u c.args.self.now.anchor (word_of owner) tree.height tree.root c.args.key.now c.args.value
    c.from_residual-in_err-put.result _ _ c.from_residual-in_err-put.ensures.1 w)

pub returns-in_default-more-clause-tells : goal.returns-in_default-more-clause-tells
returns-in_default-more-clause-tells g c h owner pairs at ag tree =
    let R : Addr → Bool =
    is_on (g.V.View.count c.args.view.now) (c.args.self.now.anchor.region % g.V.View.count c.args.view.now) in
    let s : State = stood h (g.V.View.overlay c.args.view.now) in
    let u : State = stood h (g.V.View.overlay c.insert_at.new.view) in
    let later = ag in
    let bytes : c.as_slice.result.now ≡ anchor_bytes (word_of owner) tree.root.word tree.height =
    c.as_slice.ensures ∙
    some_is _ _ (sym ((c.in_ok-bytes.ensures.tells h (c.in_ok-put.ensures.onward.agreed h later)).1) ∙
    tree.rooted.bytes) in
    let n : ◌≡◌ {A = ℕ × ℕ × ℕ} (c.in-Some.owner, c.in-Some.root, c.in-Some.height)
    (word_of owner, tree.root.word, tree.height) =
    some_is _ _ (c.in-Some.ensures (word_of owner) tree.root.word tree.height tree.rooted.owner_fits
    tree.rooted.root_fits bytes) in
    let root : addr_of tree.root.word ≡ c.addr_of.result =
    ap (λ (p : ℕ × ℕ × ℕ). addr_of p.1) (sym n) ∙ sym c.addr_of.ensures in
    let on : is_on (g.V.View.count c.look.new.view) (c.args.self.now.anchor.region % c.nodes.result) ≡ R =
    ap (λ (n : ℕ). is_on n (c.args.self.now.anchor.region % c.nodes.result))
    c.in_ok-bytes.ensures.onward.steady.count ∙
    ap (λ (n : ℕ). is_on (g.V.View.count c.args.view.now) (c.args.self.now.anchor.region % n))
    c.nodes.ensures.count in
    let w : Inserts R s u (word_of c.args.self.now.anchor) (root_least tree.height) tree.height (Some []) tree.root None
    c.args.key.now c.args.value c.in_ok-put.put =
    tree_inserts R (is_on (g.V.View.count c.look.new.view) (c.args.self.now.anchor.region % c.nodes.result)) s
    (stood h (g.V.View.overlay c.look.new.view)) u c.args.self.now.anchor (word_of owner) tree.height tree.root
    c.args.key.now c.args.value (Ok c.in_ok-put.put) c.word_of.result c.in-Some.height c.addr_of.result tree.rooted
    on
    (ap (stood h) c.in_ok-bytes.ensures.overlay) (ap (λ (p : ℕ × ℕ × ℕ). p.2) (sym n)) c.word_of.ensures root
    (λ b least lo hi. c.in_ok-put.ensures.tells h b least lo hi later) in
    put_tells (g.V.View.count c.args.view.now) s u c.args.self.now.anchor owner pairs at
    c.args.key.now c.args.value (Ok c.in_ok-put.put.old) tree
    (tree_same R s u c.args.self.now.anchor (word_of owner) tree.height tree.root c.args.key.now c.args.value
    c.in_ok-put.put tree.rooted w c.in_default-more.is)

pub returns-then-height-ge-TOP-clause-tells : goal.returns-then-height-ge-TOP-clause-tells
returns-then-height-ge-TOP-clause-tells g c h owner pairs at ag tree =
    let R : Addr → Bool =
    is_on (g.V.View.count c.args.view.now) (c.args.self.now.anchor.region % g.V.View.count c.args.view.now) in
    let s : State = stood h (g.V.View.overlay c.args.view.now) in
    let u : State = stood h (g.V.View.overlay c.insert_at.new.view) in
    let later = ag in
    let bytes : c.as_slice.result.now ≡ anchor_bytes (word_of owner) tree.root.word tree.height =
    c.as_slice.ensures ∙
    some_is _ _ (sym ((c.in_ok-bytes.ensures.tells h (c.in_ok-put.ensures.onward.agreed h later)).1) ∙
    tree.rooted.bytes) in
    let n : ◌≡◌ {A = ℕ × ℕ × ℕ} (c.in-Some.owner, c.in-Some.root, c.in-Some.height)
    (word_of owner, tree.root.word, tree.height) =
    some_is _ _ (c.in-Some.ensures (word_of owner) tree.root.word tree.height tree.rooted.owner_fits
    tree.rooted.root_fits bytes) in
    let root : addr_of tree.root.word ≡ c.addr_of.result =
    ap (λ (p : ℕ × ℕ × ℕ). addr_of p.1) (sym n) ∙ sym c.addr_of.ensures in
    let on : is_on (g.V.View.count c.look.new.view) (c.args.self.now.anchor.region % c.nodes.result) ≡ R =
    ap (λ (n : ℕ). is_on n (c.args.self.now.anchor.region % c.nodes.result))
    c.in_ok-bytes.ensures.onward.steady.count ∙
    ap (λ (n : ℕ). is_on (g.V.View.count c.args.view.now) (c.args.self.now.anchor.region % n))
    c.nodes.ensures.count in
    let w : Inserts R s u (word_of c.args.self.now.anchor) (root_least tree.height) tree.height (Some []) tree.root None
    c.args.key.now c.args.value c.in_ok-put.put =
    tree_inserts R (is_on (g.V.View.count c.look.new.view) (c.args.self.now.anchor.region % c.nodes.result)) s
    (stood h (g.V.View.overlay c.look.new.view)) u c.args.self.now.anchor (word_of owner) tree.height tree.root
    c.args.key.now c.args.value (Ok c.in_ok-put.put) c.word_of.result c.in-Some.height c.addr_of.result tree.rooted
    on
    (ap (stood h) c.in_ok-bytes.ensures.overlay) (ap (λ (p : ℕ × ℕ × ℕ). p.2) (sym n)) c.word_of.ensures root
    (λ b least lo hi. c.in_ok-put.ensures.tells h b least lo hi later) in
    put_tells (g.V.View.count c.args.view.now) s u c.args.self.now.anchor owner pairs at
    c.args.key.now c.args.value (Err part.Tall) tree
    (tree_tall R s u c.args.self.now.anchor (word_of owner) tree.height c.in-Some.height tree.root c.args.key.now
    c.args.value c.in_ok-put.put c.in-Some-more.split tree.rooted (ap (λ (p : ℕ × ℕ × ℕ). p.2) (sym n))
    c.if-height-ge-TOP.true w c.in-Some-more.is)

pub returns-in_err-new_root-clause-tells : goal.returns-in_err-new_root-clause-tells
returns-in_err-new_root-clause-tells g c h owner pairs at ag tree =
    let R : Addr → Bool =
    is_on (g.V.View.count c.args.view.now) (c.args.self.now.anchor.region % g.V.View.count c.args.view.now) in
    let s : State = stood h (g.V.View.overlay c.args.view.now) in
    let u : State = stood h (g.V.View.overlay c.insert_at.new.view) in
    let later = c.in_err-new_root.ensures.onward.agreed h ag in
    let bytes : c.as_slice.result.now ≡ anchor_bytes (word_of owner) tree.root.word tree.height =
    c.as_slice.ensures ∙
    some_is _ _ (sym ((c.in_ok-bytes.ensures.tells h (c.in_ok-put.ensures.onward.agreed h later)).1) ∙
    tree.rooted.bytes) in
    let n : ◌≡◌ {A = ℕ × ℕ × ℕ} (c.in-Some.owner, c.in-Some.root, c.in-Some.height)
    (word_of owner, tree.root.word, tree.height) =
    some_is _ _ (c.in-Some.ensures (word_of owner) tree.root.word tree.height tree.rooted.owner_fits
    tree.rooted.root_fits bytes) in
    let root : addr_of tree.root.word ≡ c.addr_of.result =
    ap (λ (p : ℕ × ℕ × ℕ). addr_of p.1) (sym n) ∙ sym c.addr_of.ensures in
    let on : is_on (g.V.View.count c.look.new.view) (c.args.self.now.anchor.region % c.nodes.result) ≡ R =
    ap (λ (n : ℕ). is_on n (c.args.self.now.anchor.region % c.nodes.result))
    c.in_ok-bytes.ensures.onward.steady.count ∙
    ap (λ (n : ℕ). is_on (g.V.View.count c.args.view.now) (c.args.self.now.anchor.region % n))
    c.nodes.ensures.count in
    let w : Inserts R s u (word_of c.args.self.now.anchor) (root_least tree.height) tree.height (Some []) tree.root None
    c.args.key.now c.args.value c.in_ok-put.put =
    tree_inserts R (is_on (g.V.View.count c.look.new.view) (c.args.self.now.anchor.region % c.nodes.result)) s
    (stood h (g.V.View.overlay c.look.new.view)) u c.args.self.now.anchor (word_of owner) tree.height tree.root
    c.args.key.now c.args.value (Ok c.in_ok-put.put) c.word_of.result c.in-Some.height c.addr_of.result tree.rooted
    on
    (ap (stood h) c.in_ok-bytes.ensures.overlay) (ap (λ (p : ℕ × ℕ × ℕ). p.2) (sym n)) c.word_of.ensures root
    (λ b least lo hi. c.in_ok-put.ensures.tells h b least lo hi later) in
    let short = split_short R s u (word_of c.args.self.now.anchor) (root_least tree.height) tree.height (Some [])
    tree.root
    None c.args.key.now c.args.value c.in_ok-put.put c.in-Some-more.split w c.in-Some-more.is in
    put_tells (g.V.View.count c.args.view.now) s (stood h (g.V.View.overlay c.new_root.new.view)) c.args.self.now.anchor
    owner pairs at
    c.args.key.now c.args.value c.from_residual-in_err-new_root.result tree
    (tree_from R s (stood h (g.V.View.overlay c.new_root.new.view)) c.args.self.now.anchor (word_of owner) tree.height
    tree.root c.args.key.now c.args.value c.from_residual-in_err-new_root.result _ _
    c.from_residual-in_err-new_root.ensures.1 (c.in_err-new_root.ensures.tells h ag short))

pub returns-clause-tells : goal.returns-clause-tells
returns-clause-tells g c h owner pairs at ag tree =
    let R : Addr → Bool =
    is_on (g.V.View.count c.args.view.now) (c.args.self.now.anchor.region % g.V.View.count c.args.view.now) in
    let s : State = stood h (g.V.View.overlay c.args.view.now) in
    let u : State = stood h (g.V.View.overlay c.insert_at.new.view) in
    let later = c.in_ok-new_root.ensures.onward.agreed h ag in
    let bytes : c.as_slice.result.now ≡ anchor_bytes (word_of owner) tree.root.word tree.height =
    c.as_slice.ensures ∙
    some_is _ _ (sym ((c.in_ok-bytes.ensures.tells h (c.in_ok-put.ensures.onward.agreed h later)).1) ∙
    tree.rooted.bytes) in
    let n : ◌≡◌ {A = ℕ × ℕ × ℕ} (c.in-Some.owner, c.in-Some.root, c.in-Some.height)
    (word_of owner, tree.root.word, tree.height) =
    some_is _ _ (c.in-Some.ensures (word_of owner) tree.root.word tree.height tree.rooted.owner_fits
    tree.rooted.root_fits bytes) in
    let root : addr_of tree.root.word ≡ c.addr_of.result =
    ap (λ (p : ℕ × ℕ × ℕ). addr_of p.1) (sym n) ∙ sym c.addr_of.ensures in
    let on : is_on (g.V.View.count c.look.new.view) (c.args.self.now.anchor.region % c.nodes.result) ≡ R =
    ap (λ (n : ℕ). is_on n (c.args.self.now.anchor.region % c.nodes.result))
    c.in_ok-bytes.ensures.onward.steady.count ∙
    ap (λ (n : ℕ). is_on (g.V.View.count c.args.view.now) (c.args.self.now.anchor.region % n))
    c.nodes.ensures.count in
    let w : Inserts R s u (word_of c.args.self.now.anchor) (root_least tree.height) tree.height (Some []) tree.root None
    c.args.key.now c.args.value c.in_ok-put.put =
    tree_inserts R (is_on (g.V.View.count c.look.new.view) (c.args.self.now.anchor.region % c.nodes.result)) s
    (stood h (g.V.View.overlay c.look.new.view)) u c.args.self.now.anchor (word_of owner) tree.height tree.root
    c.args.key.now c.args.value (Ok c.in_ok-put.put) c.word_of.result c.in-Some.height c.addr_of.result tree.rooted
    on
    (ap (stood h) c.in_ok-bytes.ensures.overlay) (ap (λ (p : ℕ × ℕ × ℕ). p.2) (sym n)) c.word_of.ensures root
    (λ b least lo hi. c.in_ok-put.ensures.tells h b least lo hi later) in
    let short = split_short R s u (word_of c.args.self.now.anchor) (root_least tree.height) tree.height (Some [])
    tree.root
    None c.args.key.now c.args.value c.in_ok-put.put c.in-Some-more.split w c.in-Some-more.is in
    let stays : (a : Addr) → u a ≡ None → s a ≡ None = λ a z.
    ap (λ (x : State). x a) (sym (ap (stood h) c.in_ok-bytes.ensures.overlay)) ∙
    c.in_ok-put.ensures.lasts h later a z in
    put_tells (g.V.View.count c.args.view.now) s (stood h (g.V.View.overlay c.new_root.new.view)) c.args.self.now.anchor
    owner pairs at
    c.args.key.now c.args.value (Ok c.in_ok-put.put.old) tree
    (tree_above R (is_on (g.V.View.count c.insert_at.new.view) (c.args.self.now.anchor.region % c.nodes.result)) s u
    (stood h (g.V.View.overlay c.new_root.new.view)) c.args.self.now.anchor (word_of owner) tree.height tree.root
    c.args.key.now c.args.value c.in_ok-put.put c.in-Some-more.split c.in-Some.owner c.in-Some.root c.in-Some.height
    tree.rooted
    (ap (λ (n : ℕ). is_on n (c.args.self.now.anchor.region % c.nodes.result))
    c.in_ok-put.ensures.onward.steady.count ∙
    on)
    (ap (λ (p : ℕ × ℕ × ℕ). p.0) n) (ap (λ (p : ℕ × ℕ × ℕ). p.1) n) (ap (λ (p : ℕ × ℕ × ℕ). p.2) (sym n))
    (omega (arith, c.if-height-ge-TOP.false)) w c.in-Some-more.is stays
    (c.in_ok-new_root.ensures.tells h ag short))
