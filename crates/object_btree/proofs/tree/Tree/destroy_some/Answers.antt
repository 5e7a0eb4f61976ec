use Rattle.std.proofs.Common.{◌≡◌, ◌≤◌, ◌<◌, ◌+◌, ◌%◌, Bool, true, ℕ, List, [], ◌∷◌, None, Some, Option, Ok, Err, sym, ap, subst, ◌∙◌, arith, length}
use Rattle.a1_base.specs.declared.place.Addr.{Addr}
use Rattle.object_view.specs.Agreement.{stood, State}
use Rattle.object_view.specs.Layout.{Entry, IsEntry, entries, word_of, anchor_bytes}
use Rattle.object_view.specs.Trees.{is_on}
use Rattle.object_view.proofs.Layouts.{some_is}
use Rattle.object_view.proofs.Moving.{onward_then}
use Rattle.object_btree.specs.Remains.{LessBy}
use Rattle.object_view.proofs.Views.{tells_from, some_not_none}
use Rattle.object_btree.proofs.Freeing.{DropTells, drop_as, served_later, Gone, all_gone}
use Rattle.object_btree.proofs.Rests.{RestAt, rest_at, root_below, stays, ends}
use Rattle.object_btree.proofs.tree.Tree.destroy_some.Goals as goal

pub returns-in_default-anchor_of-clause-tells : goal.returns-in_default-anchor_of-clause-tells
returns-in_default-anchor_of-clause-tells g c h at ag rest =
    let anchor : Addr = c.args.self.now.anchor in
    let s : State = stood h (g.V.View.overlay c.args.view.now) in
    let nodes : ℕ = g.V.View.count c.args.view.now in
    let here : s anchor ≡ Some c.in-Some.bytes =
    sym (rw c.in-Some.is at (c.in_ok-bytes.ensures.tells h (ag) c.requires.served)) in
    let r : RestAt nodes s anchor at = rest_at nodes s anchor at c.in-Some.bytes here rest in
    let bytes : c.as_slice.result.now ≡ anchor_bytes r.left.owner r.left.root r.left.height =
    c.as_slice.ensures ∙ some_is _ _ (sym here ∙ r.left.bytes) in
    let n : ◌≡◌ {A = Option (ℕ × ℕ × ℕ)} None (Some (r.left.owner, r.left.root, r.left.height)) =
    c.in_default-anchor_of.ensures r.left.owner r.left.root r.left.height r.left.owner_fits r.left.root_fits bytes in
    cc

pub returns-then-height-gt-TOP-clause-tells : goal.returns-then-height-gt-TOP-clause-tells
returns-then-height-gt-TOP-clause-tells g c h at ag rest =
    let anchor : Addr = c.args.self.now.anchor in
    let s : State = stood h (g.V.View.overlay c.args.view.now) in
    let nodes : ℕ = g.V.View.count c.args.view.now in
    let here : s anchor ≡ Some c.in-Some.bytes =
    sym (rw c.in-Some.is at (c.in_ok-bytes.ensures.tells h (ag) c.requires.served)) in
    let r : RestAt nodes s anchor at = rest_at nodes s anchor at c.in-Some.bytes here rest in
    let bytes : c.as_slice.result.now ≡ anchor_bytes r.left.owner r.left.root r.left.height =
    c.as_slice.ensures ∙ some_is _ _ (sym here ∙ r.left.bytes) in
    let n : ◌≡◌ {A = ℕ × ℕ × ℕ} (c.in-Some-anchor_of.field-0-0, c.in-Some-anchor_of.root, c.in-Some-anchor_of.height)
    (r.left.owner, r.left.root, r.left.height) =
    some_is _ _ (c.in-Some-anchor_of.ensures r.left.owner r.left.root r.left.height r.left.owner_fits r.left.root_fits
    bytes) in
    let high : c.in-Some-anchor_of.height ≡ r.left.height = ap (λ (p : ℕ × ℕ × ℕ). p.2) n in
    let over = c.if-height-gt-TOP.true in
    let low : r.left.height ≤ 15 = r.left.low in
    absurd (omega (arith, over, low, high))

pub returns-in_err-freed-clause-tells : goal.returns-in_err-freed-clause-tells
returns-in_err-freed-clause-tells g c h at ag rest =
    let anchor : Addr = c.args.self.now.anchor in
    let s : State = stood h (g.V.View.overlay c.args.view.now) in
    let nodes : ℕ = g.V.View.count c.args.view.now in
    let here : s anchor ≡ Some c.in-Some.bytes =
    sym (rw c.in-Some.is at (c.in_ok-bytes.ensures.tells h (c.in_err-freed.ensures.onward.agreed h ag)
    c.requires.served)) in
    let r : RestAt nodes s anchor at = rest_at nodes s anchor at c.in-Some.bytes here rest in
    let bytes : c.as_slice.result.now ≡ anchor_bytes r.left.owner r.left.root r.left.height =
    c.as_slice.ensures ∙ some_is _ _ (sym here ∙ r.left.bytes) in
    let n : ◌≡◌ {A = ℕ × ℕ × ℕ} (c.in-Some-anchor_of.field-0-0, c.in-Some-anchor_of.root, c.in-Some-anchor_of.height)
    (r.left.owner, r.left.root, r.left.height) =
    some_is _ _ (c.in-Some-anchor_of.ensures r.left.owner r.left.root r.left.height r.left.owner_fits r.left.root_fits
    bytes) in
    let high : c.in-Some-anchor_of.height ≡ r.left.height = ap (λ (p : ℕ × ℕ × ℕ). p.2) n in
    let root : c.in-Some-anchor_of.root ≡ r.left.root = ap (λ (p : ℕ × ℕ × ℕ). p.1) n in
    let R : Addr → Bool = is_on nodes (anchor.region % nodes) in
    let es : List Entry = record { key = []; word = r.left.root } ∷ [] in
    let R1 : Addr → Bool = is_on (g.V.View.count c.seek.new.view) (anchor.region % c.nodes.result) in
    let s1 : State = stood h (g.V.View.overlay c.seek.new.view) in
    let t : State = stood h (g.V.View.overlay c.destroy_in.new.view) in
    let on : R1 ≡ R = ap (λ (x : ℕ). is_on x (anchor.region % c.nodes.result)) c.in_ok-bytes.ensures.onward.steady.count
    ∙ ap (λ (x : ℕ). is_on nodes (anchor.region % x)) c.nodes.ensures.count in
    let q0 : DropTells R s t c.word_of.result (c.in-Some-anchor_of.height + 1) c.as_slice-2.result.now c.args.n
    (Err c.in_err-freed.field-0.0) =
    drop_as R R1 s s1 t c.word_of.result (c.in-Some-anchor_of.height + 1) c.as_slice-2.result.now c.args.n
    (Err c.in_err-freed.field-0.0) on
    (ap (stood h) c.in_ok-bytes.ensures.overlay)
    (λ xs qs. c.in_err-freed.ensures.tells h xs qs (ag)) in
    let q1 : DropTells R s t (word_of anchor) (c.in-Some-anchor_of.height + 1) c.as_slice-2.result.now c.args.n
    (Err c.in_err-freed.field-0.0) =
    subst (λ (x : ℕ). DropTells R s t x (c.in-Some-anchor_of.height + 1) c.as_slice-2.result.now c.args.n
    (Err c.in_err-freed.field-0.0))
    c.word_of.ensures q0 in
    let q : DropTells R s t (word_of anchor) (r.left.height + 1) c.as_slice-2.result.now c.args.n
    (Err c.in_err-freed.field-0.0) =
    subst (λ (x : ℕ). DropTells R s t (word_of anchor) (x + 1) c.as_slice-2.result.now c.args.n
    (Err c.in_err-freed.field-0.0)) high q1 in
    let body : c.as_slice-2.result.now ≡ entries es =
    c.as_slice-2.ensures.value ∙ c.in_ok-only.ensures
    ∙ ap (λ (w : ℕ). entries (record { key = []; word = w } ∷ [])) root in
    let fits : IsEntry (record { key = []; word = r.left.root }) =
    record { key = omega arith; word = r.left.root_fits } in
    let m = q es r.below (fits, tt) body (root_below R s (word_of anchor) r.left.height r.left.root r.below r.left.left)
    r.left.distinct in
    tells_from c.from_residual-in_err-freed.result _ _ _ c.from_residual-in_err-freed.ensures.1 m

pub returns-then-freed-n-clause-tells : goal.returns-then-freed-n-clause-tells
returns-then-freed-n-clause-tells g c h at ag rest =
    let anchor : Addr = c.args.self.now.anchor in
    let s : State = stood h (g.V.View.overlay c.args.view.now) in
    let nodes : ℕ = g.V.View.count c.args.view.now in
    let here : s anchor ≡ Some c.in-Some.bytes =
    sym (rw c.in-Some.is at (c.in_ok-bytes.ensures.tells h (c.in_ok-freed.ensures.onward.agreed h ag)
    c.requires.served)) in
    let r : RestAt nodes s anchor at = rest_at nodes s anchor at c.in-Some.bytes here rest in
    let bytes : c.as_slice.result.now ≡ anchor_bytes r.left.owner r.left.root r.left.height =
    c.as_slice.ensures ∙ some_is _ _ (sym here ∙ r.left.bytes) in
    let n : ◌≡◌ {A = ℕ × ℕ × ℕ} (c.in-Some-anchor_of.field-0-0, c.in-Some-anchor_of.root, c.in-Some-anchor_of.height)
    (r.left.owner, r.left.root, r.left.height) =
    some_is _ _ (c.in-Some-anchor_of.ensures r.left.owner r.left.root r.left.height r.left.owner_fits r.left.root_fits
    bytes) in
    let high : c.in-Some-anchor_of.height ≡ r.left.height = ap (λ (p : ℕ × ℕ × ℕ). p.2) n in
    let root : c.in-Some-anchor_of.root ≡ r.left.root = ap (λ (p : ℕ × ℕ × ℕ). p.1) n in
    let R : Addr → Bool = is_on nodes (anchor.region % nodes) in
    let es : List Entry = record { key = []; word = r.left.root } ∷ [] in
    let R1 : Addr → Bool = is_on (g.V.View.count c.seek.new.view) (anchor.region % c.nodes.result) in
    let s1 : State = stood h (g.V.View.overlay c.seek.new.view) in
    let t : State = stood h (g.V.View.overlay c.destroy_in.new.view) in
    let on : R1 ≡ R = ap (λ (x : ℕ). is_on x (anchor.region % c.nodes.result)) c.in_ok-bytes.ensures.onward.steady.count
    ∙ ap (λ (x : ℕ). is_on nodes (anchor.region % x)) c.nodes.ensures.count in
    let q0 : DropTells R s t c.word_of.result (c.in-Some-anchor_of.height + 1) c.as_slice-2.result.now c.args.n
    (Ok c.in_ok-freed.freed) =
    drop_as R R1 s s1 t c.word_of.result (c.in-Some-anchor_of.height + 1) c.as_slice-2.result.now c.args.n
    (Ok c.in_ok-freed.freed) on
    (ap (stood h) c.in_ok-bytes.ensures.overlay)
    (λ xs qs. c.in_ok-freed.ensures.tells h xs qs (ag)) in
    let q1 : DropTells R s t (word_of anchor) (c.in-Some-anchor_of.height + 1) c.as_slice-2.result.now c.args.n
    (Ok c.in_ok-freed.freed) =
    subst (λ (x : ℕ). DropTells R s t x (c.in-Some-anchor_of.height + 1) c.as_slice-2.result.now c.args.n
    (Ok c.in_ok-freed.freed))
    c.word_of.ensures q0 in
    let q : DropTells R s t (word_of anchor) (r.left.height + 1) c.as_slice-2.result.now c.args.n
    (Ok c.in_ok-freed.freed) =
    subst (λ (x : ℕ). DropTells R s t (word_of anchor) (x + 1) c.as_slice-2.result.now c.args.n
    (Ok c.in_ok-freed.freed)) high q1 in
    let body : c.as_slice-2.result.now ≡ entries es =
    c.as_slice-2.ensures.value ∙ c.in_ok-only.ensures
    ∙ ap (λ (w : ℕ). entries (record { key = []; word = w } ∷ [])) root in
    let fits : IsEntry (record { key = []; word = r.left.root }) =
    record { key = omega arith; word = r.left.root_fits } in
    let m = q es r.below (fits, tt) body (root_below R s (word_of anchor) r.left.height r.left.root r.below r.left.left)
    r.left.distinct in
    stays nodes s t anchor at c.args.n c.in_ok-freed.freed r m c.if-freed-n.true

pub returns-in_err-free_at-clause-tells : goal.returns-in_err-free_at-clause-tells
returns-in_err-free_at-clause-tells g c h at ag rest =
    let anchor : Addr = c.args.self.now.anchor in
    let s : State = stood h (g.V.View.overlay c.args.view.now) in
    let nodes : ℕ = g.V.View.count c.args.view.now in
    let here : s anchor ≡ Some c.in-Some.bytes =
    sym (rw c.in-Some.is at (c.in_ok-bytes.ensures.tells h
    (c.in_ok-freed.ensures.onward.agreed h (c.in_err-free_at.ensures.onward.agreed h ag)) c.requires.served)) in
    let r : RestAt nodes s anchor at = rest_at nodes s anchor at c.in-Some.bytes here rest in
    let bytes : c.as_slice.result.now ≡ anchor_bytes r.left.owner r.left.root r.left.height =
    c.as_slice.ensures ∙ some_is _ _ (sym here ∙ r.left.bytes) in
    let n : ◌≡◌ {A = ℕ × ℕ × ℕ} (c.in-Some-anchor_of.field-0-0, c.in-Some-anchor_of.root, c.in-Some-anchor_of.height)
    (r.left.owner, r.left.root, r.left.height) =
    some_is _ _ (c.in-Some-anchor_of.ensures r.left.owner r.left.root r.left.height r.left.owner_fits r.left.root_fits
    bytes) in
    let high : c.in-Some-anchor_of.height ≡ r.left.height = ap (λ (p : ℕ × ℕ × ℕ). p.2) n in
    let root : c.in-Some-anchor_of.root ≡ r.left.root = ap (λ (p : ℕ × ℕ × ℕ). p.1) n in
    let R : Addr → Bool = is_on nodes (anchor.region % nodes) in
    let es : List Entry = record { key = []; word = r.left.root } ∷ [] in
    let R1 : Addr → Bool = is_on (g.V.View.count c.seek.new.view) (anchor.region % c.nodes.result) in
    let s1 : State = stood h (g.V.View.overlay c.seek.new.view) in
    let t : State = stood h (g.V.View.overlay c.destroy_in.new.view) in
    let on : R1 ≡ R = ap (λ (x : ℕ). is_on x (anchor.region % c.nodes.result)) c.in_ok-bytes.ensures.onward.steady.count
    ∙ ap (λ (x : ℕ). is_on nodes (anchor.region % x)) c.nodes.ensures.count in
    let q0 : DropTells R s t c.word_of.result (c.in-Some-anchor_of.height + 1) c.as_slice-2.result.now c.args.n
    (Ok c.in_ok-freed.freed) =
    drop_as R R1 s s1 t c.word_of.result (c.in-Some-anchor_of.height + 1) c.as_slice-2.result.now c.args.n
    (Ok c.in_ok-freed.freed) on
    (ap (stood h) c.in_ok-bytes.ensures.overlay)
    (λ xs qs. c.in_ok-freed.ensures.tells h xs qs (c.in_err-free_at.ensures.onward.agreed h ag)) in
    let q1 : DropTells R s t (word_of anchor) (c.in-Some-anchor_of.height + 1) c.as_slice-2.result.now c.args.n
    (Ok c.in_ok-freed.freed) =
    subst (λ (x : ℕ). DropTells R s t x (c.in-Some-anchor_of.height + 1) c.as_slice-2.result.now c.args.n
    (Ok c.in_ok-freed.freed))
    c.word_of.ensures q0 in
    let q : DropTells R s t (word_of anchor) (r.left.height + 1) c.as_slice-2.result.now c.args.n
    (Ok c.in_ok-freed.freed) =
    subst (λ (x : ℕ). DropTells R s t (word_of anchor) (x + 1) c.as_slice-2.result.now c.args.n
    (Ok c.in_ok-freed.freed)) high q1 in
    let body : c.as_slice-2.result.now ≡ entries es =
    c.as_slice-2.ensures.value ∙ c.in_ok-only.ensures
    ∙ ap (λ (w : ℕ). entries (record { key = []; word = w } ∷ [])) root in
    let fits : IsEntry (record { key = []; word = r.left.root }) =
    record { key = omega arith; word = r.left.root_fits } in
    let m = q es r.below (fits, tt) body (root_below R s (word_of anchor) r.left.height r.left.root r.below r.left.left)
    r.left.distinct in
    let m1 : LessBy R s t (word_of anchor) (r.left.height + 1) es r.below c.args.n c.in_ok-freed.freed = m in
    let served : g.V.View.reaches c.destroy_in.new.view (anchor.region % g.V.View.count c.destroy_in.new.view) ≡ true =
    served_later (g.V.View.reaches c.args.view.now) (g.V.View.reaches c.destroy_in.new.view) nodes
    (g.V.View.count c.destroy_in.new.view) anchor
    (c.in_ok-freed.ensures.onward.steady.reaches ∙ c.in_ok-bytes.ensures.onward.steady.reaches)
    (c.in_ok-freed.ensures.onward.steady.count ∙ c.in_ok-bytes.ensures.onward.steady.count) c.requires.served in
    let full : t anchor ≡ None → ⊥ = λ none.
    some_not_none (s anchor) c.in-Some.bytes here (sym (m1.frame anchor r.left.apart) ∙ none) in
    tells_from c.from_residual-in_err-free_at.result _ _ _ c.from_residual-in_err-free_at.ensures.1
    (c.in_err-free_at.ensures.tells h ag served full)

pub returns-clause-tells : goal.returns-clause-tells
returns-clause-tells g c h at ag rest =
    let anchor : Addr = c.args.self.now.anchor in
    let s : State = stood h (g.V.View.overlay c.args.view.now) in
    let nodes : ℕ = g.V.View.count c.args.view.now in
    let here : s anchor ≡ Some c.in-Some.bytes =
    sym (rw c.in-Some.is at (c.in_ok-bytes.ensures.tells h
    (c.in_ok-freed.ensures.onward.agreed h (c.in_ok-free_at.ensures.onward.agreed h ag)) c.requires.served)) in
    let r : RestAt nodes s anchor at = rest_at nodes s anchor at c.in-Some.bytes here rest in
    let bytes : c.as_slice.result.now ≡ anchor_bytes r.left.owner r.left.root r.left.height =
    c.as_slice.ensures ∙ some_is _ _ (sym here ∙ r.left.bytes) in
    let n : ◌≡◌ {A = ℕ × ℕ × ℕ} (c.in-Some-anchor_of.field-0-0, c.in-Some-anchor_of.root, c.in-Some-anchor_of.height)
    (r.left.owner, r.left.root, r.left.height) =
    some_is _ _ (c.in-Some-anchor_of.ensures r.left.owner r.left.root r.left.height r.left.owner_fits r.left.root_fits
    bytes) in
    let high : c.in-Some-anchor_of.height ≡ r.left.height = ap (λ (p : ℕ × ℕ × ℕ). p.2) n in
    let root : c.in-Some-anchor_of.root ≡ r.left.root = ap (λ (p : ℕ × ℕ × ℕ). p.1) n in
    let R : Addr → Bool = is_on nodes (anchor.region % nodes) in
    let es : List Entry = record { key = []; word = r.left.root } ∷ [] in
    let R1 : Addr → Bool = is_on (g.V.View.count c.seek.new.view) (anchor.region % c.nodes.result) in
    let s1 : State = stood h (g.V.View.overlay c.seek.new.view) in
    let t : State = stood h (g.V.View.overlay c.destroy_in.new.view) in
    let on : R1 ≡ R = ap (λ (x : ℕ). is_on x (anchor.region % c.nodes.result)) c.in_ok-bytes.ensures.onward.steady.count
    ∙ ap (λ (x : ℕ). is_on nodes (anchor.region % x)) c.nodes.ensures.count in
    let q0 : DropTells R s t c.word_of.result (c.in-Some-anchor_of.height + 1) c.as_slice-2.result.now c.args.n
    (Ok c.in_ok-freed.freed) =
    drop_as R R1 s s1 t c.word_of.result (c.in-Some-anchor_of.height + 1) c.as_slice-2.result.now c.args.n
    (Ok c.in_ok-freed.freed) on
    (ap (stood h) c.in_ok-bytes.ensures.overlay)
    (λ xs qs. c.in_ok-freed.ensures.tells h xs qs (c.in_ok-free_at.ensures.onward.agreed h ag)) in
    let q1 : DropTells R s t (word_of anchor) (c.in-Some-anchor_of.height + 1) c.as_slice-2.result.now c.args.n
    (Ok c.in_ok-freed.freed) =
    subst (λ (x : ℕ). DropTells R s t x (c.in-Some-anchor_of.height + 1) c.as_slice-2.result.now c.args.n
    (Ok c.in_ok-freed.freed))
    c.word_of.ensures q0 in
    let q : DropTells R s t (word_of anchor) (r.left.height + 1) c.as_slice-2.result.now c.args.n
    (Ok c.in_ok-freed.freed) =
    subst (λ (x : ℕ). DropTells R s t (word_of anchor) (x + 1) c.as_slice-2.result.now c.args.n
    (Ok c.in_ok-freed.freed)) high q1 in
    let body : c.as_slice-2.result.now ≡ entries es =
    c.as_slice-2.ensures.value ∙ c.in_ok-only.ensures
    ∙ ap (λ (w : ℕ). entries (record { key = []; word = w } ∷ [])) root in
    let fits : IsEntry (record { key = []; word = r.left.root }) =
    record { key = omega arith; word = r.left.root_fits } in
    let m = q es r.below (fits, tt) body (root_below R s (word_of anchor) r.left.height r.left.root r.below r.left.left)
    r.left.distinct in
    let m1 : LessBy R s t (word_of anchor) (r.left.height + 1) es r.below c.args.n c.in_ok-freed.freed = m in
    let served : g.V.View.reaches c.destroy_in.new.view (anchor.region % g.V.View.count c.destroy_in.new.view) ≡ true =
    served_later (g.V.View.reaches c.args.view.now) (g.V.View.reaches c.destroy_in.new.view) nodes
    (g.V.View.count c.destroy_in.new.view) anchor
    (c.in_ok-freed.ensures.onward.steady.reaches ∙ c.in_ok-bytes.ensures.onward.steady.reaches)
    (c.in_ok-freed.ensures.onward.steady.count ∙ c.in_ok-bytes.ensures.onward.steady.count) c.requires.served in
    let full : t anchor ≡ None → ⊥ = λ none.
    some_not_none (s anchor) c.in-Some.bytes here (sym (m1.frame anchor r.left.apart) ∙ none) in
    let u : State = stood h (g.V.View.overlay c.free_at.new.view) in
    let few : c.in_ok-freed.freed ≤ c.args.n = c.in_ok-freed.ensures.few in
    let other = c.if-freed-n.false in
    let low : c.in_ok-freed.freed < c.args.n = omega (arith, few, other) in
    let gone : Gone s u anchor r.below =
    all_gone R s t u (word_of anchor) (r.left.height + 1) es anchor r.below c.args.n c.in_ok-freed.freed m1 low
    (c.in_ok-free_at.ensures.tells h ag served full) in
    let len : length r.below ≡ length m1.left + c.in_ok-freed.freed = m1.count in
    let none : length m1.left ≡ 0 = ap length (m1.all low) in
    ends nodes s u anchor at c.args.n c.in_ok-freed.freed r gone (omega (arith, len, none)) low

pub returns-in_err-freed-clause-onward : goal.returns-in_err-freed-clause-onward
returns-in_err-freed-clause-onward g c = onward_then _ _ _ _ _ _ _ _
    c.in_ok-bytes.ensures.onward c.in_err-freed.ensures.onward

pub returns-then-freed-n-clause-onward : goal.returns-then-freed-n-clause-onward
returns-then-freed-n-clause-onward g c = onward_then _ _ _ _ _ _ _ _
    c.in_ok-bytes.ensures.onward c.in_ok-freed.ensures.onward

pub returns-in_err-free_at-clause-onward : goal.returns-in_err-free_at-clause-onward
returns-in_err-free_at-clause-onward g c = onward_then _ _ _ _ _ _ _ _
    (onward_then _ _ _ _ _ _ _ _
    c.in_ok-bytes.ensures.onward c.in_ok-freed.ensures.onward) c.in_err-free_at.ensures.onward

pub returns-clause-onward : goal.returns-clause-onward
returns-clause-onward g c = onward_then _ _ _ _ _ _ _ _
    (onward_then _ _ _ _ _ _ _ _
    c.in_ok-bytes.ensures.onward c.in_ok-freed.ensures.onward) c.in_ok-free_at.ensures.onward
