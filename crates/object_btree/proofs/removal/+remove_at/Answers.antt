use Rattle.std.proofs.Common.{◌≡◌, ◌-◌, ◌++◌, ℕ, suc, Bool, true, false, List, length, [], ◌∷◌, Ok, Err, refl, sym, ap, subst, ◌∙◌, arith}
use Rattle.std.specs.List.{AllByRecursion}
use Rattle.std.specs.Prelude.{not}
use Rattle.std.proofs.lemmas.List.{length-append}
use Rattle.a1_base.specs.declared.place.Addr.{Addr}
use Rattle.object_view.specs.Agreement.{stood, State}
use Rattle.object_view.specs.Layout.{Entry, IsEntry, entries, addr_of}
use Rattle.object_view.specs.Trees.{is_on, Sub}
use Rattle.object_btree.specs.Steps.{Route, LeafTaken}
use Rattle.object_view.proofs.Moving.{onward_then}
use Rattle.object_view.proofs.Views.{on_served, some_not_none, tells_from, tells_map}
use Rattle.object_view.proofs.Views.{tells_look}
use Rattle.object_btree.proofs.Down.{RouteParts, route_parts}
use Rattle.object_btree.proofs.Removals.{RepairTells, LeafOut, leaf_out, DownOut, down_out, ChildOut, firm_as, thin_as}
use Rattle.object_btree.proofs.Paths.{all_left}
use Rattle.object_btree.proofs.removal.+remove_at.Goals as goal

false-true : false ≡ true → ⊥
false-true e = cc

not_true : (b : Bool) → not b ≡ true → b ≡ false
not_true true n = absurd (false-true n)
not_true false n = refl

pub returns-in_err-bytes-clause-tells : goal.returns-in_err-bytes-clause-tells
returns-in_err-bytes-clause-tells g t c h b least lo hi ag sub here small some from below =
    let R : Addr → Bool = is_on (g.V.View.count c.args.view.now) c.args.site.node in
    let s : State = stood h (g.V.View.overlay c.args.view.now) in
    tells_look c.from_residual.result c.args.at _ _ _ _ c.from_residual.ensures.1 (c.in_err-bytes.ensures.tells h ag)
    (on_served (g.V.View.reaches c.args.view.now) (g.V.View.count c.args.view.now) c.args.site.node c.args.at
    (ap R (sym here) ∙ sub.node.reached) c.requires.served)
    (some_not_none _ _ (ap s (sym here) ∙ sub.node.bytes))

pub returns-then-height-eq0-clause-onward : goal.returns-then-height-eq0-clause-onward
returns-then-height-eq0-clause-onward g t c =
    onward_then _ _ _ _ _ _ _ _ c.in_ok-bytes.ensures.onward c.remove_leaf.ensures.onward

pub returns-in_err-taken-clause-onward : goal.returns-in_err-taken-clause-onward
returns-in_err-taken-clause-onward g t c =
    onward_then _ _ _ _ _ _ _ _ c.in_ok-bytes.ensures.onward c.in_err-taken.ensures.onward

pub returns-then-not-taken-clause-onward : goal.returns-then-not-taken-clause-onward
returns-then-not-taken-clause-onward g t c =
    onward_then _ _ _ _ _ _ _ _ c.in_ok-bytes.ensures.onward c.in_ok-taken.ensures.onward

pub returns-in_err-thin-clause-onward : goal.returns-in_err-thin-clause-onward
returns-in_err-thin-clause-onward g t c =
    onward_then _ _ _ _ _ _ _ _
    (onward_then _ _ _ _ _ _ _ _ c.in_ok-bytes.ensures.onward c.in_ok-taken.ensures.onward)
    c.in_err-thin.ensures.onward

pub returns-clause-onward : goal.returns-clause-onward
returns-clause-onward g t c =
    onward_then _ _ _ _ _ _ _ _
    (onward_then _ _ _ _ _ _ _ _ c.in_ok-bytes.ensures.onward c.in_ok-taken.ensures.onward)
    c.in_ok-thin.ensures.onward

pub returns-then-height-eq0-clause-tells : goal.returns-then-height-eq0-clause-tells
returns-then-height-eq0-clause-tells g t c h b least lo hi ag sub here small some from below =
    let R : Addr → Bool = is_on (g.V.View.count c.args.view.now) c.args.site.node in
    let s : State = stood h (g.V.View.overlay c.args.view.now) in
    let s1 : State = stood h (g.V.View.overlay c.look.new.view) in
    let u : State = stood h (g.V.View.overlay c.remove_leaf.new.view) in
    let l : LeafOut R s c.args.site.owner least c.args.height c.args.key.now lo b hi c.args.at c.in_ok-bytes.bytes =
    leaf_out R s c.args.site.owner least c.args.height c.args.key.now lo b hi c.args.at c.in_ok-bytes.bytes
    c.if-height-eq0.true sub here ((c.in_ok-bytes.ensures.tells h (c.remove_leaf.ensures.onward.agreed h ag)).1) in
    let e : c.in-Some.body.now ≡ entries l.es = c.in-Some.ensures l.es (c.as_slice.ensures ∙ l.bytes_are) in
    let es1 : s1 ≡ s = ap (stood h) c.in_ok-bytes.ensures.overlay in
    tells_map c.remove_leaf.result _ _
    (λ taken w. l.up u taken small
    (subst (λ (x : State). LeafTaken x u c.args.site.owner c.args.at c.args.key.now l.es taken) es1 w))
    (c.remove_leaf.ensures.tells h l.es ag l.fits e l.few)

pub returns-in_default-route_in-clause-tells : goal.returns-in_default-route_in-clause-tells
returns-in_default-route_in-clause-tells g t c h b least lo hi ag sub here small some from below =
    let R : Addr → Bool = is_on (g.V.View.count c.args.view.now) c.args.site.node in
    let s : State = stood h (g.V.View.overlay c.args.view.now) in
    let d : DownOut R s c.args.site.owner least (c.args.height - 1) c.args.height c.args.key.now lo b hi c.args.at
    c.in_ok-bytes.bytes =
    down_out R s c.args.site.owner least c.args.height c.args.key.now lo b hi c.args.at c.in_ok-bytes.bytes
    c.if-height-eq0.false sub here ((c.in_ok-bytes.ensures.tells h ag).1) some small from below in
    let e : c.in-Some.body.now ≡ entries d.es = c.in-Some.ensures d.es (c.as_slice.ensures ∙ d.bytes_are) in
    c.in_default-route_in.ensures d.es d.fits e d.begins

pub returns-in_err-taken-clause-tells : goal.returns-in_err-taken-clause-tells
returns-in_err-taken-clause-tells g t c h b least lo hi ag sub here small some from below =
    let R : Addr → Bool = is_on (g.V.View.count c.args.view.now) c.args.site.node in
    let s : State = stood h (g.V.View.overlay c.args.view.now) in
    let d : DownOut R s c.args.site.owner least (c.args.height - 1) c.args.height c.args.key.now lo b hi c.args.at
    c.in_ok-bytes.bytes =
    down_out R s c.args.site.owner least c.args.height c.args.key.now lo b hi c.args.at c.in_ok-bytes.bytes
    c.if-height-eq0.false sub here ((c.in_ok-bytes.ensures.tells h (c.in_err-taken.ensures.onward.agreed h ag)).1)
    some small from below in
    let e : c.in-Some.body.now ≡ entries d.es = c.in-Some.ensures d.es (c.as_slice.ensures ∙ d.bytes_are) in
    let r : Route c.args.key.now d.es c.in-Some-route_in.front.now c.in-Some-route_in.word c.in-Some-route_in.back.now =
    c.in-Some-route_in.ensures d.es d.fits e d.begins in
    let q : ChildOut R s c.args.site.owner least (c.args.height - 1) c.args.height c.args.key.now lo b hi c.args.at
    r.low r.here r.high = d.child r.low r.here r.high r.are r.from r.ahead in
    let a : addr_of q.child.word ≡ c.addr_of.result = ap addr_of (q.word_is ∙ sym r.word_is) ∙ sym c.addr_of.ensures in
    let sub1 : Sub (is_on (g.V.View.count c.look.new.view) c.args.site.node)
    (stood h (g.V.View.overlay c.look.new.view)) c.args.site.owner 16 (c.args.height - 1) q.clo q.child q.chi =
    rw (c.in_ok-bytes.ensures.onward.steady.count, c.in_ok-bytes.ensures.overlay) q.sub in
    tells_from c.from_residual-in_err-taken.result _ _ _ c.from_residual-in_err-taken.ensures.1
    (c.in_err-taken.ensures.tells h q.child 16 q.clo q.chi ag sub1 a (omega arith) (λ z. omega arith) q.from q.upto)

pub returns-then-not-taken-clause-tells : goal.returns-then-not-taken-clause-tells
returns-then-not-taken-clause-tells g t c h b least lo hi ag sub here small some from below =
    let R : Addr → Bool = is_on (g.V.View.count c.args.view.now) c.args.site.node in
    let s : State = stood h (g.V.View.overlay c.args.view.now) in
    let d : DownOut R s c.args.site.owner least (c.args.height - 1) c.args.height c.args.key.now lo b hi c.args.at
    c.in_ok-bytes.bytes =
    down_out R s c.args.site.owner least c.args.height c.args.key.now lo b hi c.args.at c.in_ok-bytes.bytes
    c.if-height-eq0.false sub here ((c.in_ok-bytes.ensures.tells h (c.in_ok-taken.ensures.onward.agreed h ag)).1) some
    small from below in
    let e : c.in-Some.body.now ≡ entries d.es = c.in-Some.ensures d.es (c.as_slice.ensures ∙ d.bytes_are) in
    let r : Route c.args.key.now d.es c.in-Some-route_in.front.now c.in-Some-route_in.word c.in-Some-route_in.back.now =
    c.in-Some-route_in.ensures d.es d.fits e d.begins in
    let q : ChildOut R s c.args.site.owner least (c.args.height - 1) c.args.height c.args.key.now lo b hi c.args.at
    r.low r.here r.high = d.child r.low r.here r.high r.are r.from r.ahead in
    let a : addr_of q.child.word ≡ c.addr_of.result = ap addr_of (q.word_is ∙ sym r.word_is) ∙ sym c.addr_of.ensures in
    let sub1 : Sub (is_on (g.V.View.count c.look.new.view) c.args.site.node)
    (stood h (g.V.View.overlay c.look.new.view)) c.args.site.owner 16 (c.args.height - 1) q.clo q.child q.chi =
    rw (c.in_ok-bytes.ensures.onward.steady.count, c.in_ok-bytes.ensures.overlay) q.sub in
    let w = c.in_ok-taken.ensures.tells h q.child 16 q.clo q.chi ag sub1 a (omega arith) (λ z. omega arith) q.from
    q.upto in
    firm_as R (is_on (g.V.View.count c.look.new.view) c.args.site.node) s (stood h (g.V.View.overlay c.look.new.view))
    (stood h (g.V.View.overlay c.remove_at.new.view)) c.args.site.owner least (c.args.height - 1) c.args.height
    c.args.key.now lo b hi c.args.at r.low r.here r.high q c.in_ok-taken.taken
    (ap (λ (n : ℕ). is_on n c.args.site.node) c.in_ok-bytes.ensures.onward.steady.count)
    (ap (stood h) c.in_ok-bytes.ensures.overlay) w (not_true c.in_ok-taken.taken.thin c.if-not-taken.true)

pub returns-in_err-thin-clause-tells : goal.returns-in_err-thin-clause-tells
returns-in_err-thin-clause-tells g t c h b least lo hi ag sub here small some from below =
    let R : Addr → Bool = is_on (g.V.View.count c.args.view.now) c.args.site.node in
    let s : State = stood h (g.V.View.overlay c.args.view.now) in
    let d : DownOut R s c.args.site.owner least (c.args.height - 1) c.args.height c.args.key.now lo b hi c.args.at
    c.in_ok-bytes.bytes =
    down_out R s c.args.site.owner least c.args.height c.args.key.now lo b hi c.args.at c.in_ok-bytes.bytes
    c.if-height-eq0.false sub here
    ((c.in_ok-bytes.ensures.tells h
    (c.in_ok-taken.ensures.onward.agreed h (c.in_err-thin.ensures.onward.agreed h ag))).1) some small from below in
    let e : c.in-Some.body.now ≡ entries d.es = c.in-Some.ensures d.es (c.as_slice.ensures ∙ d.bytes_are) in
    let r : Route c.args.key.now d.es c.in-Some-route_in.front.now c.in-Some-route_in.word c.in-Some-route_in.back.now =
    c.in-Some-route_in.ensures d.es d.fits e d.begins in
    let q : ChildOut R s c.args.site.owner least (c.args.height - 1) c.args.height c.args.key.now lo b hi c.args.at
    r.low r.here r.high = d.child r.low r.here r.high r.are r.from r.ahead in
    let a : addr_of q.child.word ≡ c.addr_of.result = ap addr_of (q.word_is ∙ sym r.word_is) ∙ sym c.addr_of.ensures in
    let sub1 : Sub (is_on (g.V.View.count c.look.new.view) c.args.site.node)
    (stood h (g.V.View.overlay c.look.new.view)) c.args.site.owner 16 (c.args.height - 1) q.clo q.child q.chi =
    rw (c.in_ok-bytes.ensures.onward.steady.count, c.in_ok-bytes.ensures.overlay) q.sub in
    let mid = c.in_err-thin.ensures.onward.agreed h ag in
    let w = c.in_ok-taken.ensures.tells h q.child 16 q.clo q.chi mid sub1 a (omega arith) (λ z. omega arith) q.from
    q.upto in
    let rp : RouteParts r.low r.here r.high = route_parts d.es r.low r.here r.high r.are d.fits d.few in
    let rfew = rp.exact in
    let l0 = length-append r.low (r.here ∷ []) in
    let l1 : length {A = Entry} (r.here ∷ []) ≡ 1 = refl in
    let rt : RepairTells (is_on (g.V.View.count c.remove_at.new.view) c.args.site.node)
    (stood h (g.V.View.overlay c.remove_at.new.view)) (stood h (g.V.View.overlay c.repair.new.view)) c.args.site.owner
    c.args.at r.low r.here r.high (Err c.in_err-thin.field-0.0) = record {
      right = λ f high2 xs ys eh pair.
          let fh : AllByRecursion IsEntry (f ∷ high2) =
          subst (λ (x : List Entry). AllByRecursion IsEntry x) eh rp.high_fits in
          let l2 : length r.high ≡ length (f ∷ high2) = ap length eh in
          let l3 : length (f ∷ high2) ≡ suc (length high2) = refl in
          c.in_err-thin.ensures.right h r.low r.here f high2 xs ys ag rp.low_fits fh r.front_is
          (r.back_is ∙ ap entries eh) (omega (arith, rfew, l0, l1, l2, l3)) pair;
      left = λ low2 e2 xs ys eh el pair.
          let lf : AllByRecursion IsEntry ((low2 ++ e2 ∷ []) ++ r.here ∷ []) =
          subst (λ (x : List Entry). AllByRecursion IsEntry (x ++ r.here ∷ [])) el rp.low_fits in
          let l2 : length r.low ≡ length (low2 ++ e2 ∷ []) = ap length el in
          let l3 = length-append low2 (e2 ∷ []) in
          let l4 : length {A = Entry} (e2 ∷ []) ≡ 1 = refl in
          c.in_err-thin.ensures.left h low2 e2 r.here xs ys ag lf (all_left IsEntry (low2 ++ e2 ∷ []) (r.here ∷ []) lf)
          (r.front_is ∙ ap (λ (x : List Entry). entries (x ++ r.here ∷ [])) el) (r.back_is ∙ ap entries eh)
          (omega (arith, rfew, l0, l1, l2, l3, l4)) pair;
    } in
    tells_from c.from_residual-in_err-thin.result _ _ _ c.from_residual-in_err-thin.ensures.1
    (thin_as R (is_on (g.V.View.count c.look.new.view) c.args.site.node)
    (is_on (g.V.View.count c.remove_at.new.view) c.args.site.node) s (stood h (g.V.View.overlay c.look.new.view))
    (stood h (g.V.View.overlay c.remove_at.new.view)) (stood h (g.V.View.overlay c.repair.new.view)) c.args.site.owner
    least (c.args.height - 1) c.args.height c.args.key.now lo b hi c.args.at r.low r.here r.high q c.in_ok-taken.taken
    (Err c.in_err-thin.field-0.0) (ap (λ (n : ℕ). is_on n c.args.site.node) c.in_ok-bytes.ensures.onward.steady.count)
    (ap (λ (n : ℕ). is_on n c.args.site.node) c.in_ok-taken.ensures.onward.steady.count)
    (ap (stood h) c.in_ok-bytes.ensures.overlay) w rt)

pub returns-clause-tells : goal.returns-clause-tells
returns-clause-tells g t c h b least lo hi ag sub here small some from below =
    let R : Addr → Bool = is_on (g.V.View.count c.args.view.now) c.args.site.node in
    let s : State = stood h (g.V.View.overlay c.args.view.now) in
    let d : DownOut R s c.args.site.owner least (c.args.height - 1) c.args.height c.args.key.now lo b hi c.args.at
    c.in_ok-bytes.bytes =
    down_out R s c.args.site.owner least c.args.height c.args.key.now lo b hi c.args.at c.in_ok-bytes.bytes
    c.if-height-eq0.false sub here
    ((c.in_ok-bytes.ensures.tells h
    (c.in_ok-taken.ensures.onward.agreed h (c.in_ok-thin.ensures.onward.agreed h ag))).1) some small from below in
    let e : c.in-Some.body.now ≡ entries d.es = c.in-Some.ensures d.es (c.as_slice.ensures ∙ d.bytes_are) in
    let r : Route c.args.key.now d.es c.in-Some-route_in.front.now c.in-Some-route_in.word c.in-Some-route_in.back.now =
    c.in-Some-route_in.ensures d.es d.fits e d.begins in
    let q : ChildOut R s c.args.site.owner least (c.args.height - 1) c.args.height c.args.key.now lo b hi c.args.at
    r.low r.here r.high = d.child r.low r.here r.high r.are r.from r.ahead in
    let a : addr_of q.child.word ≡ c.addr_of.result = ap addr_of (q.word_is ∙ sym r.word_is) ∙ sym c.addr_of.ensures in
    let sub1 : Sub (is_on (g.V.View.count c.look.new.view) c.args.site.node)
    (stood h (g.V.View.overlay c.look.new.view)) c.args.site.owner 16 (c.args.height - 1) q.clo q.child q.chi =
    rw (c.in_ok-bytes.ensures.onward.steady.count, c.in_ok-bytes.ensures.overlay) q.sub in
    let mid = c.in_ok-thin.ensures.onward.agreed h ag in
    let w = c.in_ok-taken.ensures.tells h q.child 16 q.clo q.chi mid sub1 a (omega arith) (λ z. omega arith) q.from
    q.upto in
    let rp : RouteParts r.low r.here r.high = route_parts d.es r.low r.here r.high r.are d.fits d.few in
    let rfew = rp.exact in
    let l0 = length-append r.low (r.here ∷ []) in
    let l1 : length {A = Entry} (r.here ∷ []) ≡ 1 = refl in
    let rt : RepairTells (is_on (g.V.View.count c.remove_at.new.view) c.args.site.node)
    (stood h (g.V.View.overlay c.remove_at.new.view)) (stood h (g.V.View.overlay c.repair.new.view)) c.args.site.owner
    c.args.at r.low r.here r.high (Ok c.in_ok-thin.thin) = record {
      right = λ f high2 xs ys eh pair.
          let fh : AllByRecursion IsEntry (f ∷ high2) =
          subst (λ (x : List Entry). AllByRecursion IsEntry x) eh rp.high_fits in
          let l2 : length r.high ≡ length (f ∷ high2) = ap length eh in
          let l3 : length (f ∷ high2) ≡ suc (length high2) = refl in
          c.in_ok-thin.ensures.right h r.low r.here f high2 xs ys ag rp.low_fits fh r.front_is
          (r.back_is ∙ ap entries eh)
          (omega (arith, rfew, l0, l1, l2, l3)) pair;
      left = λ low2 e2 xs ys eh el pair.
          let lf : AllByRecursion IsEntry ((low2 ++ e2 ∷ []) ++ r.here ∷ []) =
          subst (λ (x : List Entry). AllByRecursion IsEntry (x ++ r.here ∷ [])) el rp.low_fits in
          let l2 : length r.low ≡ length (low2 ++ e2 ∷ []) = ap length el in
          let l3 = length-append low2 (e2 ∷ []) in
          let l4 : length {A = Entry} (e2 ∷ []) ≡ 1 = refl in
          c.in_ok-thin.ensures.left h low2 e2 r.here xs ys ag lf (all_left IsEntry (low2 ++ e2 ∷ []) (r.here ∷ []) lf)
          (r.front_is ∙ ap (λ (x : List Entry). entries (x ++ r.here ∷ [])) el) (r.back_is ∙ ap entries eh)
          (omega (arith, rfew, l0, l1, l2, l3, l4)) pair;
    } in
    thin_as R (is_on (g.V.View.count c.look.new.view) c.args.site.node)
    (is_on (g.V.View.count c.remove_at.new.view) c.args.site.node) s (stood h (g.V.View.overlay c.look.new.view))
    (stood h (g.V.View.overlay c.remove_at.new.view)) (stood h (g.V.View.overlay c.repair.new.view)) c.args.site.owner
    least (c.args.height - 1) c.args.height c.args.key.now lo b hi c.args.at r.low r.here r.high q c.in_ok-taken.taken
    (Ok c.in_ok-thin.thin) (ap (λ (n : ℕ). is_on n c.args.site.node) c.in_ok-bytes.ensures.onward.steady.count)
    (ap (λ (n : ℕ). is_on n c.args.site.node) c.in_ok-taken.ensures.onward.steady.count)
    (ap (stood h) c.in_ok-bytes.ensures.overlay) w rt
