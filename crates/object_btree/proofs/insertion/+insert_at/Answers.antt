use Rattle.std.proofs.Common.{◌≡◌, ◌-◌, ℕ, Bool, [], ◌∷◌, ◌++◌, sym, ap, subst, ◌∙◌, arith}
use Rattle.a1_base.specs.declared.place.Addr.{Addr}
use Rattle.object_view.specs.Agreement.{stood, State}
use Rattle.object_view.specs.Layout.{entries, addr_of}
use Rattle.object_view.specs.Keys.{inserted}
use Rattle.object_view.specs.Trees.{is_on, Sub}
use Rattle.object_btree.specs.Steps.{Route, Packed}
use Rattle.object_view.proofs.Moving.{onward_then}
use Rattle.object_view.proofs.Views.{tells_from, look_err, on_served, tells_map, lasts_then, same_lasts, ok_lasts_then, stands_later}
use Rattle.object_btree.proofs.Down.{LeafAt, leaf_at, DownAt, down_at, ChildAt, RouteParts, route_parts, done_none, done_some, some_short}
use Rattle.object_btree.proofs.Grows.{packed_over}
use Rattle.object_btree.proofs.insertion.+insert_at.Goals as goal

pub returns-then-height-eq0-clause-onward : goal.returns-then-height-eq0-clause-onward
returns-then-height-eq0-clause-onward g t c =
    onward_then _ _ _ _ _ _ _ _ c.in_ok-bytes.ensures.onward c.put_leaf.ensures.onward

pub returns-then-height-eq0-clause-tells : goal.returns-then-height-eq0-clause-tells
returns-then-height-eq0-clause-tells g t c h b least lo hi ag sub here some from below =
    let R : Addr → Bool = is_on (g.V.View.count c.args.view.now) c.args.site.node in
    let R1 : Addr → Bool = is_on (g.V.View.count c.look.new.view) c.args.site.node in
    let s : State = stood h (g.V.View.overlay c.args.view.now) in
    let s1 : State = stood h (g.V.View.overlay c.look.new.view) in
    let u : State = stood h (g.V.View.overlay c.put_leaf.new.view) in
    let l : LeafAt R s c.args.site.owner least c.args.height c.args.key.now c.args.value lo b hi c.args.at
    c.in_ok-bytes.bytes = leaf_at R s c.args.site.owner least c.args.height c.args.key.now c.args.value lo b hi
    c.args.at c.in_ok-bytes.bytes c.if-height-eq0.true sub here
    ((c.in_ok-bytes.ensures.tells h (c.put_leaf.ensures.onward.agreed h ag)).1) from below in
    let e : c.in-Some.body.now ≡ entries l.es = c.in-Some.ensures l.es (c.as_slice.ensures ∙ l.bytes_are) in
    let es1 : s1 ≡ s = ap (stood h) c.in_ok-bytes.ensures.overlay in
    tells_map c.put_leaf.result _ _ (λ put w.
    let p1 : Packed R s1 u c.args.site.owner c.args.at (inserted c.args.key.now c.args.value l.es) put.more =
    subst (λ (r : Addr → Bool). Packed r s1 u c.args.site.owner c.args.at
    (inserted c.args.key.now c.args.value l.es) put.more)
    (ap (λ (n : ℕ). is_on n c.args.site.node) c.in_ok-bytes.ensures.onward.steady.count) w.0 in
    let p2 : Packed R s u c.args.site.owner c.args.at (inserted c.args.key.now c.args.value l.es) put.more =
    subst (λ (x : State). Packed R x u c.args.site.owner c.args.at (inserted c.args.key.now c.args.value l.es)
    put.more) es1 p1 in
    record {
      grown = l.up u put.more (omega arith) c.requires.some c.requires.key p2;
      full = λ m z. l.full (packed_over R s u c.args.site.owner c.args.at
          (inserted c.args.key.now c.args.value l.es) put.more m p2 z);
      old = w.1 ∙ l.old;
    }) (c.put_leaf.ensures.tells h l.es ag l.fits e l.few)

pub returns-in_err-bytes-clause-tells : goal.returns-in_err-bytes-clause-tells
returns-in_err-bytes-clause-tells g t c h b least lo hi ag sub here some from below =
    let R : Addr → Bool = is_on (g.V.View.count c.args.view.now) c.args.site.node in
    tells_from c.from_residual.result _ _ (λ (x : Bool). Bool) c.from_residual.ensures.1
    (look_err c.args.at _ _ _ _ _ (c.in_err-bytes.ensures.tells h ag)
    (on_served (g.V.View.reaches c.args.view.now) (g.V.View.count c.args.view.now) c.args.site.node c.args.at
    (ap R (sym here) ∙ sub.node.reached) c.requires.served)
    (ap (stood h (g.V.View.overlay c.args.view.now)) (sym here) ∙ sub.node.bytes))

pub returns-in_default-route_in-clause-tells : goal.returns-in_default-route_in-clause-tells
returns-in_default-route_in-clause-tells g t c h b least lo hi ag sub here some from below =
    let R : Addr → Bool = is_on (g.V.View.count c.args.view.now) c.args.site.node in
    let s : State = stood h (g.V.View.overlay c.args.view.now) in
    let d : DownAt R s c.args.site.owner least (c.args.height - 1) c.args.height c.args.key.now c.args.value lo b hi
    c.args.at c.in_ok-bytes.bytes =
    down_at R s c.args.site.owner least c.args.height c.args.key.now c.args.value lo b hi c.args.at
    c.in_ok-bytes.bytes c.if-height-eq0.false sub here ((c.in_ok-bytes.ensures.tells h ag).1) from below in
    let e : c.in-Some.body.now ≡ entries d.es = c.in-Some.ensures d.es (c.as_slice.ensures ∙ d.bytes_are) in
    let n = c.if-height-eq0.false in
    c.in_default-route_in.ensures d.es d.fits e (d.begins (some (omega (arith, n))))

pub returns-in_err-put-clause-onward : goal.returns-in_err-put-clause-onward
returns-in_err-put-clause-onward g t c =
    onward_then _ _ _ _ _ _ _ _ c.in_ok-bytes.ensures.onward c.in_err-put.ensures.onward

pub returns-in-None-clause-onward : goal.returns-in-None-clause-onward
returns-in-None-clause-onward g t c =
    onward_then _ _ _ _ _ _ _ _ c.in_ok-bytes.ensures.onward c.in_ok-put.ensures.onward

pub returns-in_err-more-in-Some-more-clause-onward : goal.returns-in_err-more-in-Some-more-clause-onward
returns-in_err-more-in-Some-more-clause-onward g t c =
    onward_then _ _ _ _ _ _ _ _ (onward_then _ _ _ _ _ _ _ _ c.in_ok-bytes.ensures.onward c.in_ok-put.ensures.onward)
    c.in_err-more-in-Some-more.ensures.onward

pub returns-clause-onward : goal.returns-clause-onward
returns-clause-onward g t c =
    onward_then _ _ _ _ _ _ _ _ (onward_then _ _ _ _ _ _ _ _ c.in_ok-bytes.ensures.onward c.in_ok-put.ensures.onward)
    c.in_ok-more-in-Some-more.ensures.onward

pub put_child-requires-clause-stands : goal.put_child-requires-clause-stands
put_child-requires-clause-stands g t c =
    stands_later _ _ _ _ c.args.at c.in_ok-bytes.ensures.stands c.in_ok-put.ensures.onward.agreed
    c.in_ok-put.ensures.lasts

pub returns-in_err-put-clause-tells : goal.returns-in_err-put-clause-tells
returns-in_err-put-clause-tells g t c h b least lo hi ag sub here some from below =
    let R : Addr → Bool = is_on (g.V.View.count c.args.view.now) c.args.site.node in
    let s : State = stood h (g.V.View.overlay c.args.view.now) in
    let d : DownAt R s c.args.site.owner least (c.args.height - 1) c.args.height c.args.key.now c.args.value lo b hi
    c.args.at c.in_ok-bytes.bytes =
    down_at R s c.args.site.owner least c.args.height c.args.key.now c.args.value lo b hi c.args.at
    c.in_ok-bytes.bytes c.if-height-eq0.false sub here
    ((c.in_ok-bytes.ensures.tells h (c.in_err-put.ensures.onward.agreed h ag)).1) from below in
    let e : c.in-Some.body.now ≡ entries d.es = c.in-Some.ensures d.es (c.as_slice.ensures ∙ d.bytes_are) in
    let n = c.if-height-eq0.false in
    let r : Route c.args.key.now d.es c.in-Some-route_in.front.now c.in-Some-route_in.word c.in-Some-route_in.back.now =
    c.in-Some-route_in.ensures d.es d.fits e (d.begins (some (omega (arith, n)))) in
    let q : ChildAt R s c.args.site.owner least (c.args.height - 1) c.args.height c.args.key.now c.args.value lo b hi
    c.args.at r.low r.here r.high = d.child r.low r.here r.high r.are r.from r.ahead in
    let a : addr_of q.child.word ≡ c.addr_of.result = ap addr_of (q.word_is ∙ sym r.word_is) ∙ sym c.addr_of.ensures in
    let sub1 : Sub (is_on (g.V.View.count c.look.new.view) c.args.site.node)
    (stood h (g.V.View.overlay c.look.new.view)) c.args.site.owner 16 (c.args.height - 1) q.clo q.child q.chi =
    rw (c.in_ok-bytes.ensures.onward.steady.count, c.in_ok-bytes.ensures.overlay) q.sub in
    tells_from c.from_residual-in_err-put.result _ _ _ c.from_residual-in_err-put.ensures.1
    (c.in_err-put.ensures.tells h q.child 16 q.clo q.chi ag sub1 a (λ z. omega arith) q.from q.upto)

pub returns-in-None-clause-tells : goal.returns-in-None-clause-tells
returns-in-None-clause-tells g t c h b least lo hi ag sub here some from below =
    let R : Addr → Bool = is_on (g.V.View.count c.args.view.now) c.args.site.node in
    let s : State = stood h (g.V.View.overlay c.args.view.now) in
    let d : DownAt R s c.args.site.owner least (c.args.height - 1) c.args.height c.args.key.now c.args.value lo b hi
    c.args.at c.in_ok-bytes.bytes =
    down_at R s c.args.site.owner least c.args.height c.args.key.now c.args.value lo b hi c.args.at
    c.in_ok-bytes.bytes c.if-height-eq0.false sub here
    ((c.in_ok-bytes.ensures.tells h (c.in_ok-put.ensures.onward.agreed h ag)).1) from below in
    let e : c.in-Some.body.now ≡ entries d.es = c.in-Some.ensures d.es (c.as_slice.ensures ∙ d.bytes_are) in
    let n = c.if-height-eq0.false in
    let r : Route c.args.key.now d.es c.in-Some-route_in.front.now c.in-Some-route_in.word c.in-Some-route_in.back.now =
    c.in-Some-route_in.ensures d.es d.fits e (d.begins (some (omega (arith, n)))) in
    let q : ChildAt R s c.args.site.owner least (c.args.height - 1) c.args.height c.args.key.now c.args.value lo b hi
    c.args.at r.low r.here r.high = d.child r.low r.here r.high r.are r.from r.ahead in
    let a : addr_of q.child.word ≡ c.addr_of.result = ap addr_of (q.word_is ∙ sym r.word_is) ∙ sym c.addr_of.ensures in
    let sub1 : Sub (is_on (g.V.View.count c.look.new.view) c.args.site.node)
    (stood h (g.V.View.overlay c.look.new.view)) c.args.site.owner 16 (c.args.height - 1) q.clo q.child q.chi =
    rw (c.in_ok-bytes.ensures.onward.steady.count, c.in_ok-bytes.ensures.overlay) q.sub in
    let w = c.in_ok-put.ensures.tells h q.child 16 q.clo q.chi ag sub1 a (λ z. omega arith) q.from q.upto in
    done_none R (is_on (g.V.View.count c.look.new.view) c.args.site.node) s (stood h (g.V.View.overlay c.look.new.view))
    (stood h (g.V.View.overlay c.insert_at.new.view)) c.args.site.owner least (c.args.height - 1) c.args.height
    c.args.key.now c.args.value lo b hi c.args.at r.low r.here r.high q c.in_ok-put.put
    (ap (λ (n : ℕ). is_on n c.args.site.node) c.in_ok-bytes.ensures.onward.steady.count)
    (ap (stood h) c.in_ok-bytes.ensures.overlay) w c.in-None.is (λ x z. c.in_ok-put.ensures.lasts h ag x z)

pub returns-in_err-more-in-Some-more-clause-tells : goal.returns-in_err-more-in-Some-more-clause-tells
returns-in_err-more-in-Some-more-clause-tells g t c h b least lo hi ag sub here some from below =
    let R : Addr → Bool = is_on (g.V.View.count c.args.view.now) c.args.site.node in
    let s : State = stood h (g.V.View.overlay c.args.view.now) in
    let d : DownAt R s c.args.site.owner least (c.args.height - 1) c.args.height c.args.key.now c.args.value lo b hi
    c.args.at c.in_ok-bytes.bytes =
    down_at R s c.args.site.owner least c.args.height c.args.key.now c.args.value lo b hi c.args.at
    c.in_ok-bytes.bytes c.if-height-eq0.false sub here
    ((c.in_ok-bytes.ensures.tells h
    (c.in_ok-put.ensures.onward.agreed h (c.in_err-more-in-Some-more.ensures.onward.agreed h ag))).1) from below in
    let e : c.in-Some.body.now ≡ entries d.es = c.in-Some.ensures d.es (c.as_slice.ensures ∙ d.bytes_are) in
    let n = c.if-height-eq0.false in
    let r : Route c.args.key.now d.es c.in-Some-route_in.front.now c.in-Some-route_in.word c.in-Some-route_in.back.now =
    c.in-Some-route_in.ensures d.es d.fits e (d.begins (some (omega (arith, n)))) in
    let q : ChildAt R s c.args.site.owner least (c.args.height - 1) c.args.height c.args.key.now c.args.value lo b hi
    c.args.at r.low r.here r.high = d.child r.low r.here r.high r.are r.from r.ahead in
    let a : addr_of q.child.word ≡ c.addr_of.result = ap addr_of (q.word_is ∙ sym r.word_is) ∙ sym c.addr_of.ensures in
    let sub1 : Sub (is_on (g.V.View.count c.look.new.view) c.args.site.node)
    (stood h (g.V.View.overlay c.look.new.view)) c.args.site.owner 16 (c.args.height - 1) q.clo q.child q.chi =
    rw (c.in_ok-bytes.ensures.onward.steady.count, c.in_ok-bytes.ensures.overlay) q.sub in
    let mid = c.in_err-more-in-Some-more.ensures.onward.agreed h ag in
    let w = c.in_ok-put.ensures.tells h q.child 16 q.clo q.chi mid sub1 a (λ z. omega arith) q.from q.upto in
    let short = some_short R (is_on (g.V.View.count c.look.new.view) c.args.site.node) s
    (stood h (g.V.View.overlay c.look.new.view)) (stood h (g.V.View.overlay c.insert_at.new.view)) c.args.site.owner
    (c.args.height - 1) c.args.key.now c.args.value q.clo q.child q.chi c.in_ok-put.put c.in-Some-more.split w
    c.in-Some-more.is in
    let rp : RouteParts r.low r.here r.high = route_parts d.es r.low r.here r.high r.are d.fits d.few in
    tells_from c.from_residual-in_err-more-in-Some-more.result _ _ _ c.from_residual-in_err-more-in-Some-more.ensures.1
    (c.in_err-more-in-Some-more.ensures.tells h (r.low ++ r.here ∷ []) r.high ag r.front_is r.back_is rp.low_fits
    rp.high_fits rp.few short)

pub returns-clause-tells : goal.returns-clause-tells
returns-clause-tells g t c h b least lo hi ag sub here some from below =
    let R : Addr → Bool = is_on (g.V.View.count c.args.view.now) c.args.site.node in
    let s : State = stood h (g.V.View.overlay c.args.view.now) in
    let d : DownAt R s c.args.site.owner least (c.args.height - 1) c.args.height c.args.key.now c.args.value lo b hi
    c.args.at c.in_ok-bytes.bytes =
    down_at R s c.args.site.owner least c.args.height c.args.key.now c.args.value lo b hi c.args.at
    c.in_ok-bytes.bytes c.if-height-eq0.false sub here
    ((c.in_ok-bytes.ensures.tells h
    (c.in_ok-put.ensures.onward.agreed h (c.in_ok-more-in-Some-more.ensures.onward.agreed h ag))).1) from below in
    let e : c.in-Some.body.now ≡ entries d.es = c.in-Some.ensures d.es (c.as_slice.ensures ∙ d.bytes_are) in
    let n = c.if-height-eq0.false in
    let r : Route c.args.key.now d.es c.in-Some-route_in.front.now c.in-Some-route_in.word c.in-Some-route_in.back.now =
    c.in-Some-route_in.ensures d.es d.fits e (d.begins (some (omega (arith, n)))) in
    let q : ChildAt R s c.args.site.owner least (c.args.height - 1) c.args.height c.args.key.now c.args.value lo b hi
    c.args.at r.low r.here r.high = d.child r.low r.here r.high r.are r.from r.ahead in
    let a : addr_of q.child.word ≡ c.addr_of.result = ap addr_of (q.word_is ∙ sym r.word_is) ∙ sym c.addr_of.ensures in
    let sub1 : Sub (is_on (g.V.View.count c.look.new.view) c.args.site.node)
    (stood h (g.V.View.overlay c.look.new.view)) c.args.site.owner 16 (c.args.height - 1) q.clo q.child q.chi =
    rw (c.in_ok-bytes.ensures.onward.steady.count, c.in_ok-bytes.ensures.overlay) q.sub in
    let mid = c.in_ok-more-in-Some-more.ensures.onward.agreed h ag in
    let w = c.in_ok-put.ensures.tells h q.child 16 q.clo q.chi mid sub1 a (λ z. omega arith) q.from q.upto in
    let short = some_short R (is_on (g.V.View.count c.look.new.view) c.args.site.node) s
    (stood h (g.V.View.overlay c.look.new.view)) (stood h (g.V.View.overlay c.insert_at.new.view)) c.args.site.owner
    (c.args.height - 1) c.args.key.now c.args.value q.clo q.child q.chi c.in_ok-put.put c.in-Some-more.split w
    c.in-Some-more.is in
    let rp : RouteParts r.low r.here r.high = route_parts d.es r.low r.here r.high r.are d.fits d.few in
    let p = c.in_ok-more-in-Some-more.ensures.tells h (r.low ++ r.here ∷ []) r.high ag r.front_is r.back_is rp.low_fits
    rp.high_fits rp.few short in
    done_some R (is_on (g.V.View.count c.look.new.view) c.args.site.node)
    (is_on (g.V.View.count c.insert_at.new.view) c.args.site.node) s (stood h (g.V.View.overlay c.look.new.view))
    (stood h (g.V.View.overlay c.insert_at.new.view)) (stood h (g.V.View.overlay c.put_child.new.view))
    c.args.site.owner least (c.args.height - 1) c.args.height c.args.key.now c.args.value lo b hi c.args.at r.low
    r.here r.high q c.in_ok-put.put c.in-Some-more.split c.in_ok-more-in-Some-more.more
    (ap (λ (n : ℕ). is_on n c.args.site.node) c.in_ok-bytes.ensures.onward.steady.count)
    (ap (λ (n : ℕ). is_on n c.args.site.node) c.in_ok-put.ensures.onward.steady.count)
    (ap (stood h) c.in_ok-bytes.ensures.overlay) w c.in-Some-more.is (λ x z. c.in_ok-put.ensures.lasts h mid x z) p

pub returns-then-height-eq0-clause-lasts : goal.returns-then-height-eq0-clause-lasts
returns-then-height-eq0-clause-lasts g t c = ok_lasts_then c.put_leaf.result _ _ _ _ _
    (same_lasts _ _ _ c.in_ok-bytes.ensures.overlay) c.put_leaf.ensures.onward.agreed c.put_leaf.ensures.lasts

pub returns-in-None-clause-lasts : goal.returns-in-None-clause-lasts
returns-in-None-clause-lasts g t c =
    lasts_then _ _ _ _ _ (same_lasts _ _ _ c.in_ok-bytes.ensures.overlay) c.in_ok-put.ensures.onward.agreed
    c.in_ok-put.ensures.lasts

pub returns-clause-lasts : goal.returns-clause-lasts
returns-clause-lasts g t c =
    lasts_then _ _ _ _ _
    (lasts_then _ _ _ _ _ (same_lasts _ _ _ c.in_ok-bytes.ensures.overlay) c.in_ok-put.ensures.onward.agreed
    c.in_ok-put.ensures.lasts)
    c.in_ok-more-in-Some-more.ensures.onward.agreed c.in_ok-more-in-Some-more.ensures.lasts
