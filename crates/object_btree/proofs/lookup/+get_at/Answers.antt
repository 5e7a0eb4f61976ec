use Rattle.std.proofs.Common.{◌≡◌, ◌-◌, Bool, sym, ap, ◌∙◌, arith}
use Rattle.a1_base.specs.declared.place.Addr.{Addr}
use Rattle.object_view.specs.Agreement.{stood, State}
use Rattle.object_view.specs.Layout.{entries, addr_of}
use Rattle.object_view.specs.Trees.{Sub, is_on}
use Rattle.object_view.proofs.Moving.{onward_then}
use Rattle.object_view.proofs.Views.{gives_look, on_served}
use Rattle.object_btree.proofs.Down.{LeafAt, leaf_at, DownAt, down_at, ChildAt}
use Rattle.object_btree.proofs.lookup.+get_at.Goals as goal

pub returns-in_default-route_in-clause-tells : goal.returns-in_default-route_in-clause-tells
returns-in_default-route_in-clause-tells g t c h b least lo hi ag sub here some from below =
    let R : Addr → Bool = is_on (g.V.View.count c.args.view.now) c.args.site.node in
    let s : State = stood h (g.V.View.overlay c.args.view.now) in
    let d : DownAt R s c.args.site.owner least (c.args.height - 1) c.args.height c.args.key.now 0 lo b hi c.args.at
    c.in_ok-bytes.bytes = down_at R s c.args.site.owner least c.args.height c.args.key.now 0 lo b hi c.args.at
    c.in_ok-bytes.bytes c.if-height-eq0.false sub here ((c.in_ok-bytes.ensures.tells h ag).1) from below in
    let e : c.in-Some.body.now ≡ entries d.es = c.in-Some.ensures d.es (c.as_slice.ensures ∙ d.bytes_are) in
    let n = c.if-height-eq0.false in
    c.in_default-route_in.ensures d.es d.fits e (d.begins (some (omega (arith, n))))

pub returns-clause-tells : goal.returns-clause-tells
returns-clause-tells g t c h b least lo hi ag sub here some from below =
    let R : Addr → Bool = is_on (g.V.View.count c.args.view.now) c.args.site.node in
    let s : State = stood h (g.V.View.overlay c.args.view.now) in
    let d : DownAt R s c.args.site.owner least (c.args.height - 1) c.args.height c.args.key.now 0 lo b hi c.args.at
    c.in_ok-bytes.bytes = down_at R s c.args.site.owner least c.args.height c.args.key.now 0 lo b hi c.args.at
    c.in_ok-bytes.bytes c.if-height-eq0.false sub here
    ((c.in_ok-bytes.ensures.tells h (c.get_at.ensures.onward.agreed h ag)).1) from below in
    let e : c.in-Some.body.now ≡ entries d.es = c.in-Some.ensures d.es (c.as_slice.ensures ∙ d.bytes_are) in
    let n = c.if-height-eq0.false in
    let r = c.in-Some-route_in.ensures d.es d.fits e (d.begins (some (omega (arith, n)))) in
    let q : ChildAt R s c.args.site.owner least (c.args.height - 1) c.args.height c.args.key.now 0 lo b hi c.args.at
    r.low r.here r.high = d.child r.low r.here r.high r.are r.from r.ahead in
    let a : addr_of q.child.word ≡ c.addr_of.result = ap addr_of (q.word_is ∙ sym r.word_is) ∙ sym c.addr_of.ensures in
    let sub1 : Sub (is_on (g.V.View.count c.look.new.view) c.args.site.node)
    (stood h (g.V.View.overlay c.look.new.view)) c.args.site.owner 16 (c.args.height - 1) q.clo q.child q.chi =
    rw (c.in_ok-bytes.ensures.onward.steady.count, c.in_ok-bytes.ensures.overlay) q.sub in
    rw (sym q.old) (c.get_at.ensures.tells h q.child 16 q.clo q.chi ag sub1 a (λ z. omega arith) q.from q.upto)

pub returns-then-height-eq0-clause-tells : goal.returns-then-height-eq0-clause-tells
returns-then-height-eq0-clause-tells g t c h b least lo hi ag sub here some from below =
    let R : Addr → Bool = is_on (g.V.View.count c.args.view.now) c.args.site.node in
    let s : State = stood h (g.V.View.overlay c.args.view.now) in
    let l : LeafAt R s c.args.site.owner least c.args.height c.args.key.now 0 lo b hi c.args.at c.in_ok-bytes.bytes =
    leaf_at R s c.args.site.owner least c.args.height c.args.key.now 0 lo b hi c.args.at c.in_ok-bytes.bytes
    c.if-height-eq0.true sub here ((c.in_ok-bytes.ensures.tells h ag).1) from below in
    let e : c.in-Some.body.now ≡ entries l.es = c.in-Some.ensures l.es (c.as_slice.ensures ∙ l.bytes_are) in
    rw (sym l.old) (c.find_in.ensures l.es l.fits e)

pub returns-in_err-bytes-clause-tells : goal.returns-in_err-bytes-clause-tells
returns-in_err-bytes-clause-tells g t c h b least lo hi ag sub here some from below =
    let R : Addr → Bool = is_on (g.V.View.count c.args.view.now) c.args.site.node in
    gives_look c.from_residual.result c.args.at _ _ _ _ _ c.from_residual.ensures.1
    (c.in_err-bytes.ensures.tells h ag)
    (on_served (g.V.View.reaches c.args.view.now) (g.V.View.count c.args.view.now) c.args.site.node c.args.at
    (ap R (sym here) ∙ sub.node.reached) c.requires.served)
    (ap (stood h (g.V.View.overlay c.args.view.now)) (sym here) ∙ sub.node.bytes)

pub returns-clause-onward : goal.returns-clause-onward
returns-clause-onward g t c = onward_then _ _ _ _ _ _ _ _ c.in_ok-bytes.ensures.onward c.get_at.ensures.onward
