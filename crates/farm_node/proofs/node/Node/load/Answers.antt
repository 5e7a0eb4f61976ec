use Rattle.farm_node.proofs.Common.{◌≡◌, ℕ, take, sym, refl, ◌∙◌, subst, nil_from_length, into_iter_items, with_objects, CanLoad, plain_of}
use Rattle.farm_node.proofs.Loads.{IsLoading, loading_more, loading_front, loading_done, on_err}
use Rattle.farm_node.proofs.Standing.{loads}
use Rattle.farm_node.proofs.node.Node.load.Goals as goal

pub loop-at-init : goal.loop-at-init
loop-at-init c =
    let e = c.into_iter-at-iterator.ensures.into_iter_gives in
    record { can = subst (CanLoad (plain_of c.args.self.now)) (sym e.0) c.requires.places; state = refl; stamp = c.requires.stamp; all = sym e.0 }

pub loop-at-preserved : goal.loop-at-preserved
loop-at-preserved c =
    loading_more (plain_of c.args.self.now) c.args.objects.items (plain_of c.loop-at.self) (plain_of c.load_one.new.self) c.loop-at.yielded (into_iter_items c.next.new.self) (c.in-Some.at, c.in-Some.bytes)
    (subst (IsLoading (plain_of c.args.self.now) c.args.objects.items (plain_of c.loop-at.self) c.loop-at.yielded) c.in-Some.ensures.steps.0 c.loop-at.invariant)
    c.in_ok-load_one.ensures.ok

pub returns-in_err-load_one-clause-err : goal.returns-in_err-load_one-clause-err
returns-in_err-load_one-clause-err c =
    on_err c.from_residual.result ((k : ℕ) × (plain_of c.load_one.new.self ≡ with_objects (plain_of c.args.self.now) (take k c.args.objects.items)))
    (loading_front (plain_of c.args.self.now) c.args.objects.items (plain_of c.loop-at.self) (plain_of c.load_one.new.self) c.loop-at.yielded (into_iter_items c.loop-at.at-iterator) c.loop-at.invariant c.in_err-load_one.ensures.err)

pub returns-clause-ok : goal.returns-clause-ok
returns-clause-ok c =
    loading_done (plain_of c.args.self.now) c.args.objects.items (plain_of c.loop-at.self) c.loop-at.yielded
    (subst (IsLoading (plain_of c.args.self.now) c.args.objects.items (plain_of c.loop-at.self) c.loop-at.yielded) (nil_from_length (into_iter_items c.loop-at.at-iterator) (sym c.loop-at.at-iterator.rest.ok.0 ∙ c.in-None.ensures.steps.0)) c.loop-at.invariant)

pub returns-clause-begins : goal.returns-clause-begins
returns-clause-begins c = λ m stands. loads c.args.self.now c.loop-at.self m c.args.objects.items stands c.requires.places (returns-clause-ok c)
