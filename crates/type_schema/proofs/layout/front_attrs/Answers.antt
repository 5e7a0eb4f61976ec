use Rattle.std.proofs.lemmas.Result.{err_from_is_err_and}
use Rattle.a1_base.specs.Fronts.{several}
use Rattle.type_schema.specs.Reading.{attr_front}
use Rattle.type_schema.proofs.Several.{goes_on, ends, is_done}
use Rattle.type_schema.proofs.layout.front_attrs.Goals as goal

pub returns-in_err-attr : goal.returns-in_err-attr
returns-in_err-attr c =
    let p = err_from_is_err_and c.from_residual.result c.from_residual.ensures.1 in
    rw (p.1, p.2) (ends attr_front c.in_err-attr.field-0.0 c.loop.attrs.items c.args.count c.loop.counter c.loop.rest.now (several c.args.count attr_front c.args.bytes.now) c.loop-test.true c.in_err-attr.ensures c.loop.invariant)

pub loop-preserved : goal.loop-preserved
loop-preserved c =
    rw c.in_ok-push.ensures.items (goes_on attr_front c.loop.attrs.items c.args.count c.loop.counter c.loop.rest.now c.in_ok-attr.attr c.in_ok-attr.after.now (several c.args.count attr_front c.args.bytes.now) c.loop-test.true c.in_ok-attr.ensures c.loop.invariant)

pub returns : goal.returns
returns c = is_done attr_front c.loop.attrs.items c.args.count c.loop.counter c.loop.rest.now (several c.args.count attr_front c.args.bytes.now) c.loop-test.false c.loop.invariant
