use Rattle.std.proofs.lemmas.Result.{err_from_is_err_and}
use Rattle.a1_base.specs.Fronts.{several}
use Rattle.a1_value.specs.Encoding.{stored_front}
use Rattle.type_schema.proofs.Several.{goes_on, ends, is_done}
use Rattle.type_schema.proofs.layout.front_values.Goals as goal

pub returns-in_err-value : goal.returns-in_err-value
returns-in_err-value c =
    let p = err_from_is_err_and c.from_residual.result c.from_residual.ensures.1 in
    rw (p.1, p.2) (ends stored_front c.in_err-value.field-0.0 c.loop.values.items c.args.count c.loop.counter c.loop.rest.now (several c.args.count stored_front c.args.bytes.now) c.loop-test.true c.in_err-value.ensures c.loop.invariant)

pub loop-preserved : goal.loop-preserved
loop-preserved c =
    rw c.in_ok-push.ensures.items (goes_on stored_front c.loop.values.items c.args.count c.loop.counter c.loop.rest.now c.in_ok-value.value c.in_ok-value.after.now (several c.args.count stored_front c.args.bytes.now) c.loop-test.true c.in_ok-value.ensures c.loop.invariant)

pub returns : goal.returns
returns c = is_done stored_front c.loop.values.items c.args.count c.loop.counter c.loop.rest.now (several c.args.count stored_front c.args.bytes.now) c.loop-test.false c.loop.invariant
