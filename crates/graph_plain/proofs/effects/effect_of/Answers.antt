use Rattle.std.proofs.Common.{◌≡◌, arith}
use Rattle.request_reader.specs.Operations.{effect}
use Rattle.graph_plain.specs.Draft.{now_of}
use Rattle.graph_plain.proofs.EffectLemmas.{ended}
use Rattle.graph_plain.proofs.effects.effect_of.Goals as goal

pub returns-clause-exact : goal.returns-clause-exact
returns-clause-exact c =
    rw c.changing-2.view_is (ended (effect (now_of c.args.draft.now) c.args.ops.now) (now_of c.loop-op.draft) c.loop-op.changing c.args.ops.now c.loop-op.op-index (omega arith) c.loop-op.invariant.now)
