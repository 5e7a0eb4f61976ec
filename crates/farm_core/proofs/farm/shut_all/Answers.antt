use Rattle.std.proofs.Common.{◌<◌, length, ap, ◌∙◌, arith}
use Rattle.farm_core.proofs.Words.{NodeState}
use Rattle.farm_core.proofs.EachNode.{next_is, each_more}
use Rattle.farm_core.proofs.farm.shut_all.Goals as goal

pub shut-requires : goal.shut-requires
shut-requires c =
    let low : c.loop-node.node-index < length c.loop-node.nodes = omega arith in
    let here = next_is _ c.args.nodes.now c.loop-node.node-index c.loop-node.nodes low c.node-item.result c.loop-node.invariant in
    let pin = c.requires c.loop-node.node-index (omega arith) in
    record { pinned = (pin.0, ap (λ (p : NodeState). p.pins c.args.actor) here ∙ pin.1) }

pub loop-node-preserved : goal.loop-node-preserved
loop-node-preserved c =
    let low : c.loop-node.node-index < length c.loop-node.nodes = omega arith in
    each_more _ c.args.nodes.now c.loop-node.node-index c.loop-node.nodes low c.node-item.result c.loop-node.invariant c.shut.new.self c.shut.ensures
