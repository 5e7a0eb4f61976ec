use Rattle.std.proofs.Common.{◌∙◌, ◌+◌, List, sym, subst}
use Rattle.farm_core.proofs.Words.{Node}
use Rattle.farm_core.proofs.Running.{NodesBegun, begun_more}
use Rattle.farm_core.proofs.farm.new_nodes.Goals as goal

pub loop-number-preserved : goal.loop-number-preserved
loop-number-preserved c = record {
  begun = subst (λ (ns : List Node). NodesBegun c.args.count (c.loop-number.number + 1) ns) (sym c.push_reserved.ensures.items) (begun_more c.args.count c.loop-number.number c.loop-number.nodes.items c.in_ok-node.node c.loop-number.invariant.begun c.in_ok-node.ensures);
  room = c.push_reserved.ensures.capacity ∙ c.loop-number.invariant.room;
}
