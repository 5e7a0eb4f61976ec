use Rattle.farm_core.proofs.Acting.{held_here, unlock_acts}
use Rattle.farm_core.proofs.active.Active.unlock.Goals as goal

pub unlock-requires : goal.unlock-requires
unlock-requires c =
    let can = c.requires in
    record {
      held = held_here can.0 can.1 c.args.transaction c.args.self.now c.args.nodes.now can.2 c.args.at c.home-node.result c.index-nodes-node.result c.home-node.ensures.is can.3.1;
    }

pub returns : goal.returns
returns c = λ s r at meets.
    unlock_acts s r c.args.transaction c.args.self.now c.args.nodes.now at c.args.at c.home-node.result c.index-nodes-node.result c.home-node.ensures.is c.unlock.new.self c.unlock.ensures
