use Rattle.farm_core.proofs.Acting.{write_low, may_put_here, put_acts}
use Rattle.farm_core.proofs.active.Active.put.Goals as goal

pub put-requires : goal.put-requires
put-requires c =
    let can = c.requires in
    record {
      may = may_put_here can.0 can.1 c.args.transaction c.args.self.now c.args.nodes.now can.2 c.args.at c.home-node.result c.index-nodes-node.result c.home-node.ensures.is can.3.0 can.3.1;
      stamp = write_low can.0 can.1 c.args.transaction c.args.self.now c.args.nodes.now can.2;
    }

pub returns : goal.returns
returns c = λ s r at meets.
    put_acts s r c.args.transaction c.args.self.now c.args.nodes.now at c.args.at c.home-node.result c.index-nodes-node.result c.home-node.ensures.is c.put.new.self c.put.ensures
