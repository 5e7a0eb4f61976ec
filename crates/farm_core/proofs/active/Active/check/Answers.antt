use Rattle.farm_core.proofs.Acting.{pinned_here, read_low, write_low, free_here, check_same, check_refused}
use Rattle.farm_core.proofs.active.Active.check.Goals as goal

pub check-requires : goal.check-requires
check-requires c =
    let can = c.requires in
    record {
      pinned = pinned_here can.0 can.1 c.args.transaction c.args.self.now c.args.nodes.now can.2 c.args.at c.home-node.result c.index-nodes-node.result c.home-node.ensures.is can.3.0.0;
      stamps = (read_low can.0 can.1 c.args.transaction c.args.self.now c.args.nodes.now can.2, write_low can.0 can.1 c.args.transaction c.args.self.now c.args.nodes.now can.2);
      not_own = free_here can.0 can.1 c.args.transaction c.args.self.now c.args.nodes.now can.2 c.args.at c.home-node.result c.index-nodes-node.result c.home-node.ensures.is can.3.2;
    }

pub returns-in-Ok : goal.returns-in-Ok
returns-in-Ok c = λ s r at meets.
    check_same s r c.args.transaction c.args.self.now c.args.nodes.now at c.args.at c.home-node.result c.index-nodes-node.result c.home-node.ensures.is
    c.check.new.self c.check-in-Ok.new.self c.in-Ok.ensures c.check-in-Ok.ensures

pub returns-in-Err : goal.returns-in-Err
returns-in-Err c = λ s r at meets.
    check_refused s r c.args.transaction c.args.self.now c.args.nodes.now at c.args.at c.home-node.result c.index-nodes-node.result c.home-node.ensures.is
    c.check.new.self c.in-Err.fault c.fault_answer.result c.fault_answer.ensures c.in-Err.ensures
