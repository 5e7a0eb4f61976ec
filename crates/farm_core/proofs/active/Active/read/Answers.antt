use Rattle.std.proofs.Common.{sym}
use Rattle.farm_core.proofs.Words.{read_set}
use Rattle.farm_core.proofs.Sets.{undone_if}
use Rattle.farm_core.proofs.Acting.{pinned_here, read_low, read_even, read_found, read_held, read_failed}
use Rattle.farm_core.proofs.active.Active.read.Goals as goal

pub insert-requires : goal.insert-requires
insert-requires c =
    let can = c.requires in
    read_even can.0 can.1 c.args.transaction c.args.self.now c.args.nodes.now can.2 c.args.at can.3.0 can.3.1

pub read-requires : goal.read-requires
read-requires c =
    let can = c.requires in
    record {
      pinned = pinned_here can.0 can.1 c.args.transaction c.args.self.now c.args.nodes.now can.2 c.args.at c.home-node.result c.index-nodes-node.result c.home-node.ensures.is can.3.0.0;
      stamp = read_low can.0 can.1 c.args.transaction c.args.self.now c.args.nodes.now can.2;
    }

pub returns-in-Ok : goal.returns-in-Ok
returns-in-Ok c = λ s r at meets.
    read_found s r c.args.transaction c.args.self.now c.args.nodes.now at c.args.at c.home-node.result c.index-nodes-node.result c.home-node.ensures.is c.read.new.self meets.0 meets.1
    c.insert.new.self c.in-Ok.found c.found_answer.result c.found_answer.ensures c.in_ok-new.ensures.ok c.in-Ok.ensures

pub returns-in-Ok-read_fault : goal.returns-in-Ok-read_fault
returns-in-Ok-read_fault c = λ s r at meets.
    read_held s r c.args.transaction c.args.self.now c.args.nodes.now at c.args.at c.home-node.result c.index-nodes-node.result c.home-node.ensures.is c.read.new.self meets.0 meets.1
    c.undo_insert.new.self c.in-Err.fault c.in-Ok-read_fault.by (sym c.in-Ok-read_fault.ensures)
    (undone_if c.args.at c.in_ok-new.new (read_set c.args.self.now.reads) (read_set c.insert.new.self) (read_set c.undo_insert.new.self)
    (read_even s r c.args.transaction c.args.self.now c.args.nodes.now at c.args.at meets.0 meets.1) c.in_ok-new.ensures.new c.in_ok-new.ensures.ok c.undo_insert.ensures) c.in-Err.ensures

pub returns-in-Err-read_fault : goal.returns-in-Err-read_fault
returns-in-Err-read_fault c = λ s r at meets.
    read_failed s r c.args.transaction c.args.self.now c.args.nodes.now at c.args.at c.home-node.result c.index-nodes-node.result c.home-node.ensures.is c.read.new.self meets.0 meets.1
    c.undo_insert.new.self c.in-Err.fault c.in-Err-read_fault.memory (sym c.in-Err-read_fault.ensures)
    (undone_if c.args.at c.in_ok-new.new (read_set c.args.self.now.reads) (read_set c.insert.new.self) (read_set c.undo_insert.new.self)
    (read_even s r c.args.transaction c.args.self.now c.args.nodes.now at c.args.at meets.0 meets.1) c.in_ok-new.ensures.new c.in_ok-new.ensures.ok c.undo_insert.ensures) c.in-Err.ensures
