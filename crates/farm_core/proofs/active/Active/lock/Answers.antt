use Rattle.std.proofs.Common.{sym, ap, ◌∙◌, refl, ◌++◌, ◌∷◌, [], List}
use Rattle.farm_core.proofs.Words.{Addr}
use Rattle.farm_core.proofs.Acting.{pinned_here, read_low, may_lock_here, lock_given, lock_refused, lock_failed}
use Rattle.farm_core.proofs.active.Active.lock.Goals as goal

pub lock-requires : goal.lock-requires
lock-requires c =
    let can = c.requires in
    record {
      pinned = pinned_here can.0 can.1 c.args.transaction c.args.self.now c.args.nodes.now can.2 c.args.at c.home-node.result c.index-nodes-node.result c.home-node.ensures.is can.3.0.0;
      stamp = read_low can.0 can.1 c.args.transaction c.args.self.now c.args.nodes.now can.2;
      may = may_lock_here can.0 can.1 c.args.transaction c.args.self.now c.args.nodes.now can.2 c.args.at c.home-node.result c.index-nodes-node.result c.home-node.ensures.is can.3.1;
    }

pub returns-in-Ok : goal.returns-in-Ok
returns-in-Ok c = λ s r at meets.
    lock_given s r c.args.transaction c.args.self.now c.args.nodes.now at c.args.at c.home-node.result c.index-nodes-node.result c.home-node.ensures.is
    c.lock.new.self c.args.new.now c.in_ok-new.new c.in_ok-new.ensures c.take.new.self c.in-Ok.locked c.in-Ok.ensures.made c.take.ensures.same c.take.ensures.reads
    (c.take.ensures.locked ∙ ap (λ (xs : List Addr). xs ++ c.args.at ∷ []) c.reserve.ensures.items)

pub returns-in-Ok-lock_fault : goal.returns-in-Ok-lock_fault
returns-in-Ok-lock_fault c = λ s r at meets.
    lock_refused s r c.args.transaction c.args.self.now c.args.nodes.now at c.args.at c.home-node.result c.index-nodes-node.result c.home-node.ensures.is
    c.lock.new.self c.args.new.now c.in_ok-new.new c.in_ok-new.ensures _ c.in-Err.fault c.in-Ok-lock_fault.fault c.fault_answer.result (sym c.in-Ok-lock_fault.ensures) c.fault_answer.ensures c.in-Err.ensures.made
    refl (refl, refl) refl c.reserve.ensures.items

pub returns-in-Err-lock_fault : goal.returns-in-Err-lock_fault
returns-in-Err-lock_fault c = λ s r at meets.
    lock_failed s r c.args.transaction c.args.self.now c.args.nodes.now at c.args.at c.home-node.result c.index-nodes-node.result c.home-node.ensures.is
    c.lock.new.self c.args.new.now c.in_ok-new.new c.in_ok-new.ensures _ c.in-Err.fault c.in-Err-lock_fault.memory (sym c.in-Err-lock_fault.ensures) c.in-Err.ensures.made
    refl (refl, refl) refl c.reserve.ensures.items
