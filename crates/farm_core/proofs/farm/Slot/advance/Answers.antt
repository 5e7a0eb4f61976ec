use Rattle.farm_core.proofs.Slots.{slot_active, slot_stepped, not_open, not_latest, none_open}
use Rattle.farm_core.proofs.farm.Slot.advance.Goals as goal

pub returns-then-self-transaction : goal.returns-then-self-transaction
returns-then-self-transaction c = λ s r at own.
    not_open s r c.args.transaction c.args.self.now c.args.nodes.now c.args.clock.now at c.args.event.now (not_latest s r c.args.transaction c.args.self.now c.args.nodes.now c.args.clock.now at c.if-self-transaction.true) own

pub advance-requires : goal.advance-requires
advance-requires c =
    let can = c.requires in
    (can.0, can.1, slot_active can.0 can.1 c.args.transaction c.args.self.now c.args.nodes.now c.args.clock.now can.2 c.in-Some.active c.in-Some.is c.if-self-transaction.false, can.3, can.4)

pub returns-in-Some : goal.returns-in-Some
returns-in-Some c = λ s r at own.
    slot_stepped s r c.args.transaction c.args.self.now c.args.nodes.now c.args.clock.now at c.args.event.now c.advance.new.self c.advance.new.nodes c.advance.new.clock c.advance.result c.if-self-transaction.false
    (c.advance.ensures s r (slot_active s r c.args.transaction c.args.self.now c.args.nodes.now c.args.clock.now at c.in-Some.active c.in-Some.is c.if-self-transaction.false) own)

pub returns-in-None : goal.returns-in-None
returns-in-None c = λ s r at own.
    not_open s r c.args.transaction c.args.self.now c.args.nodes.now c.args.clock.now at c.args.event.now (none_open s r c.args.transaction c.args.self.now c.args.nodes.now c.args.clock.now at c.in-None.is) own
