use Rattle.farm_core.proofs.Advancing.{asks, steps, lacks}
use Rattle.farm_core.proofs.active.Active.advance.Goals as goal

pub act-requires : goal.act-requires
act-requires c = asks c.args.self.now c.args.nodes.now c.args.clock.now c.args.transaction c.args.event.now c.meets.result c.meets.ensures c.if-meets.true c.requires

pub returns-then-meets : goal.returns-then-meets
returns-then-meets c =
    steps c.args.self.now c.args.nodes.now c.args.clock.now c.args.transaction c.args.event.now c.meets.result c.meets.ensures c.if-meets.true c.act.new.self c.act.new.nodes c.act.new.clock c.act.result c.act.ensures

pub returns-else-meets : goal.returns-else-meets
returns-else-meets c = lacks c.args.self.now c.args.nodes.now c.args.clock.now c.args.transaction c.args.event.now c.meets.result c.meets.ensures c.if-meets.false
