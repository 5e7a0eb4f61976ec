use Rattle.std.proofs.Common.{Ok}
use Rattle.farm_core.specs.declared.event.Event.TheVariants as event
use Rattle.farm_core.proofs.Advancing.{acted_is, drawn_is, can_act, can_draw, node_is_there}
use Rattle.farm_core.proofs.active.Active.act.Goals as goal

pub read-requires : goal.read-requires
read-requires c = can_act c.args.self.now c.args.nodes.now c.args.clock.now c.in-Read.t c.args.event.now (event.Read c.in-Read.t c.in-Read.at) c.requires c.in-Read.is (λ t own. own)

pub returns-in-Read : goal.returns-in-Read
returns-in-Read c = acted_is _ _ _ _ _ c.in-Read.t _ (event.Read c.in-Read.t c.in-Read.at) c.read.result c.in-Read.is (λ t own. own) c.read.ensures

pub alloc-requires-clause-can : goal.alloc-requires-clause-can
alloc-requires-clause-can c = can_act c.args.self.now c.args.nodes.now c.args.clock.now c.in-Alloc.t c.args.event.now (event.Alloc c.in-Alloc.t c.in-Alloc.node c.in-Alloc.bytes) c.requires c.in-Alloc.is (λ t own. own)

pub alloc-requires-clause-node : goal.alloc-requires-clause-node
alloc-requires-clause-node c = node_is_there c.args.self.now c.args.nodes.now c.args.clock.now c.in-Alloc.t c.in-Alloc.node c.in-Alloc.bytes c.args.event.now c.requires c.in-Alloc.is

pub returns-in-Alloc : goal.returns-in-Alloc
returns-in-Alloc c = acted_is _ _ _ _ _ c.in-Alloc.t _ (event.Alloc c.in-Alloc.t c.in-Alloc.node c.in-Alloc.bytes) c.alloc.result c.in-Alloc.is (λ t own. own) c.alloc.ensures

pub lock-requires : goal.lock-requires
lock-requires c = can_act c.args.self.now c.args.nodes.now c.args.clock.now c.in-Lock.t c.args.event.now (event.Lock c.in-Lock.t c.in-Lock.at c.in-Lock.new) c.requires c.in-Lock.is (λ t own. own)

pub returns-in-Lock : goal.returns-in-Lock
returns-in-Lock c = acted_is _ _ _ _ _ c.in-Lock.t _ (event.Lock c.in-Lock.t c.in-Lock.at c.in-Lock.new) c.lock.result c.in-Lock.is (λ t own. own) c.lock.ensures

pub check-requires : goal.check-requires
check-requires c = can_act c.args.self.now c.args.nodes.now c.args.clock.now c.in-Check.t c.args.event.now (event.Check c.in-Check.t c.in-Check.at) c.requires c.in-Check.is (λ t own. own)

pub returns-in-Check : goal.returns-in-Check
returns-in-Check c = acted_is _ _ _ _ _ c.in-Check.t _ (event.Check c.in-Check.t c.in-Check.at) (Ok c.check.result) c.in-Check.is (λ t own. own) c.check.ensures

pub put-requires : goal.put-requires
put-requires c = can_act c.args.self.now c.args.nodes.now c.args.clock.now c.in-Put.t c.args.event.now (event.Put c.in-Put.t c.in-Put.at) c.requires c.in-Put.is (λ t own. own)

pub returns-in-Put : goal.returns-in-Put
returns-in-Put c = acted_is _ _ _ _ _ c.in-Put.t _ (event.Put c.in-Put.t c.in-Put.at) (Ok c.put.result) c.in-Put.is (λ t own. own) c.put.ensures

pub unlock-requires : goal.unlock-requires
unlock-requires c = can_act c.args.self.now c.args.nodes.now c.args.clock.now c.in-Unlock.t c.args.event.now (event.Unlock c.in-Unlock.t c.in-Unlock.at) c.requires c.in-Unlock.is (λ t own. own)

pub returns-in-Unlock : goal.returns-in-Unlock
returns-in-Unlock c = acted_is _ _ _ _ _ c.in-Unlock.t _ (event.Unlock c.in-Unlock.t c.in-Unlock.at) (Ok c.unlock.result) c.in-Unlock.is (λ t own. own) c.unlock.ensures

pub draw-requires : goal.draw-requires
draw-requires c = can_draw c.args.self.now c.args.nodes.now c.args.clock.now c.in-Draw.t c.args.event.now c.requires c.in-Draw.is

pub returns-in-Draw : goal.returns-in-Draw
returns-in-Draw c = drawn_is _ _ _ _ _ c.in-Draw.t _ (Ok c.draw.result) c.in-Draw.is c.draw.ensures
