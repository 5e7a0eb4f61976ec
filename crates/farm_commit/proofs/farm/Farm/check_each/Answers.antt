use Rattle.std.proofs.Common.{◌≡◌, ◌≤◌, length, ap, arith}
use Rattle.farm_node.specs.Story.{Story}
use Rattle.write_set.specs.Writes.{writes}
use Rattle.transaction_part.specs.Part.{IsLocked}
use Rattle.farm_commit.specs.Steps.{ChecksThere, StopsThere}
use Rattle.farm_commit.proofs.Stepping.{first_all, first_weaker, held_here, last_here, more_here, there_here}
use Rattle.farm_commit.proofs.NodeSteps.{checks_stop, stays}
use Rattle.farm_commit.proofs.farm.Farm.check_each.Goals as goal

pub check_all-requires-clause-locked : goal.check_all-requires-clause-locked
check_all-requires-clause-locked g c =
    held_here c.args.self.now.locks.items (λ _ l p. IsLocked l c.args.t c.args.r c.args.w p) (ChecksThere c.args.t c.args.r c.args.w c.args.self.now.nodes c.args.reads.now) c.args.parts.now.items c.loop-node.parts.items
    c.args.self.now.nodes c.loop-node.node c.index.result.now c.index_mut.result.now c.args.self.now.counted c.loop-node-test.true
    c.index.ensures c.index_mut.ensures.value c.requires.parts c.loop-node.invariant.step

pub returns-in-Err-clause-stopped : goal.returns-in-Err-clause-stopped
returns-in-Err-clause-stopped g c =
    let stopped = first_weaker c.args.self.now.locks.items (ChecksThere c.args.t c.args.r c.args.w c.args.self.now.nodes c.args.reads.now) (StopsThere c.args.t c.args.r) c.loop-node.node c.args.parts.now.items c.loop-node.parts.items
    (λ i l p q. checks_stop c.args.t c.args.r c.args.w c.args.self.now.nodes c.args.reads.now i l p q) c.loop-node.invariant.step in (
      last_here c.args.self.now.locks.items (λ _ l p. IsLocked l c.args.t c.args.r c.args.w p) (StopsThere c.args.t c.args.r) c.args.parts.now.items c.loop-node.parts.items
          c.args.self.now.nodes c.loop-node.node c.index.result.now c.index_mut.result.now c.args.self.now.counted c.loop-node-test.true
          c.index.ensures c.index_mut.ensures.value c.requires.parts stopped c.check_all.new.self
          record { ending = c.check_all.ensures.locked.ending; grown = c.check_all.ensures.grown; puts = λ a. ap (λ (h : Story). h.puts) (c.check_all.ensures.quiet a) }
          (λ i k x at was held. stays c.args.t c.args.r i k x held.ending),
      (
        c.loop-node.node,
        c.check_all.new.self,
        there_here c.args.self.now.locks.items (λ _ l p. IsLocked l c.args.t c.args.r c.args.w p) (StopsThere c.args.t c.args.r) c.args.parts.now.items c.loop-node.parts.items
            c.args.self.now.nodes c.loop-node.node c.index.result.now c.index_mut.result.now c.args.self.now.counted c.loop-node-test.true
            c.index.ensures c.index_mut.ensures.value c.requires.parts stopped c.check_all.new.self,
        c.in-Err.ensures.fault,
      ),
    )

pub loop-node-preserved : goal.loop-node-preserved
loop-node-preserved g c = record {
  step = more_here c.args.self.now.locks.items (λ _ l p. IsLocked l c.args.t c.args.r c.args.w p) (ChecksThere c.args.t c.args.r c.args.w c.args.self.now.nodes c.args.reads.now) c.args.parts.now.items c.loop-node.parts.items
      c.args.self.now.nodes c.loop-node.node c.index.result.now c.index_mut.result.now c.args.self.now.counted c.loop-node-test.true
      c.index.ensures c.index_mut.ensures.value c.requires.parts c.loop-node.invariant.step c.check_all.new.self
      record {
        locked = c.check_all.ensures.locked;
        checked = c.in-Ok.ensures.checked;
        same = ap writes c.check_all.ensures.writes;
        grown = c.check_all.ensures.grown;
        quiet = c.check_all.ensures.quiet;
      };
}

pub returns-clause-checked : goal.returns-clause-checked
returns-clause-checked g c =
    let end : c.args.self.now.nodes ≤ c.loop-node.node = c.loop-node-test.false in
    let count : length c.args.self.now.locks.items ≡ c.args.self.now.nodes = c.args.self.now.counted in
    first_all c.args.self.now.locks.items (ChecksThere c.args.t c.args.r c.args.w c.args.self.now.nodes c.args.reads.now) c.loop-node.node c.args.parts.now.items c.loop-node.parts.items (omega (arith, end, count)) c.loop-node.invariant.step
