use Rattle.std.proofs.Common.{◌≡◌, ◌<◌, ◌≤◌, ◌^◌, ℕ, max, length, arith}
use Rattle.transaction_part.specs.declared.part.Part.{Part}
use Rattle.transaction_part.specs.Part.{IsRunning}
use Rattle.farm_commit.specs.Nodes.{Lock}
use Rattle.farm_commit.specs.Steps.{LocksThere, StopsThere}
use Rattle.farm_commit.proofs.Stepping.{first_all, first_weaker, held_here, last_here, more_here, there_here}
use Rattle.farm_commit.proofs.NodeSteps.{ending_of, locks_higher, locks_stop, stays}
use Rattle.farm_commit.proofs.farm.Farm.lock_each.Goals as goal

pub lock_all-requires-clause-running : goal.lock_all-requires-clause-running
lock_all-requires-clause-running g c =
    held_here c.args.self.now.locks.items (λ _ l p. IsRunning l c.args.t c.args.r p) (LocksThere c.args.t c.args.r c.loop-node.top) c.args.parts.now.items c.loop-node.parts.items
    c.args.self.now.nodes c.loop-node.node c.index.result.now c.index_mut.result.now c.args.self.now.counted c.loop-node-test.true
    c.index.ensures c.index_mut.ensures.value c.requires.parts c.loop-node.invariant.step

pub returns-in-Err-clause-stopped : goal.returns-in-Err-clause-stopped
returns-in-Err-clause-stopped g c =
    let e = c.in-Err.ensures in
    let stopped = first_weaker c.args.self.now.locks.items (LocksThere c.args.t c.args.r c.loop-node.top) (StopsThere c.args.t c.args.r) c.loop-node.node c.args.parts.now.items c.loop-node.parts.items
    (λ i l p q. locks_stop c.args.t c.args.r c.loop-node.top i l p q) c.loop-node.invariant.step in (
      last_here c.args.self.now.locks.items (λ _ l p. IsRunning l c.args.t c.args.r p) (StopsThere c.args.t c.args.r) c.args.parts.now.items c.loop-node.parts.items
          c.args.self.now.nodes c.loop-node.node c.index.result.now c.index_mut.result.now c.args.self.now.counted c.loop-node-test.true
          c.index.ensures c.index_mut.ensures.value c.requires.parts stopped c.lock_all.new.self
          record { ending = c.lock_all.ensures.ending; grown = c.lock_all.ensures.grown; puts = c.lock_all.ensures.puts }
          (λ i k x at was runs. stays c.args.t c.args.r i k x (ending_of k c.args.t c.args.r x runs)),
      (
        c.loop-node.node,
        c.lock_all.new.self,
        there_here c.args.self.now.locks.items (λ _ l p. IsRunning l c.args.t c.args.r p) (StopsThere c.args.t c.args.r) c.args.parts.now.items c.loop-node.parts.items
            c.args.self.now.nodes c.loop-node.node c.index.result.now c.index_mut.result.now c.args.self.now.counted c.loop-node-test.true
            c.index.ensures c.index_mut.ensures.value c.requires.parts stopped c.lock_all.new.self,
        e.fault,
      ),
    )

pub loop-node-preserved : goal.loop-node-preserved
loop-node-preserved g c =
    let top : c.max-top.result ≡ max c.in-Ok.bound c.loop-node.top = c.max-top.ensures in
    let was : c.loop-node.top < 2 ^ 62 = c.loop-node.invariant.top in
    let bound : c.in-Ok.bound < 2 ^ 62 = c.in-Ok.ensures.top in
    let le : c.loop-node.top ≤ c.max-top.result = omega arith in
    let high : c.in-Ok.bound ≤ c.max-top.result = omega arith in
    let Higher : ℕ → Lock → Part → Part → Type 0 = LocksThere c.args.t c.args.r c.max-top.result in
    record {
      step = more_here c.args.self.now.locks.items (λ _ l p. IsRunning l c.args.t c.args.r p) Higher c.args.parts.now.items c.loop-node.parts.items
          c.args.self.now.nodes c.loop-node.node c.index.result.now c.index_mut.result.now c.args.self.now.counted c.loop-node-test.true
          c.index.ensures c.index_mut.ensures.value c.requires.parts
          (first_weaker c.args.self.now.locks.items (LocksThere c.args.t c.args.r c.loop-node.top) Higher c.loop-node.node c.args.parts.now.items c.loop-node.parts.items
          (λ i l p q. locks_higher c.args.t c.args.r c.loop-node.top c.max-top.result i l p q le) c.loop-node.invariant.step)
          c.lock_all.new.self
          record {
            locked = λ w above. c.in-Ok.ensures.locked w (omega arith);
            gave = c.in-Ok.ensures.gave;
            same = c.lock_all.ensures.addresses;
            grown = c.lock_all.ensures.grown;
            puts = c.lock_all.ensures.puts;
          };
      top = (let r : c.max-top.result < 2 ^ 62 = omega arith in r);
    }

pub returns-clause-locked : goal.returns-clause-locked
returns-clause-locked g c =
    let end : c.args.self.now.nodes ≤ c.loop-node.node = c.loop-node-test.false in
    let count : length c.args.self.now.locks.items ≡ c.args.self.now.nodes = c.args.self.now.counted in
    first_all c.args.self.now.locks.items (LocksThere c.args.t c.args.r c.loop-node.top) c.loop-node.node c.args.parts.now.items c.loop-node.parts.items (omega (arith, end, count)) c.loop-node.invariant.step
