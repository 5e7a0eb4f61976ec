use Rattle.std.proofs.Common.{◌≡◌, ◌≤◌, length, arith}
use Rattle.transaction_part.specs.Part.{IsLocked}
use Rattle.farm_commit.specs.Steps.{PutsAll}
use Rattle.farm_commit.proofs.Stepping.{first_all, first_none, held_here, more_here}
use Rattle.farm_commit.proofs.farm.Farm.install_each.Goals as goal

pub loop-node-init : goal.loop-node-init
loop-node-init g c = record { step = first_none c.args.self.now.locks.items (PutsAll c.args.t c.args.w) c.args.parts.now.items }

pub install-requires-clause-locked : goal.install-requires-clause-locked
install-requires-clause-locked g c = held_here c.args.self.now.locks.items (λ _ l p. IsLocked l c.args.t c.args.r c.args.w p) (PutsAll c.args.t c.args.w) c.args.parts.now.items c.loop-node.parts.items
    c.args.self.now.nodes c.loop-node.node c.index.result.now c.index_mut.result.now c.args.self.now.counted c.loop-node-test.true
    c.index.ensures c.index_mut.ensures.value c.requires.parts c.loop-node.invariant.step

pub loop-node-preserved : goal.loop-node-preserved
loop-node-preserved g c = record {
  step = more_here c.args.self.now.locks.items (λ _ l p. IsLocked l c.args.t c.args.r c.args.w p) (PutsAll c.args.t c.args.w) c.args.parts.now.items c.loop-node.parts.items
      c.args.self.now.nodes c.loop-node.node c.index.result.now c.index_mut.result.now c.args.self.now.counted c.loop-node-test.true
      c.index.ensures c.index_mut.ensures.value c.requires.parts c.loop-node.invariant.step c.install.new.self record { rests = c.install.ensures.resting; puts = c.install.ensures.puts; grown = c.install.ensures.grown };
}

pub returns : goal.returns
returns g c =
    let end : c.args.self.now.nodes ≤ c.loop-node.node = c.loop-node-test.false in
    let count : length c.args.self.now.locks.items ≡ c.args.self.now.nodes = c.args.self.now.counted in
    first_all c.args.self.now.locks.items (PutsAll c.args.t c.args.w) c.loop-node.node c.args.parts.now.items c.loop-node.parts.items (omega (arith, end, count))
    c.loop-node.invariant.step
