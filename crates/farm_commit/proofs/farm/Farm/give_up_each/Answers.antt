use Rattle.std.proofs.Common.{◌≡◌, ◌≤◌, length, arith}
use Rattle.transaction_part.specs.Part.{IsEnding}
use Rattle.farm_commit.specs.Steps.{RestsThere}
use Rattle.farm_commit.proofs.Stepping.{first_all, first_none, held_here, more_here}
use Rattle.farm_commit.proofs.farm.Farm.give_up_each.Goals as goal

pub loop-node-init : goal.loop-node-init
loop-node-init g c = record { step = first_none c.args.self.now.locks.items (RestsThere c.args.t.actor) c.args.parts.now.items }

pub give_up-requires : goal.give_up-requires
give_up-requires g c = record {
  ending = held_here c.args.self.now.locks.items (λ _ l p. IsEnding l c.args.t c.args.r p) (RestsThere c.args.t.actor) c.args.parts.now.items c.loop-node.parts.items
      c.args.self.now.nodes c.loop-node.node c.index.result.now c.index_mut.result.now c.args.self.now.counted c.loop-node-test.true
      c.index.ensures c.index_mut.ensures.value c.requires.parts c.loop-node.invariant.step;
}

pub loop-node-preserved : goal.loop-node-preserved
loop-node-preserved g c = record {
  step = more_here c.args.self.now.locks.items (λ _ l p. IsEnding l c.args.t c.args.r p) (RestsThere c.args.t.actor) c.args.parts.now.items c.loop-node.parts.items
      c.args.self.now.nodes c.loop-node.node c.index.result.now c.index_mut.result.now c.args.self.now.counted c.loop-node-test.true
      c.index.ensures c.index_mut.ensures.value c.requires.parts c.loop-node.invariant.step c.give_up.new.self record { rests = c.give_up.ensures.resting; quiet = c.give_up.ensures.quiet; grown = c.give_up.ensures.grown };
}

pub returns : goal.returns
returns g c =
    let end : c.args.self.now.nodes ≤ c.loop-node.node = c.loop-node-test.false in
    let count : length c.args.self.now.locks.items ≡ c.args.self.now.nodes = c.args.self.now.counted in
    first_all c.args.self.now.locks.items (RestsThere c.args.t.actor) c.loop-node.node c.args.parts.now.items c.loop-node.parts.items (omega (arith, end, count))
    c.loop-node.invariant.step
