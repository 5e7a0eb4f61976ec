use Rattle.std.proofs.Common.{◌≡◌, ◌<◌, ◌≤◌, ◌^◌, ℕ, max, length, sym, arith}
use Rattle.std.proofs.lemmas.Option.{slice_get_read}
use Rattle.transaction_part.specs.declared.part.Part.{Part}
use Rattle.transaction_part.specs.Part.{IsResting}
use Rattle.farm_commit.specs.Nodes.{Lock}
use Rattle.farm_commit.specs.Steps.{OpensThere}
use Rattle.farm_commit.proofs.Stepping.{first_all, first_weaker, held_here, more_here}
use Rattle.farm_commit.proofs.NodeSteps.{actors_at, opens_higher}
use Rattle.farm_commit.proofs.farm.Farm.open_each.Goals as goal

pub open-pin-requires-clause-resting : goal.open-pin-requires-clause-resting
open-pin-requires-clause-resting g c =
    held_here c.args.self.now.locks.items (λ _ l p. IsResting l c.args.actor p) (OpensThere c.args.actor c.args.clock c.loop-node.top) c.args.parts.now.items c.loop-node.parts.items
    c.args.self.now.nodes c.loop-node.node c.index.result.now c.index_mut.result.now c.args.self.now.counted c.loop-node-test.true
    c.index.ensures c.index_mut.ensures.value c.requires.parts c.loop-node.invariant.step

pub open-pin-requires-clause-actor : goal.open-pin-requires-clause-actor
open-pin-requires-clause-actor g c =
    let rests : IsResting c.index.result.now c.args.actor c.index_mut.result.now =
    held_here c.args.self.now.locks.items (λ _ l p. IsResting l c.args.actor p) (OpensThere c.args.actor c.args.clock c.loop-node.top) c.args.parts.now.items c.loop-node.parts.items
    c.args.self.now.nodes c.loop-node.node c.index.result.now c.index_mut.result.now c.args.self.now.counted c.loop-node-test.true
    c.index.ensures c.index_mut.ensures.value c.requires.parts c.loop-node.invariant.step in (
      c.requires.actor.0,
      actors_at c.args.self.now.locks.items c.args.self.now.nodes c.args.self.now.actors c.loop-node.node c.args.actor
          c.index.result.now c.index_mut.result.now c.args.self.now.numbered
          (slice_get_read c.args.self.now.locks.items c.args.self.now.nodes c.loop-node.node c.index.result.now (sym c.args.self.now.counted) c.loop-node-test.true c.index.ensures)
          rests.sits c.requires.actor.1,
    )

pub loop-node-preserved : goal.loop-node-preserved
loop-node-preserved g c =
    let top : c.max-top.result ≡ max c.open-pin.result c.loop-node.top = c.max-top.ensures in
    let was = c.loop-node.invariant.top in
    let pin = c.open-pin.ensures.pin in
    let le : c.loop-node.top ≤ c.max-top.result = omega arith in
    let high : c.open-pin.result ≤ c.max-top.result = omega arith in
    let Higher : ℕ → Lock → Part → Part → Type 0 = OpensThere c.args.actor c.args.clock c.max-top.result in
    record {
      step = more_here c.args.self.now.locks.items (λ _ l p. IsResting l c.args.actor p) Higher c.args.parts.now.items c.loop-node.parts.items
          c.args.self.now.nodes c.loop-node.node c.index.result.now c.index_mut.result.now c.args.self.now.counted c.loop-node-test.true
          c.index.ensures c.index_mut.ensures.value c.requires.parts
          (first_weaker c.args.self.now.locks.items (OpensThere c.args.actor c.args.clock c.loop-node.top) Higher c.loop-node.node c.args.parts.now.items c.loop-node.parts.items
          (λ i l p q. opens_higher c.args.actor c.args.clock c.loop-node.top c.max-top.result i l p q le) c.loop-node.invariant.step)
          c.open-pin.new.self
          record { pin = c.open-pin.result; went = c.open-pin.ensures.went; low = high; none = c.open-pin.ensures.none; runs = c.open-pin.ensures.running };
      top = (omega (arith, was.0, le), (let a = was.1 in let b = pin.1 in let r : c.max-top.result < 2 ^ 62 = omega (arith, a, b, top) in r));
    }

pub returns-clause-opened : goal.returns-clause-opened
returns-clause-opened g c =
    let end : c.args.self.now.nodes ≤ c.loop-node.node = c.loop-node-test.false in
    let count : length c.args.self.now.locks.items ≡ c.args.self.now.nodes = c.args.self.now.counted in
    first_all c.args.self.now.locks.items (OpensThere c.args.actor c.args.clock c.loop-node.top) c.loop-node.node c.args.parts.now.items c.loop-node.parts.items (omega (arith, end, count)) c.loop-node.invariant.step
