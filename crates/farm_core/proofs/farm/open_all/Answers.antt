use Rattle.std.proofs.Common.{◌<◌, ◌≤◌, ℕ, get_or, length, sym, ap, ◌∙◌, subst, arith}
use Rattle.farm_core.proofs.Words.{NodeState, Adds, plain_of}
use Rattle.farm_node.specs.declared.entry.Entry.TheVariants as entry
use Rattle.farm_core.proofs.EachNode.{next_is, each_more}
use Rattle.farm_core.proofs.farm.open_all.Goals as goal

pub open-requires : goal.open-requires
open-requires c =
    let low : c.loop-node.node-index < length c.loop-node.nodes = omega arith in
    let here = next_is _ c.args.nodes.now c.loop-node.node-index c.loop-node.nodes low c.node-item.result c.loop-node.invariant in
    let free = c.requires.free c.loop-node.node-index (omega arith) in
    record {
      actor = (c.requires.actor.0, subst (λ (p : NodeState). c.args.actor ≤ p.actors) (sym here) free.0);
      free = ap (λ (p : NodeState). p.pins c.args.actor) here ∙ free.1;
      stamp = c.requires.actor.1;
    }

pub loop-node-preserved : goal.loop-node-preserved
loop-node-preserved c =
    let low : c.loop-node.node-index < length c.loop-node.nodes = omega arith in
    each_more _ c.args.nodes.now c.loop-node.node-index c.loop-node.nodes low c.node-item.result c.loop-node.invariant c.open.new.self
    (subst (λ (x : ℕ). Adds (plain_of (get_or c.loop-node.nodes c.loop-node.node-index c.node-item.result)) (entry.Open c.args.actor c.args.stamp x) (plain_of c.open.new.self)) c.open.ensures.fits.4 c.open.ensures)
