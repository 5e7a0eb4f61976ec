use Rattle.farm_node.proofs.Common.{sym, refl, ap, ◌∙◌, arith, values, occupancy_of, counted, plain_of}
use Rattle.farm_node.proofs.Counts.{lengths, versions_are, objects_are, count_ends}
use Rattle.farm_node.proofs.Sweeping.{placed_by}
use Rattle.farm_node.proofs.node.Node.counts.Goals as goal

pub returns-clause-objects : goal.returns-clause-objects
returns-clause-objects c =
    let e = objects_are c.args.self.now.objects (occupancy_of c.args.self.now.places).regions c.values-object-items.ensures.ordered c.regions.ensures.sound.rising
    (placed_by (plain_of c.args.self.now) (occupancy_of c.args.self.now.places) c.regions.ensures.sound refl c.args.self.now.agrees) in
    let len = c.len-2.ensures.len in
    let fits = c.values-object-items.ensures.fits in
    omega (arith, e, len, fits)

pub returns-clause-versions : goal.returns-clause-versions
returns-clause-versions c =
    count_ends c.loop-object.object-iterator c.loop-object.versions (lengths (values c.args.self.now.objects)) c.in-None.ensures.steps.0 c.loop-object.invariant.so c.loop-object.invariant.small
    ∙ sym (ap counted (versions_are c.args.self.now.objects (occupancy_of c.args.self.now.places).regions c.values-object-items.ensures.ordered c.regions.ensures.sound.rising
    (placed_by (plain_of c.args.self.now) (occupancy_of c.args.self.now.places) c.regions.ensures.sound refl c.args.self.now.agrees)))
