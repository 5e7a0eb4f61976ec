use Rattle.farm_node.proofs.Common.{◌≡◌, ◌+◌, is_some, refl, ap, ◌∙◌, arith, occupancy_of, plain_of}
use mir.Val.{bool_byte}
use Rattle.farm_node.proofs.Sweeping.{sweeping_begins, sweeping_more, sweeping_ends, placed_by, byte_at_most_one}
use Rattle.farm_node.proofs.node.Node.sweep.Goals as goal

pub loop-swept-init : goal.loop-swept-init
loop-swept-init c = record {
  sweeping = sweeping_begins c.args.floor (plain_of c.args.self.now) c.regions.ensures.sound.rising
      (placed_by (plain_of c.args.self.now) (occupancy_of c.args.self.now.places) c.regions.ensures.sound refl c.args.self.now.agrees);
  few = omega arith;
}

pub loop-swept-preserved : goal.loop-swept-preserved
loop-swept-preserved c =
    let one : c.from-objects.result ≡ bool_byte (is_some c.in-Some.swept.gone) = c.from-objects.ensures ∙ ap bool_byte c.is_some.ensures in
    let most = byte_at_most_one (is_some c.in-Some.swept.gone) in
    let fewer = c.in-Some.ensures.fewer in
    let few = c.loop-swept.invariant.few in record {
      sweeping = sweeping_more c.args.floor (plain_of c.args.self.now) (plain_of c.loop-swept.self)
          (plain_of c.sweep_next.new.self) c.loop-swept.versions c.loop-swept.objects c.in-Some.swept
          c.saturating_add-versions.result (c.loop-swept.objects + c.from-objects.result)
          c.loop-swept.invariant.sweeping c.in-Some.ensures.swept c.saturating_add-versions.ensures
          (ap (λ n. c.loop-swept.objects + n) one);
      few = omega (arith, one, most, fewer, few);
    }

pub returns-clause-swept : goal.returns-clause-swept
returns-clause-swept c =
    sweeping_ends c.args.floor (plain_of c.args.self.now) (plain_of c.loop-swept.self) (plain_of c.sweep_next.new.self)
    c.loop-swept.versions c.loop-swept.objects c.loop-swept.invariant.sweeping c.in_default.ensures.swept
