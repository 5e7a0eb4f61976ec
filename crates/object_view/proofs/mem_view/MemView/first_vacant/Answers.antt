use Rattle.std.proofs.Common.{◌<◌, arith, subst}
use Rattle.a1_base.specs.declared.place.Addr.{Addr}
use Rattle.object_view.specs.Slots.{IsVacant}
use Rattle.object_view.proofs.Places.{number_of}
use Rattle.object_view.proofs.mem_view.MemView.first_vacant.Goals as goal

pub returns-clause-full : goal.returns-clause-full
returns-clause-full c a place vacant =
    let n = number_of a c.args.self.now.nodes c.args.node c.args.self.now.nodes_fit.0 place in
    let end = c.loop-number-test.false in
    let below : n.0 < c.loop-number.number = omega (arith, end, n.1) in
    c.loop-number.invariant n.0 below (subst (λ
    (x : Addr). IsVacant c.args.self.now.over c.args.self.now.heap x) n.2 vacant)
