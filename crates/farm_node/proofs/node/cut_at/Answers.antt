use Rattle.farm_node.proofs.Common.{sym, refl, ap, cells_of, held_in, lock_count}
use Rattle.farm_node.proofs.Sweeps.{sweeps_cut}
use Rattle.farm_node.proofs.Dues.{locks_kept}
use Rattle.farm_node.proofs.node.cut_at.Goals as goal

pub returns-in-Some-clause-swept : goal.returns-in-Some-clause-swept
returns-in-Some-clause-swept c =
    sweeps_cut c.args.floor c.in-Some.object.now c.cut-versions.new.self c.cut-versions.result
    (cells_of c.args.objects.now c.args.at) c.in-Some.ensures.value c.requires c.cut-versions.ensures.cut
    c.cut-versions.ensures.removed c.cut-versions.ensures.whole

pub returns-in-Some-clause-locks : goal.returns-in-Some-clause-locks
returns-in-Some-clause-locks c =
    sym (locks_kept c.args.objects.now (c.get_mut.follows.lender c.cut-versions.new.self) c.args.at
    c.in-Some.object.now c.cut-versions.new.self (lock_count c.args.objects.now) c.in-Some.ensures.value
    (c.get_mut.follows.holds c.cut-versions.new.self) (ap held_in c.cut-versions.ensures.cut) refl)
