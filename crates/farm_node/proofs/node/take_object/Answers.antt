use Rattle.farm_node.proofs.Common.{◌+◌, ap, ◌∙◌, held_there, lock_count}
use Rattle.farm_node.proofs.Dues.{locks_removed}
use Rattle.farm_node.proofs.node.take_object.Goals as goal

pub returns-clause-locks : goal.returns-clause-locks
returns-clause-locks c =
    ap (λ o. lock_count c.remove.new.self + held_there o) c.remove.ensures.value
    ∙ locks_removed c.args.objects.now c.remove.new.self c.args.at c.remove.ensures.entries
