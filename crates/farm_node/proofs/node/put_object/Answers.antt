use Rattle.farm_node.proofs.Dues.{locks_inserted}
use Rattle.farm_node.proofs.node.put_object.Goals as goal

pub returns-in-Ok-clause-locks : goal.returns-in-Ok-clause-locks
returns-in-Ok-clause-locks c =
    locks_inserted c.args.objects.now c.insert.new.self c.args.at c.args.object c.requires c.in-Ok.ensures.entries
