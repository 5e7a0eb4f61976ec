use Rattle.farm_core.proofs.Sets.{restored}
use Rattle.farm_core.proofs.reads.ReadMarks.insert.Goals as goal

pub returns-in-Err-clause-err : goal.returns-in-Err-clause-err
returns-in-Err-clause-err c =
    restored c.args.at c.args.self.now.read c.insert.new.set c.remove.new.set c.args.self.now.unchecked c.insert-2.new.set c.requires c.in-Err.ensures.absent c.in_ok-new.ensures.ok c.remove.ensures c.in-Err.ensures.err
