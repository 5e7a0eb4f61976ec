use Rattle.std.proofs.Common.{refl}
use Rattle.write_set.specs.Writes.{writes}
use Rattle.transaction_part.specs.Part.{log, written}
use Rattle.transaction_part.proofs.Viewing.{running_of, views_of, views_put}
use Rattle.transaction_part.proofs.part.Part.write.Goals as goal

pub returns-clause-running : goal.returns-clause-running
returns-clause-running c = running_of _ c.requires.running.sits refl
    (views_put c.args._t c.args._r (log c.args.self.now) c.put.result c.args.at c.args.value (written c.args.self.now) (writes c.put.new.self)
    c.put.ensures.ok c.put.ensures.err c.requires.may (views_of c.requires.running))
