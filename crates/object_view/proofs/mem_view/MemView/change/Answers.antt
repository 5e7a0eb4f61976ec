use Rattle.object_view.proofs.Agreed.{stands_stored}
use Rattle.object_view.proofs.mem_view.MemView.change.Goals as goal

pub put-requires-clause-stored : goal.put-requires-clause-stored
put-requires-clause-stored c b e = stands_stored c.args.self.now c.args.at b c.requires.stands (c.requires.size b e)
