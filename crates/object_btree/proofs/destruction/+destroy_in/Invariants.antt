use Rattle.std.proofs.Common.{◌+◌, ◌*◌, length}
use Rattle.object_btree.proofs.destruction.+destroy_in.Given as goal

abbrev pub decreases-destroy_in : goal.decreases-destroy_in
decreases-destroy_in g l = l.levels * 65536 + length l.body.now
