use Rattle.std.proofs.Common.{◌+◌, ◌*◌, length}
use Rattle.object_btree.proofs.interval.+range_in.Given as goal

abbrev pub decreases-range_in : goal.decreases-range_in
decreases-range_in g l = l.height * 65536 + length l.body.now
