use Rattle.std.proofs.Common.{length}
use Rattle.object_btree.proofs.interval.+pairs_in.Given as goal

abbrev pub decreases-pairs_in : goal.decreases-pairs_in
decreases-pairs_in l = length l.body.now
