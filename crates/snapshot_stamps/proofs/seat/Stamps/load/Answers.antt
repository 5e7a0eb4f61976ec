use Rattle.std.proofs.Common.{rules}
use Rattle.snapshot_stamps.proofs.Steps.{reads}
use Rattle.snapshot_stamps.proofs.seat.Stamps.load.Goals as goal

pub load-requires : goal.load-requires
load-requires c = (search rules, search rules, reads _ _ _ _ _)
