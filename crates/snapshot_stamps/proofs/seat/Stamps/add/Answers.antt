use Rattle.std.proofs.Common.{rules}
use Rattle.snapshot_stamps.proofs.Steps.{raises}
use Rattle.snapshot_stamps.proofs.seat.Stamps.add.Goals as goal

pub fetch_add-requires : goal.fetch_add-requires
fetch_add-requires c = (search rules, search rules, raises _ _ _ _ _ c.requires.lane c.requires.stamp)
