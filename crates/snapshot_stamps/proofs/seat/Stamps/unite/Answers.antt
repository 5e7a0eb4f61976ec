use Rattle.std.proofs.Common.{rules}
use Rattle.snapshot_stamps.proofs.Steps.{joins}
use Rattle.snapshot_stamps.proofs.seat.Stamps.unite.Goals as goal

pub join_seat-requires : goal.join_seat-requires
join_seat-requires c = (search rules, search rules, search rules, search rules, joins _ _ _ _ _ _)
