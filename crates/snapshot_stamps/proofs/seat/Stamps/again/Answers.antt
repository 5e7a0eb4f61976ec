use Rattle.std.proofs.Common.{rules}
use Rattle.snapshot_stamps.proofs.Steps.{notes}
use Rattle.snapshot_stamps.proofs.seat.Stamps.again.Goals as goal

pub split_seat-seat-requires : goal.split_seat-seat-requires
split_seat-seat-requires c = (search rules, search rules, notes _ _ _ _)
