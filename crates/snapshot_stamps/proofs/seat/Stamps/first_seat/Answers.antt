use Rattle.std.proofs.Common.{rules}
use Rattle.snapshot_stamps.proofs.Steps.{lanes_cut}
use Rattle.snapshot_stamps.proofs.seat.Stamps.first_seat.Goals as goal

pub split_seat-others-requires : goal.split_seat-others-requires
split_seat-others-requires c = (search rules, search rules, lanes_cut _ _ _ _ c.requires.rest c.requires.some_lane)
