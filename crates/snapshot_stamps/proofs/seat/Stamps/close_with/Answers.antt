use Rattle.std.proofs.Common.{◌≡◌, length, arith}
use Rattle.snapshot_stamps.specs.Seats.{lane_count, watch}
use Rattle.snapshot_stamps.proofs.Closing.{ends_one}
use Rattle.snapshot_stamps.proofs.seat.Stamps.close_with.Goals as goal

pub returns : goal.returns
returns c =
    let all : length (watch c.args.seat).lanes ≡ lane_count c.args.self = let h = c.requires.1 in omega arith in
    ends_one c.args.self c.args.seat _ _ _ _ c.close_with-closed.ensures.values.2 c.word-clock.ensures all c.min.ensures
