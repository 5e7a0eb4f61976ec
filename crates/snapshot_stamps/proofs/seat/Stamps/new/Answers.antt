use Rattle.snapshot_stamps.proofs.Steps.{starts}
use Rattle.snapshot_stamps.proofs.seat.Stamps.new.Goals as goal

pub of_words-requires : goal.of_words-requires
of_words-requires c = starts _ _ c.ranges.lanes.fits c.requires.from.1
