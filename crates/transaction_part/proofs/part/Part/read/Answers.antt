use Rattle.transaction_part.proofs.Viewing.{stays_here, stays_then}
use Rattle.transaction_part.proofs.part.Part.read.Goals as goal

pub loop-init : goal.loop-init
loop-init g c = record { next = tt; finite = tt; stays = stays_here c.requires.running }

pub loop-preserved : goal.loop-preserved
loop-preserved g c = let once = c.read_once.ensures in record {
  next = tt;
  finite = tt;
  stays = stays_then c.loop.invariant.stays
      (record { running = once.running; writes = once.writes; grown = once.grown; quiet = once.quiet });
}
