use Rattle.std.proofs.Common.{◌≤◌, length, arith}
use Rattle.turnstile.specs.Passes.{entered}
use Rattle.write_set.specs.Writes.{writes}
use Rattle.write_set.proofs.Keyed.{writes_apart}
use Rattle.transaction_part.proofs.Endings.{puts_first, may_put, puts_next, runs_bare, puts_just}
use Rattle.transaction_part.proofs.ending.put_each.Goals as goal

pub loop-index-init : goal.loop-index-init
loop-index-init g c = record {
  inside = c.requires.inside;
  puts = puts_first c.args.t c.args._r c.args.w (writes c.args.set.now) (entered c.args.turn) c.requires.runs c.requires.holds;
}

pub paced-turn-requires : goal.paced-turn-requires
paced-turn-requires g c = record { inside = c.loop-index.invariant.inside }

pub put_there-turn-requires-clause-may : goal.put_there-turn-requires-clause-may
put_there-turn-requires-clause-may g c =
    may_put c.args.t c.args._r c.args.w (writes c.args.set.now) (entered c.args.turn) c.loop-index.index c.get.result.now c.get.ensures
    (writes_apart c.args.set.now) (entered c.loop-index.turn) (entered c.paced-turn.result)
    c.loop-index.invariant.inside.stands.lawful c.paced-turn.ensures.inside.stands.lawful c.paced-turn.ensures.goes_on
    c.loop-index.invariant.puts

pub loop-index-preserved : goal.loop-index-preserved
loop-index-preserved g c = record {
  inside = c.put_there-turn.ensures.inside;
  puts = puts_next c.args.t c.args._r c.args.w (writes c.args.set.now) (entered c.args.turn) c.loop-index.index c.get.result.now
      c.get.ensures (writes_apart c.args.set.now) (entered c.loop-index.turn) (entered c.paced-turn.result)
      c.loop-index.invariant.inside.stands.lawful c.paced-turn.ensures.inside.stands.lawful c.paced-turn.ensures.goes_on
      c.loop-index.invariant.puts (entered c.put_there-turn.result) c.put_there-turn.ensures.inside.stands.lawful
      c.put_there-turn.ensures.entry;
}

pub returns-clause-inside : goal.returns-clause-inside
returns-clause-inside g c = c.loop-index.invariant.inside

pub returns-clause-runs : goal.returns-clause-runs
returns-clause-runs g c =
    let past : length (writes c.args.set.now) ≤ c.loop-index.index = omega (arith, c.len-index-end.ensures, c.loop-index-test.false) in
    runs_bare c.args.t c.args._r c.args.w (writes c.args.set.now) (entered c.args.turn) c.loop-index.index (entered c.loop-index.turn)
    past c.loop-index.invariant.puts

pub returns-clause-puts : goal.returns-clause-puts
returns-clause-puts g c =
    let past : length (writes c.args.set.now) ≤ c.loop-index.index = omega (arith, c.len-index-end.ensures, c.loop-index-test.false) in
    puts_just c.args.t c.args._r c.args.w (writes c.args.set.now) (entered c.args.turn) c.loop-index.index (entered c.loop-index.turn)
    past c.loop-index.invariant.puts

pub returns-clause-grown : goal.returns-clause-grown
returns-clause-grown g c = c.loop-index.invariant.puts.grown
