use Rattle.std.proofs.Common.{◌≤◌, length, arith}
use Rattle.turnstile.specs.Passes.{entered}
use Rattle.write_set.specs.Writes.{writes}
use Rattle.transaction_part.proofs.Endings.{frees_first, frees_next, frees_last}
use Rattle.transaction_part.proofs.ending.unlock_each.Goals as goal

pub loop-index-init : goal.loop-index-init
loop-index-init g c = record {
  inside = c.requires.inside;
  frees = frees_first c.args.t c.args._r (writes c.args.set.now) (entered c.args.turn) c.requires.runs;
}

pub paced-turn-requires : goal.paced-turn-requires
paced-turn-requires g c = record { inside = c.loop-index.invariant.inside }

pub loop-index-preserved : goal.loop-index-preserved
loop-index-preserved g c = record {
  inside = c.unlock_one-turn.ensures.inside;
  frees = frees_next c.args.t c.args._r (writes c.args.set.now) (entered c.args.turn) c.loop-index.index c.get.result.now c.get.ensures
      (entered c.loop-index.turn) (entered c.paced-turn.result) (entered c.unlock_one-turn.result)
      c.loop-index.invariant.inside.stands.lawful c.paced-turn.ensures.inside.stands.lawful
      c.unlock_one-turn.ensures.inside.stands.lawful c.paced-turn.ensures.goes_on c.unlock_one-turn.ensures.entry
      c.loop-index.invariant.frees;
}

pub returns-clause-inside : goal.returns-clause-inside
returns-clause-inside g c = c.loop-index.invariant.inside

pub returns-clause-runs : goal.returns-clause-runs
returns-clause-runs g c =
    let past : length (writes c.args.set.now) ≤ c.loop-index.index = omega (arith, c.len-index-end.ensures, c.loop-index-test.false) in
    frees_last c.args.t c.args._r (writes c.args.set.now) (entered c.args.turn) c.loop-index.index (entered c.loop-index.turn) past
    c.loop-index.invariant.frees

pub returns-clause-quiet : goal.returns-clause-quiet
returns-clause-quiet g c = c.loop-index.invariant.frees.quiet

pub returns-clause-grown : goal.returns-clause-grown
returns-clause-grown g c = c.loop-index.invariant.frees.grown
