use Rattle.std.proofs.Common.{sym, refl, subst, ◌∙◌}
use Rattle.turnstile.specs.Passes.{seen, entered}
use Rattle.write_set.specs.Writes.{writes}
use Rattle.transaction_part.specs.Part.{IsWritten, log}
use Rattle.transaction_part.specs.Running.{IsIdle}
use Rattle.transaction_part.proofs.Going.{runs_on}
use Rattle.transaction_part.proofs.Telling.{story_on, same_then}
use Rattle.transaction_part.proofs.Places.{enters}
use Rattle.transaction_part.proofs.Endings.{shut_idle, shut_quiet}
use Rattle.transaction_part.proofs.part.Part.give_up.Goals as goal

pub unlock_each-turn-requires-clause-runs : goal.unlock_each-turn-requires-clause-runs
unlock_each-turn-requires-clause-runs g c =
    let e = enters c.args.lock.now c.args.t.actor c.args.self.now.pass c.take_pass-pass.result c.begin_turn-turn.result
    c.take_pass-pass.ensures.was c.take_pass-pass.ensures.sits c.begin_turn-turn.ensures.inside c.begin_turn-turn.ensures.goes_on in
    runs_on c.args.t c.args._r (IsWritten (writes c.args.self.now.writes)) (log c.args.self.now) (entered c.begin_turn-turn.result)
    e.begins e.ends e.goes c.requires.ending.runs

pub returns-clause-resting : goal.returns-clause-resting
returns-clause-resting g c = record {
  sits = (c.end_turn.result, refl, c.end_turn.ensures.sits);
  idle = subst (IsIdle c.args.t.actor) (sym c.end_turn.ensures.seen)
      (shut_idle c.args.t c.args._r (entered c.unlock_each-turn.result) (entered c.shut_there-turn.result)
      c.unlock_each-turn.ensures.inside.stands.lawful c.shut_there-turn.ensures.inside.stands.lawful c.unlock_each-turn.ensures.runs
      c.shut_there-turn.ensures.entry);
  none = c.clear.ensures;
}

pub returns-clause-quiet : goal.returns-clause-quiet
returns-clause-quiet g c =
    let e = enters c.args.lock.now c.args.t.actor c.args.self.now.pass c.take_pass-pass.result c.begin_turn-turn.result
    c.take_pass-pass.ensures.was c.take_pass-pass.ensures.sits c.begin_turn-turn.ensures.inside c.begin_turn-turn.ensures.goes_on in
    same_then c.args.t.actor (log c.args.self.now) (entered c.begin_turn-turn.result) (seen c.end_turn.result)
    (story_on c.args.t.actor (log c.args.self.now) (entered c.begin_turn-turn.result) e.goes)
    (same_then c.args.t.actor (entered c.begin_turn-turn.result) (entered c.unlock_each-turn.result) (seen c.end_turn.result)
    c.unlock_each-turn.ensures.quiet (shut_quiet c.args.t.actor (entered c.unlock_each-turn.result) (seen c.end_turn.result)
    (c.end_turn.ensures.seen ∙ c.shut_there-turn.ensures.entry)))
