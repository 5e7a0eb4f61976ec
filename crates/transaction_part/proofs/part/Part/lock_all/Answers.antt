use Rattle.std.proofs.Common.{ℕ, ◌∙◌, List, sym, refl, ap, subst}
use Rattle.std.proofs.lemmas.Result.{IfOk-weaker}
use Rattle.farm_node.specs.declared.entry.Entry.{Entry}
use Rattle.farm_node.specs.NodeState.{Lawful, replay}
use Rattle.turnstile.specs.Passes.{seen, entered}
use Rattle.node_turns.proofs.Inside.{lawful_front}
use Rattle.write_set.specs.Writes.{writes}
use Rattle.transaction_part.specs.Locking.{CanLock}
use Rattle.transaction_part.specs.Part.{IsWritten, log, log_in}
use Rattle.transaction_part.specs.Running.{Runs, HoldsBelow}
use Rattle.transaction_part.specs.Stories.{SamePuts}
use Rattle.transaction_part.proofs.LockSteps.{can_on, runs_ending, none_among}
use Rattle.transaction_part.proofs.Telling.{puts_then, same_puts, story_on}
use Rattle.transaction_part.proofs.part.Part.lock_all.Goals as goal

pub returns-then-len-eq0-clause-ending : goal.returns-then-len-eq0-clause-ending
returns-then-len-eq0-clause-ending g c = record {
  sits = c.requires.running.sits;
  runs = runs_ending c.args.t c.args.r (writes c.args.self.now.writes) (log c.args.self.now) c.requires.running.runs;
}

pub returns-then-len-eq0-clause-locked : goal.returns-then-len-eq0-clause-locked
returns-then-len-eq0-clause-locked g c w above = record {
  ending = record {
    sits = c.requires.running.sits;
    runs = runs_ending c.args.t c.args.r (writes c.args.self.now.writes) (log c.args.self.now) c.requires.running.runs;
  };
  holds = λ x there. absurd (none_among (writes c.args.self.now.writes) x (sym c.len.ensures ∙ c.if-len-eq0.true) there);
}

pub lock_each-turn-requires-clause-can : goal.lock_each-turn-requires-clause-can
lock_each-turn-requires-clause-can g c =
    let inside = c.begin_turn-turn.ensures.inside.stands.lawful in
    let on = c.begin_turn-turn.ensures.goes_on in
    can_on c.args.t c.args.r (seen c.take_pass-pass.result) (entered c.begin_turn-turn.result)
    (lawful_front (seen c.take_pass-pass.result) on.between c.take_pass-pass.ensures.sits.some (subst Lawful on.is inside)) inside on
    (writes c.args.self.now.writes)
    (subst (λ (es : List Entry). CanLock c.args.t c.args.r (writes c.args.self.now.writes) es) (ap log_in c.take_pass-pass.ensures.was)
    (record { runs = c.requires.running.runs; ready = c.requires.running.ready }))

pub returns-clause-ending : goal.returns-clause-ending
returns-clause-ending g c = record {
  sits = (c.end_turn.result, refl, c.end_turn.ensures.sits);
  runs = subst (λ (es : List Entry). Runs c.args.t c.args.r (IsWritten (writes c.lock_each-turn.new.set)) es) (sym c.end_turn.ensures.seen)
      c.lock_each-turn.ensures.locks.runs;
}

pub returns-clause-locked : goal.returns-clause-locked
returns-clause-locked g c = IfOk-weaker c.lock_each-turn.result.1 _ _
    (λ top holds w above. record {
      ending = record {
        sits = (c.end_turn.result, refl, c.end_turn.ensures.sits);
        runs = subst (λ (es : List Entry). Runs c.args.t c.args.r (IsWritten (writes c.lock_each-turn.new.set)) es) (sym c.end_turn.ensures.seen)
            c.lock_each-turn.ensures.locks.runs;
      };
      holds = λ x there. subst (λ (es : List Entry). HoldsBelow c.args.t x.at w (replay es)) (sym c.end_turn.ensures.seen) (holds w above x there);
    })
    c.lock_each-turn.ensures.locks.holds

pub returns-clause-puts : goal.returns-clause-puts
returns-clause-puts g c =
    let k : ℕ = c.args.t.actor in
    let first : List Entry = seen c.take_pass-pass.result in
    subst (λ (es : List Entry). SamePuts k es (seen c.end_turn.result)) (sym (ap log_in c.take_pass-pass.ensures.was))
    (subst (λ (es : List Entry). SamePuts k first es) (sym c.end_turn.ensures.seen)
    (puts_then k first (entered c.begin_turn-turn.result) (entered c.lock_each-turn.result.0)
    (same_puts k first (entered c.begin_turn-turn.result) (story_on k first (entered c.begin_turn-turn.result) c.begin_turn-turn.ensures.goes_on))
    c.lock_each-turn.ensures.locks.puts))
