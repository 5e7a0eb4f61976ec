use Rattle.std.proofs.Common.{List, sym, refl, subst}
use Rattle.farm_node.specs.declared.entry.Entry.{Entry}
use Rattle.farm_node.specs.NodeState.{replay}
use Rattle.turnstile.specs.Passes.{seen, entered}
use Rattle.write_set.specs.Writes.{writes}
use Rattle.transaction_part.specs.Part.{IsWritten, log}
use Rattle.transaction_part.specs.Running.{HoldsBelow, Runs}
use Rattle.transaction_part.specs.Stories.{SameStory}
use Rattle.transaction_part.proofs.Going.{runs_on, holds_on}
use Rattle.transaction_part.proofs.Telling.{story_on, same_then}
use Rattle.transaction_part.proofs.Places.{enters}
use Rattle.transaction_part.proofs.part.Part.check_all.Goals as goal

pub check_each-turn-requires-clause-runs : goal.check_each-turn-requires-clause-runs
check_each-turn-requires-clause-runs g c =
    let e = enters c.args.lock.now c.args.t.actor c.args.self.now.pass c.take_pass-pass.result c.begin_turn-turn.result
    c.take_pass-pass.ensures.was c.take_pass-pass.ensures.sits c.begin_turn-turn.ensures.inside c.begin_turn-turn.ensures.goes_on in
    runs_on c.args.t c.args.r (IsWritten (writes c.args.self.now.writes)) (log c.args.self.now) (entered c.begin_turn-turn.result)
    e.begins e.ends e.goes c.requires.locked.ending.runs

pub check_each-turn-requires-clause-holds : goal.check_each-turn-requires-clause-holds
check_each-turn-requires-clause-holds g c x there =
    let e = enters c.args.lock.now c.args.t.actor c.args.self.now.pass c.take_pass-pass.result c.begin_turn-turn.result
    c.take_pass-pass.ensures.was c.take_pass-pass.ensures.sits c.begin_turn-turn.ensures.inside c.begin_turn-turn.ensures.goes_on in
    holds_on c.args.t.actor (log c.args.self.now) (entered c.begin_turn-turn.result) e.begins e.ends e.goes c.args.t x.at c.args.w refl
    (c.requires.locked.holds x there)

pub returns-clause-locked : goal.returns-clause-locked
returns-clause-locked g c = record {
  ending = record {
    sits = (c.end_turn.result, refl, c.end_turn.ensures.sits);
    runs = subst (λ (es : List Entry). Runs c.args.t c.args.r (IsWritten (writes c.args.self.now.writes)) es) (sym c.end_turn.ensures.seen)
        c.check_each-turn.ensures.runs;
  };
  holds = λ x there. subst (λ (es : List Entry). HoldsBelow c.args.t x.at c.args.w (replay es)) (sym c.end_turn.ensures.seen)
      (c.check_each-turn.ensures.holds x there);
}

pub returns-clause-quiet : goal.returns-clause-quiet
returns-clause-quiet g c =
    let e = enters c.args.lock.now c.args.t.actor c.args.self.now.pass c.take_pass-pass.result c.begin_turn-turn.result
    c.take_pass-pass.ensures.was c.take_pass-pass.ensures.sits c.begin_turn-turn.ensures.inside c.begin_turn-turn.ensures.goes_on in
    same_then c.args.t.actor (log c.args.self.now) (entered c.begin_turn-turn.result) (seen c.end_turn.result)
    (story_on c.args.t.actor (log c.args.self.now) (entered c.begin_turn-turn.result) e.goes)
    (subst (SameStory c.args.t.actor (entered c.begin_turn-turn.result)) (sym c.end_turn.ensures.seen) c.check_each-turn.ensures.quiet)
