use Rattle.std.proofs.Common.{sym, subst, ◌∙◌}
use Rattle.transaction_part.specs.Part.{IsEnding, IsLocked, IsRunning}
use Rattle.farm_commit.specs.declared.commit.Commit.{Commit}
use Rattle.farm_commit.specs.Commits.{CommitTells, PutsNone}
use Rattle.farm_commit.specs.Steps.{LocksThere, RestsThere, StopsThere}
use Rattle.farm_commit.proofs.Stepping.{parts_then, step_then}
use Rattle.farm_commit.proofs.Committed.{none_there}
use Rattle.farm_commit.proofs.NodeSteps.{decided_tells, given_up_rest, lock_tells, stopped_end}
use Rattle.farm_commit.proofs.farm.Farm.commit_parts.Goals as goal

pub decide-requires-clause-locked : goal.decide-requires-clause-locked
decide-requires-clause-locked g c = λ w above.
    parts_then c.args.self.now.locks.items (λ _ l p. IsRunning l c.args.t c.args.r p) (λ _ l p. IsLocked l c.args.t c.args.r w p)
    (LocksThere c.args.t c.args.r c.in-Ok.top) c.args.parts.now.items c.lock_each.new.parts.items (λ i l p q at x s. s.locked w above)
    c.requires.parts c.in-Ok.ensures.locked

pub give_up_each-requires : goal.give_up_each-requires
give_up_each-requires g c = record {
  parts = stopped_end c.args.self.now.locks.items c.args.t c.args.r (λ _ l p. IsRunning l c.args.t c.args.r p) c.args.parts.now.items
      c.lock_each.new.parts.items c.requires.parts c.in-Err.ensures.stopped.0;
}

pub returns-in-Ok-clause-tells : goal.returns-in-Ok-clause-tells
returns-in-Ok-clause-tells g c =
    decided_tells c.args.self.now.locks.items c.args.self.now.nodes c.args.t c.args.r c.in-Ok.top c.args.reads.now c.decide.result
    c.args.parts.now.items c.lock_each.new.parts.items c.decide.new.parts.items c.args.seat.now c.decide.new.seat
    c.in-Ok.ensures.locked c.decide.ensures.decides

pub returns-in-Err-clause-rests : goal.returns-in-Err-clause-rests
returns-in-Err-clause-rests g c =
    given_up_rest c.args.self.now.locks.items c.args.t.actor (λ _ l p. IsEnding l c.args.t c.args.r p) c.lock_each.new.parts.items
    c.give_up_each.new.parts.items
    (stopped_end c.args.self.now.locks.items c.args.t c.args.r (λ _ l p. IsRunning l c.args.t c.args.r p) c.args.parts.now.items
    c.lock_each.new.parts.items c.requires.parts c.in-Err.ensures.stopped.0)
    c.give_up_each.ensures

pub returns-in-Err-clause-tells : goal.returns-in-Err-clause-tells
returns-in-Err-clause-tells g c =
    let stopped = c.in-Err.ensures.stopped in
    subst (λ (answer : Commit). CommitTells c.args.self.now.locks.items c.args.self.now.nodes c.args.t c.args.r c.args.reads.now answer
    c.args.parts.now.items c.give_up_each.new.parts.items c.args.seat.now c.args.seat.now) (sym c.lock_refused.ensures)
    (lock_tells c.args.self.now.locks.items c.args.self.now.nodes c.args.t c.args.r c.args.reads.now c.in-Err.at c.in-Err.fault
    c.args.parts.now.items c.lock_each.new.parts.items c.give_up_each.new.parts.items c.args.seat.now
    (stopped.0.count ∙ c.requires.parts.count) c.give_up_each.ensures
    (step_then c.args.self.now.locks.items (StopsThere c.args.t c.args.r) (RestsThere c.args.t.actor) (PutsNone c.args.t.actor)
    c.args.parts.now.items c.lock_each.new.parts.items c.give_up_each.new.parts.items
    (λ i l p q u at was x y. none_there c.args.t c.args.r i l p q u x y) stopped.0 c.give_up_each.ensures)
    stopped.1)
