use Rattle.std.proofs.Common.{◌+◌, ◌++◌, ◌∷◌, [], ℕ, List, Option, inr, sym, ap, ◌∙◌, subst, append-nil, arith}
use Rattle.std.specs.Option.{option_to_list}
use Rattle.snapshot_stamps.specs.Seats.{watch}
use Rattle.transaction_part.specs.Part.{IsEnding, IsLocked, IsResting}
use Rattle.farm_commit.specs.declared.commit.Commit.{Commit}
use Rattle.farm_commit.specs.Commits.{Decides, InstallsThere, PutsNone}
use Rattle.farm_commit.specs.Steps.{ChecksThere, PutsAll, RestsThere, StopsThere}
use Rattle.farm_commit.proofs.Stepping.{parts_then, step_then, step_weaker}
use Rattle.farm_commit.proofs.Committed.{cause_grown, installs_there, none_there, rests_none}
use Rattle.farm_commit.proofs.NodeSteps.{given_up_rest, learned_drawn, locked_end, refusal_decides, stopped_end}
use Rattle.farm_commit.proofs.farm.Farm.decide.Goals as goal

pub give_up_each-requires : goal.give_up_each-requires
give_up_each-requires g c = record {
  parts = locked_end c.args.self.now.locks.items c.args.t c.args.r (c.args.top + 1) c.args.parts.now.items (c.requires.locked (c.args.top + 1) (omega arith));
}

pub returns-in_default-clause-rests : goal.returns-in_default-clause-rests
returns-in_default-clause-rests g c =
    given_up_rest c.args.self.now.locks.items c.args.t.actor (λ _ l p. IsLocked l c.args.t c.args.r (c.args.top + 1) p) c.args.parts.now.items
    c.give_up_each.new.parts.items (c.requires.locked (c.args.top + 1) (omega arith)) c.give_up_each.ensures

pub returns-in_default-clause-decides : goal.returns-in_default-clause-decides
returns-in_default-clause-decides g c = (
  step_weaker c.args.self.now.locks.items (RestsThere c.args.t.actor) (PutsNone c.args.t.actor) c.args.parts.now.items c.give_up_each.new.parts.items
      (λ i l p q at was. rests_none c.args.t.actor i l p q) c.give_up_each.ensures,
  c.in_default.ensures.none,
  c.draw.ensures.drawn ∙ (ap (λ (o : Option ℕ). (watch c.reach.new.seat).drawn ++ option_to_list o) c.in_default.is
      ∙ (append-nil (watch c.reach.new.seat).drawn ∙ learned_drawn _ _ c.reach.ensures.learned)),
)

pub returns-in_default-clause-knows : goal.returns-in_default-clause-knows
returns-in_default-clause-knows g c = let a = c.reach.ensures.learned.0 in let b = c.draw.ensures.known in omega (arith, a, b)

pub check_each-requires-clause-parts : goal.check_each-requires-clause-parts
check_each-requires-clause-parts g c =
    let low = c.reach.ensures.reached in let high = c.in-Some.ensures.some.0 in
    c.requires.locked c.in-Some.w (omega (arith, low, high))

pub install_each-requires-clause-parts : goal.install_each-requires-clause-parts
install_each-requires-clause-parts g c =
    let low = c.reach.ensures.reached in let high = c.in-Some.ensures.some.0 in
    parts_then c.args.self.now.locks.items (λ _ l p. IsLocked l c.args.t c.args.r c.in-Some.w p) (λ _ l p. IsLocked l c.args.t c.args.r c.in-Some.w p)
    (ChecksThere c.args.t c.args.r c.in-Some.w c.args.self.now.nodes c.args.reads.now) c.args.parts.now.items c.check_each.new.parts.items
    (λ i l p q at x s. s.locked) (c.requires.locked c.in-Some.w (omega (arith, low, high))) c.in-Ok.ensures.checked

pub give_up_each-requires-in-Err : goal.give_up_each-requires-in-Err
give_up_each-requires-in-Err g c = record {
  parts = stopped_end c.args.self.now.locks.items c.args.t c.args.r (λ _ l p. IsLocked l c.args.t c.args.r (c.args.top + 1) p) c.args.parts.now.items
      c.check_each.new.parts.items (c.requires.locked (c.args.top + 1) (omega arith)) c.in-Err.ensures.stopped.0;
}

pub returns-in-Ok-clause-rests : goal.returns-in-Ok-clause-rests
returns-in-Ok-clause-rests g c =
    let both = step_then c.args.self.now.locks.items (ChecksThere c.args.t c.args.r c.in-Some.w c.args.self.now.nodes c.args.reads.now)
    (PutsAll c.args.t c.in-Some.w) (λ i l p q. IsResting l c.args.t.actor q) c.args.parts.now.items c.check_each.new.parts.items
    c.install_each.new.parts.items (λ i l p q u at was x y. y.rests) c.in-Ok.ensures.checked c.install_each.ensures in
    parts_then c.args.self.now.locks.items (λ _ l p. IsLocked l c.args.t c.args.r (c.args.top + 1) p) (λ _ l p. IsResting l c.args.t.actor p)
    (λ i l p q. IsResting l c.args.t.actor q) c.args.parts.now.items c.install_each.new.parts.items
    (λ i l p q at x y. y) (c.requires.locked (c.args.top + 1) (omega arith)) both

pub returns-in-Ok-clause-decides : goal.returns-in-Ok-clause-decides
returns-in-Ok-clause-decides g c =
    let known = c.reach.ensures.learned.0 in let high = c.in-Some.ensures.some.0 in let low = c.requires.known in (
      step_then c.args.self.now.locks.items (ChecksThere c.args.t c.args.r c.in-Some.w c.args.self.now.nodes c.args.reads.now)
          (PutsAll c.args.t c.in-Some.w) (InstallsThere c.args.t c.args.r c.in-Some.w c.args.self.now.nodes c.args.reads.now)
          c.args.parts.now.items c.check_each.new.parts.items c.install_each.new.parts.items
          (λ i l p q u at was x y. installs_there c.args.t c.args.r c.in-Some.w c.args.self.now.nodes c.args.reads.now i l p q u x y)
          c.in-Ok.ensures.checked c.install_each.ensures,
      omega (arith, known, high, low),
      c.draw.ensures.drawn ∙ (ap (λ (o : Option ℕ). (watch c.reach.new.seat).drawn ++ option_to_list o) c.in-Some.is
          ∙ ap (λ (ws : List ℕ). ws ++ c.in-Some.w ∷ []) (learned_drawn _ _ c.reach.ensures.learned)),
    )

pub returns-in-Err-clause-rests : goal.returns-in-Err-clause-rests
returns-in-Err-clause-rests g c =
    given_up_rest c.args.self.now.locks.items c.args.t.actor (λ _ l p. IsEnding l c.args.t c.args.r p) c.check_each.new.parts.items
    c.give_up_each-in-Err.new.parts.items
    (stopped_end c.args.self.now.locks.items c.args.t c.args.r (λ _ l p. IsLocked l c.args.t c.args.r (c.args.top + 1) p) c.args.parts.now.items
    c.check_each.new.parts.items (c.requires.locked (c.args.top + 1) (omega arith)) c.in-Err.ensures.stopped.0)
    c.give_up_each-in-Err.ensures

pub returns-in-Err-clause-decides : goal.returns-in-Err-clause-decides
returns-in-Err-clause-decides g c =
    let stopped = c.in-Err.ensures.stopped in
    let parts = c.requires.locked (c.args.top + 1) (omega arith) in
    subst (λ (answer : Commit). Decides c.args.self.now.locks.items c.args.self.now.nodes c.args.t c.args.r c.args.reads.now answer
    c.args.parts.now.items c.give_up_each-in-Err.new.parts.items c.args.seat.now c.draw.new.seat) (sym c.check_refused.ensures)
    (refusal_decides c.args.self.now.locks.items c.args.self.now.nodes c.args.t c.args.r c.args.reads.now c.in-Err.at c.in-Err.fault
    c.args.parts.now.items c.give_up_each-in-Err.new.parts.items c.args.seat.now c.draw.new.seat
    (step_then c.args.self.now.locks.items (StopsThere c.args.t c.args.r) (RestsThere c.args.t.actor) (PutsNone c.args.t.actor)
    c.args.parts.now.items c.check_each.new.parts.items c.give_up_each-in-Err.new.parts.items
    (λ i l p q u at was x y. none_there c.args.t c.args.r i l p q u x y) stopped.0 c.give_up_each-in-Err.ensures)
    (cause_grown c.args.self.now.locks.items c.args.t c.args.r c.in-Err.at c.in-Err.fault c.args.t.actor c.check_each.new.parts.items
    c.give_up_each-in-Err.new.parts.items (stopped.0.count ∙ parts.count) c.give_up_each-in-Err.ensures stopped.1)
    (inr (
      c.in-Some.w,
      c.draw.ensures.drawn ∙ (ap (λ (o : Option ℕ). (watch c.reach.new.seat).drawn ++ option_to_list o) c.in-Some.is
          ∙ ap (λ (ws : List ℕ). ws ++ c.in-Some.w ∷ []) (learned_drawn _ _ c.reach.ensures.learned)),
    )))
