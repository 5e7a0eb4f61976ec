use Rattle.std.proofs.Common.{rules, ◌≡◌, List, [], ◌∷◌, ◌++◌, sym, subst}
use Rattle.a1_base.specs.Lists.{IsAmong}
use Rattle.transaction_part.proofs.Lists.{among_end, among_front}
use Rattle.farm_commit.specs.declared.actor.Actor.{Actor}
use Rattle.farm_commit.proofs.tests.farm_of_two.Goals as goal

pub returns-clause-actors : goal.returns-clause-actors
returns-clause-actors c =
    let all : List Actor = c.in_ok-farm.actors.items in
    let left : List Actor = c.pop.new.self.items in
    let rest : List Actor = c.pop-2.new.self.items in
    let first : all ≡ left ++ c.in_ok-first.first ∷ [] = search rules in
    let second : left ≡ rest ++ c.in_ok-second.second ∷ [] = search rules in
    let new = c.in_ok-farm.ensures.actors in (
      (new.each c.in_ok-first.first (subst (IsAmong c.in_ok-first.first) (sym first) (among_end left c.in_ok-first.first))).0,
      (new.each c.in_ok-second.second (subst (IsAmong c.in_ok-second.second) (sym first)
          (among_front left (c.in_ok-first.first ∷ []) c.in_ok-second.second
          (subst (IsAmong c.in_ok-second.second) (sym second) (among_end rest c.in_ok-second.second))))).0,
    )
