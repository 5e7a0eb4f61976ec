use Rattle.farm_commit.specs.Farms.{IsActorOf}
use Rattle.farm_commit.proofs.tests.add_often.Given as goal

abbrev pub invariant-loop : goal.invariant-loop
invariant-loop g l = IsActorOf l.farm l.whose
