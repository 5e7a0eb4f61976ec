use Rattle.std.proofs.Common.{List, [], ◌∙◌, subst}
use Rattle.farm_commit.specs.Nodes.{Lock}
use Rattle.farm_commit.specs.Making.{AreMade}
use Rattle.farm_commit.proofs.Founding.{all_new, nodes_of, seat_count}
use Rattle.farm_commit.proofs.farm.Farm.new.Goals as goal

pub actors_of-requires-clause-count : goal.actors_of-requires-clause-count
actors_of-requires-clause-count c =
    seat_count c.in_ok-stamps.stamps c.in_ok-stamps.seats.items c.in_ok-stamps.ensures.seats ∙ c.in_ok-stamps.ensures.clock.0

pub invariant_of-farm-clause-numbered : goal.invariant_of-farm-clause-numbered
invariant_of-farm-clause-numbered c =
    nodes_of c.in_ok-locks.locks.items c.args.nodes c.args.actors c.args.stamp c.args.heap.items c.in_ok-locks.ensures.loaded

pub returns-clause-actors : goal.returns-clause-actors
returns-clause-actors c = all_new _ c.in_ok-all.all.items
    (subst (λ (ls : List Lock). AreMade ls c.in_ok-stamps.stamps c.args.actors [] c.in_ok-all.all.items) c.deref.ensures.value c.in_ok-all.ensures)
