use Rattle.std.proofs.Common.{refl}
use Rattle.farm_core.proofs.Running.{fresh_stands}
use Rattle.farm_core.proofs.farm.Farm.new.Goals as goal

pub returns : goal.returns
returns c = fresh_stands _ c.args.nodes c.requires.some c.requires.few c.in_ok-new_nodes.ensures refl refl c.in_ok-new_slots.ensures
