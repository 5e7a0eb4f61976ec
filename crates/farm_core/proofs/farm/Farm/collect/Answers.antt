use Rattle.std.proofs.Common.{◌<◌, refl, arith}
use Rattle.farm_core.proofs.Words.{COLLECTOR_ACTOR}
use Rattle.farm_core.proofs.Collecting.{collect_stands}
use Rattle.farm_core.proofs.Farming.{clock_low}
use Rattle.farm_core.proofs.farm.Farm.collect.Goals as goal

pub collect-removed-requires : goal.collect-removed-requires
collect-removed-requires c = let known = c.requires.known in record { stamp = clock_low c.args.self.now known.0 known.1 }

pub returns-clause-steps : goal.returns-clause-steps
returns-clause-steps c = λ s st.
    let some : 0 < COLLECTOR_ACTOR = omega arith in
    collect_stands c.args.self.now s st c.args.node c.index_mut.result.now c.collect-removed.new.self c.collect-removed.result _ c.requires.node c.index_mut.ensures.value (c.collect-removed.ensures 34 some)
    refl refl refl refl
