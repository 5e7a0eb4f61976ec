use Rattle.transaction_part.specs.Part.{IsRunning}
use Rattle.farm_commit.specs.Farms.{IsPart, id_of}
use Rattle.farm_commit.proofs.Stepping.{part_weaker}
use Rattle.farm_commit.proofs.farm.Farm.commit.Goals as goal

pub commit_parts-answer-requires-clause-parts : goal.commit_parts-answer-requires-clause-parts
commit_parts-answer-requires-clause-parts g c =
    part_weaker c.args.self.now.locks.items (IsPart (id_of c.args.txn) c.args.txn.read_stamp c.args.self.now.nodes)
    (λ _ l p. IsRunning l (id_of c.args.txn) c.args.txn.read_stamp p) c.args.txn.parts.items (λ i l p x. x.runs) c.requires.txn.parts
