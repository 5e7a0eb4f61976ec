use Rattle.std.proofs.Common.{List, sym, subst}
use Rattle.snapshot_stamps.proofs.Closing.{ends_all}
use Rattle.transaction_part.specs.Part.{IsResting, SitsAt}
use Rattle.farm_commit.specs.Nodes.{Lock}
use Rattle.farm_commit.specs.Closing.{seats_of}
use Rattle.farm_commit.specs.Ending.{Knows}
use Rattle.farm_commit.specs.Parts.{EachPart}
use Rattle.farm_commit.proofs.Stepping.{part_weaker}
use Rattle.farm_commit.proofs.Ends.{ends_close, knows_whole}
use Rattle.farm_commit.proofs.farm.Farm.close.Goals as goal

pub all_in_one-seat-requires-clause-parts : goal.all_in_one-seat-requires-clause-parts
all_in_one-seat-requires-clause-parts c a there =
    subst (λ (ls : List Lock). EachPart ls (λ _ l p. SitsAt l a.number p) a.parts.items) (sym c.as_slice.ensures.value)
    (part_weaker c.args.self.locks.items (λ _ l p. IsResting l a.number p) (λ _ l p. SitsAt l a.number p) a.parts.items (λ i l p x. x.sits)
    (c.requires.all.each a there).parts)

pub close_nodes-requires-clause-whole : goal.close_nodes-requires-clause-whole
close_nodes-requires-clause-whole c =
    knows_whole c.args.self.locks.items c.args.self.actors c.args.actors.items c.all_in_one-seat.result.1.items c.args.self.entered c.requires.all.all
    (subst (λ (ls : List Lock). EachPart ls (Knows c.args.actors.items) c.all_in_one-seat.result.1.items) c.as_slice.ensures.value c.all_in_one-seat.ensures.knows)

pub returns-clause-nodes : goal.returns-clause-nodes
returns-clause-nodes c =
    ends_close c.args.self.locks.items c.args.actors.items c.all_in_one-seat.result.1.items c.close_nodes.result.items
    (subst (λ (ls : List Lock). EachPart ls (Knows c.args.actors.items) c.all_in_one-seat.result.1.items) c.as_slice.ensures.value c.all_in_one-seat.ensures.knows)
    c.close_nodes.ensures

pub returns-clause-clock : goal.returns-clause-clock
returns-clause-clock c =
    ends_all c.args.self.stamps (seats_of c.args.actors.items) c.all_in_one-seat.result.0 c.close_with.result c.all_in_one-seat.ensures.gathered c.close_with.ensures
