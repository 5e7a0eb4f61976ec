use Rattle.farm_node.proofs.Common.{◌&&◌, ◌||◌, is_mark, sym, ◌∙◌}
use Rattle.std.specs.BinaryHeap.{heap_items}
use Rattle.farm_node.specs.Waiting.{marked}
use Rattle.farm_node.proofs.Marks.{listed_more}
use Rattle.farm_node.proofs.waiting.Waiting.settle.Goals as goal

pub returns-in-Ok-clause-listed : goal.returns-in-Ok-clause-listed
returns-in-Ok-clause-listed c =
    listed_more (record { 0 = (c.args.stamp, c.args.at) }) (heap_items c.self.inside.due) (heap_items c.push.new.self)
    c.in-Ok.ensures.permutation
    ∙ (λ i n b. (sym c.if-waits.true i && is_mark c.args.stamp c.args.at n b) || marked (c.self.view_is i) n b)
