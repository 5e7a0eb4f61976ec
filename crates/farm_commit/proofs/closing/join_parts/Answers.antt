use Rattle.farm_commit.proofs.Ends.{both_there, joins_all, joins_more, joins_none}
use Rattle.farm_commit.proofs.closing.join_parts.Goals as goal

pub loop-node-init : goal.loop-node-init
loop-node-init c = record { joins = joins_none c.args.locks.now c.args.row.items c.args.into.now.items }

pub join_pass-requires : goal.join_pass-requires
join_pass-requires c =
    both_there c.args.locks.now c.loop-node.node c.index-locks-node.result c.index_mut.result.now c.index_mut-in-loop-node.result.now c.args.row.items
    c.loop-node.row.items c.args.into.now.items c.loop-node.into.items c.loop-node-test.true c.index-locks-node.is c.index_mut.ensures.value
    c.index_mut-in-loop-node.ensures.value c.requires.into c.requires.row c.loop-node.invariant.joins

pub loop-node-preserved : goal.loop-node-preserved
loop-node-preserved c = record {
  joins = joins_more c.args.locks.now c.loop-node.node c.index-locks-node.result c.index_mut.result.now c.index_mut-in-loop-node.result.now c.args.row.items
      c.loop-node.row.items c.args.into.now.items c.loop-node.into.items c.loop-node-test.true c.index-locks-node.is c.index_mut.ensures.value
      c.index_mut-in-loop-node.ensures.value c.requires.into c.requires.row c.loop-node.invariant.joins _ _ c.join_pass.ensures;
}

pub returns : goal.returns
returns c = joins_all c.args.locks.now c.loop-node.node c.args.row.items c.loop-node.row.items c.args.into.now.items c.loop-node.into.items c.loop-node-test.false
    c.loop-node.invariant.joins
