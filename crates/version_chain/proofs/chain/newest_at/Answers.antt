use Rattle.std.proofs.Common.{leb, ap, sym, ◌∙◌, Some, ◌-◌, arith, rules}
use Rattle.std.proofs.lemmas.List.Sorted.{IsPartitionPoint-from_clause}
use Rattle.version_chain.proofs.ChainLemmas.{parted, version_at_none, version_at_last}
use Rattle.version_chain.proofs.chain.newest_at.Goals as goal

pub returns-then-count-eq0 : goal.returns-then-count-eq0
returns-then-count-eq0 c =
    let point = IsPartitionPoint-from_clause (λ v. leb v.0 c.args.stamp) _ _ c.partition_point-count.ensures.partitioned (parted _ _ c.requires) (λ a r q k. search rules) in
    sym (version_at_none _ _ (λ k d le lt. point.1 k d (omega arith) lt))

pub returns-else-count-eq0 : goal.returns-else-count-eq0
returns-else-count-eq0 c =
    let point = IsPartitionPoint-from_clause (λ v. leb v.0 c.args.stamp) _ _ c.partition_point-count.ensures.partitioned (parted _ _ c.requires) (λ a r q k. search rules) in
    let last = c.partition_point-count.result - 1 in
    ap Some c.index.ensures
    ∙ sym (version_at_last _ _ last c.index.result.now (omega arith) (point.0 last _ (omega arith) (omega arith)) (λ k d le lt. point.1 k d (omega arith) lt))
