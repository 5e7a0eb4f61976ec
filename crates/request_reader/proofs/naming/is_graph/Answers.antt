use Rattle.std.proofs.Common.{sym, arith}
use Rattle.request_reader.proofs.GraphLemmas.{graph_at, no_graph}
use Rattle.request_reader.proofs.naming.is_graph.Goals as goal

pub returns-then-byte-eq47 : goal.returns-then-byte-eq47
returns-then-byte-eq47 c =
    let found = graph_at c.args.bytes.now c.loop-at.at (omega arith) c.loop-at.invariant c.if-byte-eq47.true in
    rw (c.are_names.ensures, c.split_at.ensures.front, c.split_at-then-byte-eq47.ensures.back, c.split_at.ensures.back) (sym found)

pub returns : goal.returns
returns c = sym (no_graph c.args.bytes.now (λ k h. c.loop-at.invariant k (omega arith)))
