use Rattle.std.proofs.Common.{◌≡◌, ◌+◌, ◌<◌, true, length, reverse}
use Rattle.std.specs.VecDeque.{deque_len, deque_capacity}
use Rattle.version_chain.specs.Versions.{Falls, cut}
use Rattle.version_chain.proofs.chain.Chain.cut.Given as goal

abbrev pub invariant-loop-self : goal.invariant-loop-self
invariant-loop-self l = record {
  falls : Falls (reverse l.self-inside.versions.items);
  reserved : l.self-inside.reserved ≡ l.fn.self.reserved;
  room : l.self-inside.reserved ≡ true → deque_len l.self-inside.versions < deque_capacity l.self-inside.versions;
  same : cut l.floor l.fn.self.versions ≡ cut l.floor (reverse l.self-inside.versions.items);
  counted : l.removed + length l.self-inside.versions.items ≡ length l.fn.self.versions;
}

abbrev pub decreases-loop-self : goal.decreases-loop-self
decreases-loop-self l = length l.self-inside.versions.items
