use Rattle.transaction_part.proofs.Viewing.{Stays}
use Rattle.transaction_part.proofs.part.Part.read.Given as goal

abbrev pub invariant-loop : goal.invariant-loop
invariant-loop g l = record {
  next : (goal.iterator-loop g).can_next l.iterator';
  finite : (goal.iterator-loop g).is_finite l.iterator';
  stays : Stays l.lock l.t l.r l.fn.self l.self;
}
