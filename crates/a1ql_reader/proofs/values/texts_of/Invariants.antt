use Rattle.std.proofs.Common.{◌≡◌, ◌++◌, drop}
use Rattle.a1ql_reader.specs.Values.{texts_of}
use Rattle.a1ql_reader.proofs.values.texts_of.Given as goal

abbrev pub invariant-loop-item : goal.invariant-loop-item
invariant-loop-item l = l.texts ++ texts_of (drop l.item-index l.items) ≡ texts_of l.items
