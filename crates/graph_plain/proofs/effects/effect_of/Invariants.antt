use Rattle.std.proofs.Common.{◌≡◌, drop}
use Rattle.request_reader.specs.Operations.{effect, effect_behind}
use Rattle.graph_plain.specs.Draft.{now_of, was_of}
use Rattle.graph_plain.proofs.effects.effect_of.Given as goal

abbrev pub invariant-loop-op : goal.invariant-loop-op
invariant-loop-op l = record {
  now : effect (now_of l.fn.draft) l.ops ≡ effect_behind (now_of l.draft) l.changing (drop l.op-index l.ops);
  was : was_of l.draft ≡ was_of l.fn.draft;
}
