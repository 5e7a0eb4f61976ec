use Rattle.std.proofs.Common.{◌≡◌, drop}
use Rattle.a1_json.specs.Fields.{fields_in}
use Rattle.request_reader.specs.Request.{each_of, attr_of, attrs_of}
use Rattle.request_reader.proofs.EachLemmas.{with_front}
use Rattle.request_reader.proofs.saying.attrs_of.Given as goal

abbrev pub invariant-loop-item : goal.invariant-loop-item
invariant-loop-item l = with_front l.attrs.items (each_of (λ j. attr_of (fields_in j)) (drop l.item-index l.items)) ≡ attrs_of l.items
