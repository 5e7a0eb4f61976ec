use Rattle.std.proofs.Common.{◌∙◌, sym, ap}
use Rattle.std.specs.BTreeMap.{get}
use Rattle.object_view.specs.Agreement.{addr_order, object_of}
use Rattle.object_view.proofs.Listed.{mapped}
use Rattle.object_view.proofs.mem_view.MemView.of.Goals as goal

pub over-requires-clause-stored : goal.over-requires-clause-stored
over-requires-clause-stored c a bytes e =
    c.requires.objects.stored a bytes (sym
    (mapped c.args.nodes c.args.heap.items c.in_ok-mapped.field-0 c.requires.objects c.in_ok-mapped.ensures a) ∙ e)

pub returns-clause-heap : goal.returns-clause-heap
returns-clause-heap c a =
    ap (λ m. object_of 1 (get addr_order m a)) c.over.ensures.heap
    ∙ ap (object_of 1) (mapped c.args.nodes c.args.heap.items c.in_ok-mapped.field-0 c.requires.objects
    c.in_ok-mapped.ensures a)
