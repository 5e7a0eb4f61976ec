use Rattle.object_view.proofs.Listed.{listed}
use Rattle.object_view.proofs.mem_view.MemView.into_heap.Goals as goal

pub returns-clause-objects : goal.returns-clause-objects
returns-clause-objects c =
    listed c.args.self c.in_ok-settled.field-0 c.in_ok-objects.objects.items c.in_ok-objects.ensures.items
    c.listed.ensures.order c.in_ok-settled.ensures
