use Rattle.std.proofs.Common.{ap, ◌∙◌, refl, ◌++◌, ◌∷◌, [], List, ◌≡◌, length, Err, arith}
use Rattle.farm_core.proofs.Words.{Addr}
use Rattle.farm_core.proofs.Acting.{pinned_at, read_low, alloc_placed, alloc_spent, alloc_failed}
use Rattle.farm_core.proofs.active.Active.alloc.Goals as goal

pub alloc-requires : goal.alloc-requires
alloc-requires c =
    let can = c.requires.can in
    let number : length c.args.nodes.now ≡ can.0.nodes = can.2.nodes_stand.number in
    record {
      pinned = pinned_at can.0 can.1 c.args.transaction c.args.self.now c.args.nodes.now can.2 c.args.node c.index-nodes-node.result (omega arith) can.3.0;
      stamp = read_low can.0 can.1 c.args.transaction c.args.self.now c.args.nodes.now can.2;
    }

pub returns-in-Ok : goal.returns-in-Ok
returns-in-Ok c = λ s r at meets.
    alloc_placed s r c.args.transaction c.args.self.now c.args.nodes.now at c.args.node c.index-nodes-node.result c.alloc.new.self c.requires.node c.args.bytes.now c.in_ok-bytes.bytes (c.in_ok-bytes.ensures ∙ c.as_slice.ensures)
    c.take.new.self c.in-Ok.placed c.in-Ok.ensures.made c.take.ensures.same c.take.ensures.reads
    (c.take.ensures.locked ∙ ap (λ (xs : List Addr). xs ++ c.in-Ok.placed.at ∷ []) c.reserve.ensures.items)

pub returns-in-Err-Spent : goal.returns-in-Err-Spent
returns-in-Err-Spent c = λ s r at meets.
    alloc_spent s r c.args.transaction c.args.self.now c.args.nodes.now at c.args.node c.index-nodes-node.result c.alloc.new.self c.requires.node c.args.bytes.now c.in_ok-bytes.bytes (c.in_ok-bytes.ensures ∙ c.as_slice.ensures)
    _ c.in-Err-Spent.ensures.made (c.in-Err-Spent.ensures.spent.0 (ap Err c.in-Err-Spent.field-0-is)) refl (refl, refl) refl c.reserve.ensures.items

pub returns-in-Err-Memory : goal.returns-in-Err-Memory
returns-in-Err-Memory c = λ s r at meets.
    alloc_failed s r c.args.transaction c.args.self.now c.args.nodes.now at c.args.node c.index-nodes-node.result c.alloc.new.self c.requires.node c.args.bytes.now c.in_ok-bytes.bytes (c.in_ok-bytes.ensures ∙ c.as_slice.ensures)
    _ c.in-Err-Memory.ensures.made refl (refl, refl) refl c.reserve.ensures.items
