use Rattle.std.proofs.Common.{◌≡◌, [], ◌∷◌, ◌++◌, Some, true, sym, ◌∙◌, subst}
use Rattle.std.proofs.lemmas.Option.{same_Some}
use Rattle.std.proofs.lemmas.Result.{IfOk-weaker, on_err_weaker}
use Rattle.farm_node.specs.NodeState.{occupancy, replay}
use Rattle.object_region.specs.Occupancy.{IsSpent}
use Rattle.transaction_part.specs.declared.part.Part.{Part}
use Rattle.transaction_part.specs.Part.{log, written}
use Rattle.farm_commit.proofs.ViewSteps.{made_fresh, made_part, open_set, part_here, part_set, puts_set, reads_set, rewrites, rows_same}
use Rattle.farm_commit.proofs.farm.Farm.alloc.Goals as goal

pub alloc-requires-clause-running : goal.alloc-requires-clause-running
alloc-requires-clause-running g c =
    (part_here c.args.self.now c.args.txn.now c.requires.txn c.args.node c.requires.node
    c.index.result.now c.index_mut.result.now c.index.ensures c.index_mut.ensures.value).runs

pub returns-clause-txn : goal.returns-clause-txn
returns-clause-txn g c =
    open_set c.args.self.now c.args.txn.now c.requires.txn c.args.node c.requires.node
    c.index.result.now c.index_mut.result.now c.index.ensures c.index_mut.ensures.value c.alloc.new.self c.args.txn.now.reads
    (made_part c.args.self.now c.args.txn.now c.requires.txn c.args.node c.requires.node
    c.index.result.now c.index_mut.result.now c.index.ensures c.index_mut.ensures.value c.alloc.new.self c.alloc.ensures.running
    c.alloc.result c.args.bytes c.alloc.ensures.place c.alloc.ensures.ok c.alloc.ensures.err)
    (reads_set c.args.self.now c.args.txn.now c.requires.txn c.args.node c.requires.node
    c.index.result.now c.index_mut.result.now c.index.ensures c.index_mut.ensures.value c.alloc.new.self c.args.txn.now.reads.items c.alloc.ensures.grown
    c.requires.txn.reads)

pub returns-clause-fresh : goal.returns-clause-fresh
returns-clause-fresh g c =
    made_fresh c.args.self.now c.args.txn.now c.requires.txn c.args.node c.requires.node
    c.index.result.now c.index_mut.result.now c.index.ensures c.index_mut.ensures.value c.alloc.new.self c.alloc.ensures.running c.alloc.result
    c.alloc.ensures.place c.alloc.ensures.fresh

pub returns-clause-ok : goal.returns-clause-ok
returns-clause-ok g c =
    IfOk-weaker c.alloc.result
    (λ at. written c.alloc.new.self ≡ written c.index_mut.result.now ++ record { at = at; value = Some c.args.bytes; made = true } ∷ []) _
    (λ at ok. rewrites c.args.self.now c.args.txn.now c.requires.txn c.args.node c.requires.node
    c.index.result.now c.index_mut.result.now c.index.ensures c.index_mut.ensures.value c.alloc.new.self
    (λ old new. new ≡ old ++ record { at = at; value = Some c.args.bytes; made = true } ∷ []) ok)
    c.alloc.ensures.ok

pub returns-clause-err : goal.returns-clause-err
returns-clause-err g c =
    on_err_weaker c.alloc.result
    (rows_same c.args.txn.now.parts.items c.args.node c.index_mut.result.now c.alloc.new.self c.index_mut.ensures.value) c.alloc.ensures.err

pub returns-clause-spent : goal.returns-clause-spent
returns-clause-spent g c = λ spent p there.
    subst (λ (x : Part). IsSpent (occupancy (replay (log x)))) (same_Some c.alloc.new.self p
    (sym (part_set c.args.self.now c.args.txn.now c.requires.txn c.args.node c.requires.node
    c.index.result.now c.index_mut.result.now c.index.ensures c.index_mut.ensures.value c.alloc.new.self) ∙ there))
    (c.alloc.ensures.spent spent)

pub returns-clause-puts : goal.returns-clause-puts
returns-clause-puts g c =
    puts_set c.args.self.now c.args.txn.now c.requires.txn c.args.node c.requires.node
    c.index.result.now c.index_mut.result.now c.index.ensures c.index_mut.ensures.value c.alloc.new.self c.alloc.ensures.grown c.alloc.ensures.puts
