use Rattle.std.proofs.Common.{◌≡◌, ℕ, Some, slice_get, slice_set, refl, sym, subst}
use Rattle.std.proofs.lemmas.Result.{on_err_weaker, on_ok_weaker}
use Rattle.a1_base.specs.Lists.{BeginsWith}
use Rattle.write_set.specs.Writes.{Overwrites}
use Rattle.transaction_part.specs.Part.{log, log_in}
use Rattle.transaction_part.specs.Stories.{SamePuts}
use Rattle.transaction_part.proofs.Telling.{begins_same}
use Rattle.farm_commit.specs.Views.{Rewrites, rows}
use Rattle.farm_commit.proofs.ViewSteps.{home_low, open_set, part_here, part_there, puts_set, reads_set, rewrites, rows_same, written_part}
use Rattle.farm_commit.proofs.farm.Farm.write.Goals as goal

pub write-requires-clause-running : goal.write-requires-clause-running
write-requires-clause-running c =
    (part_here c.args.self.now c.args.txn.now c.requires.txn c.home_of-node.result (home_low c.args.self.now c.args.at c.home_of-node.result c.home_of-node.ensures)
    c.index.result.now c.index_mut.result.now c.index.ensures c.index_mut.ensures.value).runs

pub write-requires-clause-may : goal.write-requires-clause-may
write-requires-clause-may c =
    c.requires.may c.index_mut.result.now (subst (λ (n : ℕ). slice_get c.args.txn.now.parts.items n ≡ Some c.index_mut.result.now)
    c.home_of-node.ensures (part_there c.args.self.now c.args.txn.now c.requires.txn c.home_of-node.result (home_low c.args.self.now c.args.at c.home_of-node.result c.home_of-node.ensures)
    c.index.result.now c.index_mut.result.now c.index.ensures c.index_mut.ensures.value))

pub returns-clause-txn : goal.returns-clause-txn
returns-clause-txn c =
    open_set c.args.self.now c.args.txn.now c.requires.txn c.home_of-node.result (home_low c.args.self.now c.args.at c.home_of-node.result c.home_of-node.ensures)
    c.index.result.now c.index_mut.result.now c.index.ensures c.index_mut.ensures.value c.write.new.self c.args.txn.now.reads
    (written_part c.args.self.now c.args.txn.now c.requires.txn c.home_of-node.result (home_low c.args.self.now c.args.at c.home_of-node.result c.home_of-node.ensures)
    c.index.result.now c.index_mut.result.now c.index.ensures c.index_mut.ensures.value c.write.new.self c.write.ensures.running
    c.write.result c.args.at c.args.value (sym c.home_of-node.ensures) c.write.ensures.ok c.write.ensures.err)
    (reads_set c.args.self.now c.args.txn.now c.requires.txn c.home_of-node.result (home_low c.args.self.now c.args.at c.home_of-node.result c.home_of-node.ensures)
    c.index.result.now c.index_mut.result.now c.index.ensures c.index_mut.ensures.value c.write.new.self c.args.txn.now.reads.items
    (subst (λ place. BeginsWith (log_in place) (log c.index_mut.result.now)) (sym c.write.ensures.pass) (begins_same (log c.index_mut.result.now)))
    c.requires.txn.reads)

pub returns-clause-ok : goal.returns-clause-ok
returns-clause-ok c =
    on_ok_weaker c.write.result
    (λ ok. subst (λ (n : ℕ). Rewrites n (Overwrites c.args.at c.args.value) (rows c.args.txn.now.parts.items)
    (rows (slice_set c.args.txn.now.parts.items c.home_of-node.result c.write.new.self))) c.home_of-node.ensures
    (rewrites c.args.self.now c.args.txn.now c.requires.txn c.home_of-node.result (home_low c.args.self.now c.args.at c.home_of-node.result c.home_of-node.ensures)
    c.index.result.now c.index_mut.result.now c.index.ensures c.index_mut.ensures.value c.write.new.self
    (Overwrites c.args.at c.args.value) ok))
    c.write.ensures.ok

pub returns-clause-err : goal.returns-clause-err
returns-clause-err c =
    on_err_weaker c.write.result
    (rows_same c.args.txn.now.parts.items c.home_of-node.result c.index_mut.result.now c.write.new.self c.index_mut.ensures.value) c.write.ensures.err

pub returns-clause-puts : goal.returns-clause-puts
returns-clause-puts c =
    puts_set c.args.self.now c.args.txn.now c.requires.txn c.home_of-node.result (home_low c.args.self.now c.args.at c.home_of-node.result c.home_of-node.ensures)
    c.index.result.now c.index_mut.result.now c.index.ensures c.index_mut.ensures.value c.write.new.self
    (subst (λ place. BeginsWith (log_in place) (log c.index_mut.result.now)) (sym c.write.ensures.pass) (begins_same (log c.index_mut.result.now)))
    (subst (λ place. SamePuts c.args.txn.now.number (log c.index_mut.result.now) (log_in place)) (sym c.write.ensures.pass) (λ a. refl))
