use Rattle.std.proofs.Common.{List, [], ◌∷◌, ◌++◌, slice_set, sym, ap, ◌∙◌, subst}
use Rattle.std.specs.Vec.{with_item}
use Rattle.farm_node.specs.declared.entry.Found.{Found}
use Rattle.farm_node.specs.Owned.{WasRead}
use Rattle.transaction_part.specs.declared.part.Seen.{Seen}
use Rattle.farm_commit.specs.Farms.{AreRead}
use Rattle.write_set.specs.Writes.{writes}
use Rattle.transaction_part.specs.Part.{log, written}
use Rattle.transaction_part.proofs.Telling.{same_puts}
use Rattle.farm_commit.proofs.ViewSteps.{home_low, may_read, none_lacks, open_set, overlay_is, part_here, part_set, puts_set, reads_more, reads_set, rows_same, same_part}
use Rattle.farm_commit.proofs.farm.Farm.read_fresh.Goals as goal

pub read-requires-clause-running : goal.read-requires-clause-running
read-requires-clause-running g c =
    (part_here c.args.self.now c.args.txn.now c.requires.txn c.args.node (home_low c.args.self.now c.args.at c.args.node c.requires.node)
    c.index.result.now c.index_mut.result.now c.index.ensures c.index_mut.ensures.value).runs

pub read-requires-clause-away : goal.read-requires-clause-away
read-requires-clause-away g c =
    none_lacks (written c.index_mut.result.now) c.args.at
    (sym (overlay_is c.args.self.now c.args.txn.now c.requires.txn c.args.at c.args.node c.requires.node c.index_mut.result.now c.index_mut.ensures.value)
    ∙ c.requires.away)

pub returns-in-Ok-clause-txn : goal.returns-in-Ok-clause-txn
returns-in-Ok-clause-txn g c =
    open_set c.args.self.now c.args.txn.now c.requires.txn c.args.node (home_low c.args.self.now c.args.at c.args.node c.requires.node)
    c.index.result.now c.index_mut.result.now c.index.ensures c.index_mut.ensures.value c.read.new.self c.push_reserved.new.self
    (same_part c.args.self.now c.args.txn.now c.requires.txn c.args.node (home_low c.args.self.now c.args.at c.args.node c.requires.node)
    c.index.result.now c.index_mut.result.now c.index.ensures c.index_mut.ensures.value c.read.new.self c.read.ensures.running (ap writes c.read.ensures.writes))
    (reads_more c.args.txn.now.number c.args.txn.now.read_stamp c.args.self.now.nodes c.args.node
    (slice_set c.args.txn.now.parts.items c.args.node c.read.new.self) c.read.new.self c.args.txn.now.reads.items c.push_reserved.new.self.items
    record { at = c.args.at; found = c.of-told.result } (sym c.requires.node)
    (part_set c.args.self.now c.args.txn.now c.requires.txn c.args.node (home_low c.args.self.now c.args.at c.args.node c.requires.node)
    c.index.result.now c.index_mut.result.now c.index.ensures c.index_mut.ensures.value c.read.new.self)
    (subst (λ (found : Found). WasRead c.args.txn.now.number c.args.at c.args.txn.now.read_stamp found (log c.read.new.self))
    (sym c.of-told.ensures) c.in-Ok.ensures.read)
    (c.push_reserved.ensures.items ∙ ap (λ (xs : List Seen). xs ++ record { at = c.args.at; found = c.of-told.result } ∷ []) c.reserve.ensures.items)
    (reads_set c.args.self.now c.args.txn.now c.requires.txn c.args.node (home_low c.args.self.now c.args.at c.args.node c.requires.node)
    c.index.result.now c.index_mut.result.now c.index.ensures c.index_mut.ensures.value c.read.new.self c.args.txn.now.reads.items c.read.ensures.grown c.requires.txn.reads))

pub returns-in-Ok-clause-writes : goal.returns-in-Ok-clause-writes
returns-in-Ok-clause-writes g c =
    rows_same c.args.txn.now.parts.items c.args.node c.index_mut.result.now c.read.new.self c.index_mut.ensures.value (ap writes c.read.ensures.writes)

pub returns-in-Ok-clause-puts : goal.returns-in-Ok-clause-puts
returns-in-Ok-clause-puts g c =
    puts_set c.args.self.now c.args.txn.now c.requires.txn c.args.node (home_low c.args.self.now c.args.at c.args.node c.requires.node)
    c.index.result.now c.index_mut.result.now c.index.ensures c.index_mut.ensures.value c.read.new.self c.read.ensures.grown
    (same_puts c.args.txn.now.number (log c.index_mut.result.now) (log c.read.new.self) c.read.ensures.quiet)

pub returns-in-Err-clause-txn : goal.returns-in-Err-clause-txn
returns-in-Err-clause-txn g c =
    open_set c.args.self.now c.args.txn.now c.requires.txn c.args.node (home_low c.args.self.now c.args.at c.args.node c.requires.node)
    c.index.result.now c.index_mut.result.now c.index.ensures c.index_mut.ensures.value c.read.new.self c.reserve.new.self
    (same_part c.args.self.now c.args.txn.now c.requires.txn c.args.node (home_low c.args.self.now c.args.at c.args.node c.requires.node)
    c.index.result.now c.index_mut.result.now c.index.ensures c.index_mut.ensures.value c.read.new.self c.read.ensures.running (ap writes c.read.ensures.writes))
    (reads_set c.args.self.now c.args.txn.now c.requires.txn c.args.node (home_low c.args.self.now c.args.at c.args.node c.requires.node)
    c.index.result.now c.index_mut.result.now c.index.ensures c.index_mut.ensures.value c.read.new.self c.reserve.new.self.items c.read.ensures.grown
    (subst (AreRead c.args.txn.now.number c.args.txn.now.read_stamp c.args.self.now.nodes c.args.txn.now.parts.items)
    (sym c.reserve.ensures.items) c.requires.txn.reads))

pub returns-in-Err-clause-writes : goal.returns-in-Err-clause-writes
returns-in-Err-clause-writes g c =
    rows_same c.args.txn.now.parts.items c.args.node c.index_mut.result.now c.read.new.self c.index_mut.ensures.value (ap writes c.read.ensures.writes)

pub returns-in-Err-clause-puts : goal.returns-in-Err-clause-puts
returns-in-Err-clause-puts g c =
    puts_set c.args.self.now c.args.txn.now c.requires.txn c.args.node (home_low c.args.self.now c.args.at c.args.node c.requires.node)
    c.index.result.now c.index_mut.result.now c.index.ensures c.index_mut.ensures.value c.read.new.self c.read.ensures.grown
    (same_puts c.args.txn.now.number (log c.index_mut.result.now) (log c.read.new.self) c.read.ensures.quiet)

pub returns-in-Ok-clause-may : goal.returns-in-Ok-clause-may
returns-in-Ok-clause-may g c some =
    may_read c.args.self.now (record c.args.txn.now { parts = with_item c.args.txn.now.parts c.args.node c.read.new.self; reads = c.push_reserved.new.self }) c.args.at c.args.node c.read.new.self c.in-Ok.found (sym c.requires.node)
    (part_set c.args.self.now c.args.txn.now c.requires.txn c.args.node (home_low c.args.self.now c.args.at c.args.node c.requires.node)
    c.index.result.now c.index_mut.result.now c.index.ensures c.index_mut.ensures.value c.read.new.self)
    c.in-Ok.ensures.read some
