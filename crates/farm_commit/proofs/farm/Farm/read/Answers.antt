use Rattle.std.proofs.Common.{Option, Some, IfOk, IsSome, sym, refl, ◌∙◌, subst}
use Rattle.std.proofs.lemmas.Result.{IfOk-weaker}
use Rattle.write_set.specs.declared.set.Write.{Write}
use Rattle.transaction_part.specs.Part.{written}
use Rattle.farm_commit.specs.Views.{MayWriteAt, ReadTells}
use Rattle.farm_commit.proofs.ViewSteps.{lacks_none, may_stands, overlay_is, overlay_stands}
use Rattle.farm_commit.proofs.farm.Farm.read.Goals as goal

pub read_fresh-requires-clause-away : goal.read_fresh-requires-clause-away
read_fresh-requires-clause-away g c =
    overlay_is c.args.self.now c.args.txn.now c.requires.txn c.args.at c.home_of-node.result c.home_of-node.ensures c.index.result.now c.index.ensures
    ∙ lacks_none (written c.index.result.now) c.args.at c.in-None.ensures.none

pub returns-in-Some-clause-tells : goal.returns-in-Some-clause-tells
returns-in-Some-clause-tells g c =
    subst (λ (o : Option Write). IfOk c.own_value.result (ReadTells o c.args.at c.args.txn.now.reads.items c.args.txn.now.reads.items))
    (sym (overlay_stands c.args.self.now c.args.txn.now c.requires.txn c.args.at c.home_of-node.result c.home_of-node.ensures
    c.index.result.now c.index.ensures c.index-in-Some.result.now c.index-in-Some.ensures c.in-Some.index c.get.result.now c.in-Some.ensures.some
    c.get.ensures))
    (IfOk-weaker c.own_value.result _ (ReadTells (Some c.get.result.now) c.args.at c.args.txn.now.reads.items c.args.txn.now.reads.items)
    (λ found is. (refl, is.0, is.1)) c.own_value.ensures)

pub returns-in-None-clause-tells : goal.returns-in-None-clause-tells
returns-in-None-clause-tells g c =
    subst (λ (o : Option Write). IfOk c.read_fresh.result (ReadTells o c.args.at c.args.txn.now.reads.items c.read_fresh.new.txn.reads.items))
    (sym (overlay_is c.args.self.now c.args.txn.now c.requires.txn c.args.at c.home_of-node.result c.home_of-node.ensures c.index.result.now c.index.ensures
    ∙ lacks_none (written c.index.result.now) c.args.at c.in-None.ensures.none))
    c.read_fresh.ensures.tells

pub returns-in-Some-clause-may : goal.returns-in-Some-clause-may
returns-in-Some-clause-may g c =
    IfOk-weaker c.own_value.result _ (λ found. IsSome found.value → MayWriteAt c.args.self.now c.args.txn.now c.args.at)
    (λ found is some. may_stands c.args.self.now c.args.txn.now c.requires.txn c.args.at c.home_of-node.result c.home_of-node.ensures c.index.result.now
    c.index.ensures c.in-Some.index c.in-Some.ensures.some)
    c.own_value.ensures
