use Rattle.std.proofs.Common.{◌≡◌, ◌∙◌, length, refl, sym, arith}
use Rattle.std.proofs.lemmas.List.{with_items_is}
use Rattle.farm_core.proofs.Farming.{clock_low}
use Rattle.farm_core.proofs.Beginning.{begin_meets, begin_no, begin_free, begin_stands}
use Rattle.farm_core.proofs.farm.Farm.begin.Goals as goal

pub returns-then-not-may_begin-clause-steps : goal.returns-then-not-may_begin-clause-steps
returns-then-not-may_begin-clause-steps c = λ s st.
    begin_no c.args.self.now s st c.args.transaction c.requires.actor c.index.result.now c.index.ensures (sym c.may_begin.ensures ∙ c.if-not-may_begin.true)

pub open_all-requires : goal.open_all-requires
open_all-requires c =
    let known = c.requires.known in
    let meets = begin_meets c.args.self.now known.0 known.1 c.args.transaction c.requires.actor c.index.result.now c.index.ensures (sym c.may_begin.ensures ∙ c.if-not-may_begin.false) in
    record {
      actor = (c.requires.actor.0, clock_low c.args.self.now known.0 known.1);
      free = begin_free c.args.self.now known.0 known.1 c.args.transaction c.requires.actor meets.0 c.deref_mut.result.now c.deref_mut.ensures.value;
    }

pub returns-clause-steps : goal.returns-clause-steps
returns-clause-steps c = λ s st.
    let meets = begin_meets c.args.self.now s st c.args.transaction c.requires.actor c.index.result.now c.index.ensures (sym c.may_begin.ensures ∙ c.if-not-may_begin.false) in
    let same : length c.open_all.new.nodes ≡ c.args.self.now.nodes.len = omega arith in
    let kept : length c.open_all.new.nodes ≡ length c.deref_mut.result.now = omega arith in
    begin_stands c.args.self.now s st c.args.transaction c.requires.actor meets c.begun-active.result c.deref_mut.result.now c.open_all.new.nodes _ c.begun-active.ensures c.deref_mut.ensures.value kept c.open_all.ensures
    (with_items_is c.args.self.now.nodes c.open_all.new.nodes same) refl refl refl
