use Rattle.std.proofs.Common.{◌≡◌, Bool, length, refl, subst, arith}
use Rattle.std.proofs.lemmas.List.{with_items_is}
use Rattle.farm_core.proofs.Words.{Shuts}
use Rattle.farm_core.proofs.Farming.{slot_at}
use Rattle.farm_core.proofs.Ending.{shut_no, shut_pins, shut_stands}
use Rattle.farm_core.proofs.farm.Farm.shut.Goals as goal

pub returns-then-not-shut-clause-steps : goal.returns-then-not-shut-clause-steps
returns-then-not-shut-clause-steps c = λ s st.
    let says = subst (λ (b : Bool). Shuts c.index_mut.result.now c.deref.result.now c.args.transaction b c.shut.new.self) c.if-not-shut.true c.shut.ensures in
    shut_no c.args.self.now s st c.args.transaction c.requires.actor c.shut.new.self c.deref.result.now _
    (says s c.args.self.now.clock st.reached (slot_at c.args.self.now s st c.args.transaction c.requires.actor c.index_mut.result.now c.deref.result.now c.index_mut.ensures.value c.deref.ensures.value))
    refl refl refl refl

pub shut_all-requires : goal.shut_all-requires
shut_all-requires c =
    let known = c.requires.known in
    let says = subst (λ (b : Bool). Shuts c.index_mut.result.now c.deref.result.now c.args.transaction b c.shut.new.self) c.if-not-shut.false c.shut.ensures in
    shut_pins c.args.self.now known.0 known.1 c.args.transaction c.requires.actor
    (says.0 known.0 c.args.self.now.clock known.1.reached (slot_at c.args.self.now known.0 known.1 c.args.transaction c.requires.actor c.index_mut.result.now c.deref.result.now c.index_mut.ensures.value c.deref.ensures.value))
    c.deref_mut.result.now c.deref_mut.ensures.value

pub returns-clause-steps : goal.returns-clause-steps
returns-clause-steps c = λ s st.
    let says = subst (λ (b : Bool). Shuts c.index_mut.result.now c.deref.result.now c.args.transaction b c.shut.new.self) c.if-not-shut.false c.shut.ensures in
    let same : length c.shut_all.new.nodes ≡ c.args.self.now.nodes.len = omega arith in
    let kept : length c.shut_all.new.nodes ≡ length c.deref_mut.result.now = omega arith in
    shut_stands c.args.self.now s st c.args.transaction c.requires.actor
    (says.0 s c.args.self.now.clock st.reached (slot_at c.args.self.now s st c.args.transaction c.requires.actor c.index_mut.result.now c.deref.result.now c.index_mut.ensures.value c.deref.ensures.value))
    c.index_mut.result.now c.shut.new.self c.deref_mut.result.now c.shut_all.new.nodes _ c.index_mut.ensures.value says.1 says.2 c.deref_mut.ensures.value kept c.shut_all.ensures
    (with_items_is c.args.self.now.nodes c.shut_all.new.nodes same) refl refl refl
