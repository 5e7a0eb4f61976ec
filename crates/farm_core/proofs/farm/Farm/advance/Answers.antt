use Rattle.std.proofs.Common.{◌≡◌, ℕ, length, refl, subst, arith}
use Rattle.std.proofs.lemmas.List.{with_items_is}
use Rattle.farm_core.proofs.Words.{InRange}
use Rattle.farm_core.proofs.Farming.{actor_of, slot_at, farm_stepped}
use Rattle.farm_core.proofs.farm.Farm.advance.Goals as goal

pub returns-clause-steps : goal.returns-clause-steps
returns-clause-steps c = λ s st.
    let own = c.requires.known.2 in
    let range : InRange s.nodes c.args.event.now = subst (λ (n : ℕ). InRange n c.args.event.now) st.nodes_stand.number c.requires.range in
    let actor = actor_of s.nodes c.args.transaction c.args.event.now own range in
    let same : length c.advance.new.nodes ≡ c.args.self.now.nodes.len = omega arith in
    farm_stepped c.args.self.now s st c.args.transaction actor c.args.event.now range c.advance.new.self c.advance.new.nodes c.advance.new.clock _ (with_items_is c.args.self.now.nodes c.advance.new.nodes same) refl refl refl
    c.advance.result (c.advance.ensures s st.reached (slot_at c.args.self.now s st c.args.transaction actor c.index_mut.result.now c.deref_mut.result.now c.index_mut.ensures.value c.deref_mut.ensures.value) own)
