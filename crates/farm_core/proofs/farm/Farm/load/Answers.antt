use Rattle.std.proofs.Common.{ℕ, ◌%◌, ◌∙◌, is_some, ap, refl, sym}
use Rattle.farm_core.proofs.Words.{NodeState}
use Rattle.farm_core.proofs.Loading.{here, load_closed, load_taken, load_stamp, load_place, load_stands, load_failed}
use Rattle.farm_core.proofs.farm.Farm.load.Goals as goal

pub returns-then-not-self-clause-steps : goal.returns-then-not-self-clause-steps
returns-then-not-self-clause-steps c = λ s st object. load_closed c.args.self.now s st c.args.at c.args.bytes.now c.if-not-self.true

pub returns-then-has_object-clause-steps : goal.returns-then-has_object-clause-steps
returns-then-has_object-clause-steps c = λ s st object.
    load_taken c.args.self.now s st c.args.at c.home-node.result (c.home-node.ensures.is ∙ ap (λ (k : ℕ). c.args.at.region % k) (c.len.ensures ∙ c.args.self.now.nodes.ok.0)) c.index.result.now c.index.ensures c.args.bytes.now c.has_object.result c.has_object.ensures c.if-has_object.true

pub load_one-requires-clause-place : goal.load_one-requires-clause-place
load_one-requires-clause-place c =
    let known = c.requires.known in
    load_place c.args.self.now known.0 known.1 c.args.at c.home-node.result (c.home-node.ensures.is ∙ ap (λ (k : ℕ). c.args.at.region % k) (c.len.ensures ∙ c.args.self.now.nodes.ok.0)) c.index_mut.result.now c.index_mut.ensures.value c.if-not-self.false c.requires.addr

pub load_one-requires-clause-stamp : goal.load_one-requires-clause-stamp
load_one-requires-clause-stamp c =
    let known = c.requires.known in
    load_stamp c.args.self.now known.0 known.1 c.args.at c.home-node.result (c.home-node.ensures.is ∙ ap (λ (k : ℕ). c.args.at.region % k) (c.len.ensures ∙ c.args.self.now.nodes.ok.0)) c.index_mut.result.now c.index_mut.ensures.value c.if-not-self.false

pub returns-in-Ok-clause-steps : goal.returns-in-Ok-clause-steps
returns-in-Ok-clause-steps c = λ s st object.
    load_stands c.args.self.now s st c.args.at c.home-node.result (c.home-node.ensures.is ∙ ap (λ (k : ℕ). c.args.at.region % k) (c.len.ensures ∙ c.args.self.now.nodes.ok.0)) c.index_mut.result.now c.index_mut.ensures.value c.if-not-self.false
    c.load_one.new.self c.args.bytes.now c.in_ok-bytes.bytes (c.in_ok-bytes.ensures ∙ c.as_slice.ensures) c.has_object.result
    (c.has_object.ensures ∙ ap (λ (p : NodeState). is_some (p.cells c.args.at))
    (here c.args.self.now s st c.args.at c.home-node.result (c.home-node.ensures.is ∙ ap (λ (k : ℕ). c.args.at.region % k) (c.len.ensures ∙ c.args.self.now.nodes.ok.0)) c.index.result.now c.index.ensures
    ∙ sym (here c.args.self.now s st c.args.at c.home-node.result (c.home-node.ensures.is ∙ ap (λ (k : ℕ). c.args.at.region % k) (c.len.ensures ∙ c.args.self.now.nodes.ok.0)) c.index_mut.result.now c.index_mut.ensures.value)))
    c.if-has_object.false
    _ c.requires.addr object c.in-Ok.ensures.ok refl refl refl refl

pub returns-in-Err-clause-steps : goal.returns-in-Err-clause-steps
returns-in-Err-clause-steps c = λ s st object.
    load_failed c.args.self.now s st c.args.at c.home-node.result (c.home-node.ensures.is ∙ ap (λ (k : ℕ). c.args.at.region % k) (c.len.ensures ∙ c.args.self.now.nodes.ok.0)) c.index_mut.result.now c.index_mut.ensures.value c.load_one.new.self _ c.in-Err.ensures.err refl refl refl refl
