use Rattle.std.proofs.Common.{◌≡◌, List, [], ◌∷◌, ◌++◌, sym, ap, ◌∙◌, subst}
use Rattle.turnstile.specs.Entries.{up_to}
use Rattle.turnstile.specs.Passes.{first_value}
use Rattle.node_turns.specs.declared.standing.Standing.{Standing}
use Rattle.node_turns.specs.Standing.{begins_with}
use Rattle.transaction_part.specs.declared.part.Part.{Part}
use Rattle.transaction_part.specs.Part.{log_in}
use Rattle.farm_commit.specs.Nodes.{HavePasses, Lock}
use Rattle.farm_commit.specs.Making.{AreFresh, IsFresh}
use Rattle.farm_commit.proofs.Rows.{each_more, passes_more}
use Rattle.farm_commit.proofs.building.push_lock.Goals as goal

pub returns-in-Ok-clause-parts : goal.returns-in-Ok-clause-parts
returns-in-Ok-clause-parts c =
    let ns = up_to c.args.actors in
    let l : Lock = c.in-Ok.lock in
    let part : Part = c.new-in-Ok.result in
    let first : first_value l ≡ c.args.standing = c.in-Ok.ensures.lock.1 in
    let fresh : IsFresh l ns part = record {
      pass = (c.in-Ok.pass, c.new-in-Ok.ensures.pass, c.in-Ok.ensures.pass.0, c.in-Ok.ensures.pass.1);
      seen = ap (λ z. log_in z) c.new-in-Ok.ensures.pass ∙ (c.in-Ok.ensures.pass.2 ∙ ap (λ (s : Standing). begins_with s ∷ []) (sym first));
      none = c.new-in-Ok.ensures.none;
    } in
    subst (λ (ls : List Lock). AreFresh ls ns c.push-in-Ok.new.self.items) (sym c.in_ok-push-in-Ok.ensures.items)
    (subst (λ (ps : List Part). AreFresh (c.args.locks.now.items ++ l ∷ []) ns ps) (sym c.in_ok-push-in-Ok-2.ensures.items)
    (each_more (λ _ m p. IsFresh m ns p) c.args.locks.now.items c.args.parts.now.items l part fresh c.requires.parts))

pub returns-in-Ok-clause-passes : goal.returns-in-Ok-clause-passes
returns-in-Ok-clause-passes c have = subst (λ (ls : List Lock). HavePasses ls c.args.actors) (sym c.in_ok-push-in-Ok.ensures.items)
    (passes_more c.args.locks.now.items c.in-Ok.lock c.args.actors have c.in-Ok.ensures.lock.0)
