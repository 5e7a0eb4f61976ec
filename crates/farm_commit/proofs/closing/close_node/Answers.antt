use Rattle.std.proofs.Common.{◌∙◌, sym, subst}
use Rattle.std.proofs.lemmas.Option.{same_Some}
use Rattle.turnstile.specs.Entries.{HasAll}
use Rattle.turnstile.specs.Passes.{numbers, pass_count}
use Rattle.farm_commit.proofs.closing.close_node.Goals as goal

pub close-requires-clause-all : goal.close-requires-clause-all
close-requires-clause-all c =
    let t = c.requires.0 in
    subst (λ p. HasAll (pass_count c.args.lock) (numbers p)) (same_Some t.0 c.take_there-pass.result (sym t.1.0 ∙ c.take_there-pass.ensures.0)) c.requires.1
