use Rattle.std.proofs.Common.{subst, codes}
use Rattle.a1.specs.Words.{texts_of, uses_in, steps_names, steps_options}
use Rattle.a1.specs.Found.{IsFound}
use Rattle.a1.proofs.WordLemmas.{uses_some, uses_none}
use Rattle.a1.proofs.options.steps_of.Goals as goal

pub returns-in-Some : goal.returns-in-Some
returns-in-Some c =
    let texts = texts_of c.args.words.now in
    uses_some (uses_in steps_names texts) c.in-Some.found steps_options c.steps_options.result
    (subst (IsFound steps_names texts) c.in-Some.is (c.in_ok-found.ensures (codes "steps") steps_names c.in_ok-steps_line.ensures)) c.steps_options.ensures

pub returns-in-None : goal.returns-in-None
returns-in-None c =
    let texts = texts_of c.args.words.now in
    uses_none (uses_in steps_names texts) steps_options
    (subst (IsFound steps_names texts) c.in-None.is (c.in_ok-found.ensures (codes "steps") steps_names c.in_ok-steps_line.ensures))
