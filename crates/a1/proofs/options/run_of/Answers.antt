use Rattle.std.proofs.Common.{subst, codes}
use Rattle.a1.specs.Words.{texts_of, uses_in, run_names, run_options}
use Rattle.a1.specs.Found.{IsFound}
use Rattle.a1.proofs.WordLemmas.{uses_some, uses_none}
use Rattle.a1.proofs.options.run_of.Goals as goal

pub returns-in-Some : goal.returns-in-Some
returns-in-Some c =
    let texts = texts_of c.args.words.now in
    uses_some (uses_in run_names texts) c.in-Some.found run_options c.run_options.result
    (subst (IsFound run_names texts) c.in-Some.is (c.in_ok-found.ensures (codes "run") run_names c.in_ok-run_line.ensures)) c.run_options.ensures

pub returns-in-None : goal.returns-in-None
returns-in-None c =
    let texts = texts_of c.args.words.now in
    uses_none (uses_in run_names texts) run_options
    (subst (IsFound run_names texts) c.in-None.is (c.in_ok-found.ensures (codes "run") run_names c.in_ok-run_line.ensures))
