use Rattle.std.proofs.Common.{◌∙◌, sym}
use Rattle.a1.specs.Words.{texts_of}
use Rattle.clap.specs.Words.{app_of}
use Rattle.a1.proofs.ClapLemmas.{found_stray, found_ok, found_err}
use Rattle.a1.proofs.options.found_in.Goals as goal

pub returns-then-has_stray : goal.returns-then-has_stray
returns-then-has_stray c = λ label names is. found_stray names (texts_of c.args.words.now) (sym c.has_stray.ensures ∙ c.if-has_stray.true)

pub returns-in-Ok : goal.returns-in-Ok
returns-in-Ok c = λ label names is.
    found_ok label names (texts_of c.args.words.now) (app_of c.args.line) c.in-Ok.found is (sym c.has_stray.ensures ∙ c.if-has_stray.false) c.requires (c.in-Ok.ensures.kinds c.requires) c.in-Ok.ensures.matches

pub returns : goal.returns
returns c = λ label names is.
    found_err label names (texts_of c.args.words.now) (app_of c.args.line) c.in-Err.error is (sym c.has_stray.ensures ∙ c.if-has_stray.false) (c.in-Err.ensures.kinds c.requires) (λ e. c.in_default.not-OutOfMemory (c.kind.ensures ∙ e))
