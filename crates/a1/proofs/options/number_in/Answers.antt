use Rattle.std.proofs.Common.{◌∙◌, sym, arith}
use Rattle.std.proofs.lemmas.Bool.{false≢true}
use Rattle.std.proofs.lemmas.Str.Pattern.{starts_char}
use Rattle.a1.proofs.WordLemmas.{no_number, number_read}
use Rattle.a1.proofs.options.number_in.Goals as goal

pub returns-in_err-number : goal.returns-in_err-number
returns-in_err-number c =
    c.from_residual.ensures ∙ no_number c.args.low c.args.high c.args.word.now c.parse.result c.parse.ensures.value.0 (sym c.ok.ensures.value ∙ c.in_err-number.was) (omega arith)

pub returns-then-number-high : goal.returns-then-number-high
returns-then-number-high c =
    let word = c.args.word.now in
    number_read c.args.low c.args.high word c.in_ok-number.number c.parse.result c.parse.ensures.value.0 (sym c.ok.ensures.value ∙ c.in_ok-number.was)
    (λ e. false≢true (sym c.if-starts_with.false ∙ (starts_char 43 word _ c.starts_with.ensures.cases (omega arith) (omega arith)).1 e))
    (omega arith) (omega arith)
