use Rattle.std.proofs.Common.{◌≡◌, [], ◌∷◌, sym, ◌∙◌, arith}
use Rattle.std.proofs.lemmas.Bool.{false≢true}
use Rattle.std.proofs.lemmas.Bool.Decides.{Decides-eqb}
use Rattle.std.proofs.lemmas.Slice.Eq.{slice_eq-Decides}
use Rattle.std.proofs.lemmas.Str.Pattern.{starts_char}
use Rattle.steps_text.proofs.WordLemmas.{zero_read, refused_sign, refused_zero, number_read}
use Rattle.steps_text.proofs.words.number.Goals as goal
use Rattle.steps_text.proofs.words.number.Goals.{then-starts_with-via-then-starts_with, then-starts_with-via-else-starts_with+then-starts_with-2}

pub returns-then-eq : goal.returns-then-eq
returns-then-eq c =
    let e : c.args.word.now ≡ 48 ∷ [] = (slice_eq-Decides Decides-eqb _ _ _ c.eq.ensures).0 c.if-eq.true in
    (zero_read ∙ sym e, omega arith)

pub returns-then-starts_with : goal.returns-then-starts_with
returns-then-starts_with c =
    let word = c.args.word.now in
    elim c.then-starts_with.branch [
      | then-starts_with-via-then-starts_with w ↦ refused_sign word ((starts_char 43 word _ c.starts_with.ensures.cases (omega arith) (omega arith)).0 w.if-starts_with.true)
      | then-starts_with-via-else-starts_with+then-starts_with-2 w ↦
          refused_zero word ((starts_char 48 word _ w.starts_with-else-starts_with.ensures.cases (omega arith) (omega arith)).0 w.if-starts_with-2.true)
          (λ e. false≢true (sym c.if-eq.false ∙ (slice_eq-Decides Decides-eqb _ _ _ c.eq.ensures).1 e))
    ]

pub returns : goal.returns
returns c =
    let word = c.args.word.now in
    rw c.ok.ensures.value
    (number_read word c.parse.result c.parse.ensures.value.0
    (λ e. false≢true (sym c.if-starts_with.false ∙ (starts_char 43 word _ c.starts_with.ensures.cases (omega arith) (omega arith)).1 e))
    (λ e. false≢true (sym c.if-starts_with-2.false ∙ (starts_char 48 word _ c.starts_with-else-starts_with.ensures.cases (omega arith) (omega arith)).1 e)))
