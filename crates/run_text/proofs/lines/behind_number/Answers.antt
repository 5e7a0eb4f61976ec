use Rattle.std.proofs.Common.{◌≡◌, ◌∷◌, ◌∙◌, sym, ap, get_or, arith}
use Rattle.run_text.proofs.ScriptLemmas.{numbered_other}
use Rattle.run_text.proofs.lines.behind_number.Goals as goal
use Rattle.run_text.proofs.lines.behind_number.Goals.{else-first-eq49-via-then-first-eq49+else-second-eq32, else-first-eq49-via-else-first-eq49}

pub returns-else-first-eq49 : goal.returns-else-first-eq49
returns-else-first-eq49 c =
    let a = c.in_ok-first.first.now in
    let b = c.in_ok-second.second.now in
    let line_is : c.args.line.now ≡ a ∷ b ∷ c.in_ok-second.request.now = c.in_ok-first.ensures.cases.0 ∙ ap (λ xs. a ∷ xs) c.in_ok-second.ensures.cases.0 in
    sym (numbered_other c.args.line.now
    (λ rest e.
    let one : a ≡ 49 = ap (λ xs. get_or xs 0 0) (sym line_is ∙ e) in
    let two : b ≡ 32 = ap (λ xs. get_or xs 1 0) (sym line_is ∙ e) in
    elim c.else-first-eq49.branch [ else-first-eq49-via-then-first-eq49+else-second-eq32 w ↦ omega arith | else-first-eq49-via-else-first-eq49 w ↦ omega arith ]))
