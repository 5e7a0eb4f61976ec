use Rattle.std.proofs.Common.{sym, ◌∙◌, arith}
use Rattle.std.proofs.lemmas.Bool.Decides.{nat_tests}
use Rattle.steps_text.proofs.ContentLemmas.{content_upper, content_empty, content_long, content_read}
use Rattle.steps_text.proofs.words.object.Goals as goal
use Rattle.steps_text.proofs.words.object.Goals.{then-has_upper-via-then-has_upper, then-has_upper-via-else-has_upper+then-is_empty, then-has_upper-via-else-has_upper+else-is_empty+then-word}

pub returns-then-has_upper : goal.returns-then-has_upper
returns-then-has_upper c =
    let word = c.args.word.now in
    elim c.then-has_upper.branch [
      | then-has_upper-via-then-has_upper w ↦ content_upper word (sym c.has_upper.ensures ∙ w.if-has_upper.true)
      | then-has_upper-via-else-has_upper+then-is_empty w ↦ content_empty word (grind (arith, nat_tests))
      | then-has_upper-via-else-has_upper+else-is_empty+then-word w ↦ content_long word (omega (arith, w.if-word.true))
    ]

pub returns-in-Ok : goal.returns-in-Ok
returns-in-Ok c =
    rw c.from_vec.ensures
    (content_read c.args.word.now c.in-Ok.bytes.items c.in-Ok.ensures.ok (sym c.has_upper.ensures ∙ c.if-has_upper.false) (grind (arith, nat_tests)) c.if-word.false)
