use Rattle.std.proofs.Common.{◌≡◌, take}
use Rattle.a1.specs.StepsCommand.{answers_text}
use Rattle.a1.proofs.steps_command.lines_of.Given as goal

abbrev pub invariant-loop-answer : goal.invariant-loop-answer
invariant-loop-answer l = l.text ≡ answers_text (take l.answer-index l.answers)
