use Rattle.std.proofs.Common.{◌≡◌, take}
use Rattle.answer_text.specs.Transcript.{text_of}
use Rattle.run_text.proofs.printing.transcript.Given as goal

abbrev pub invariant-loop-session : goal.invariant-loop-session
invariant-loop-session l = l.out ≡ text_of (take l.session-index l.sessions)
