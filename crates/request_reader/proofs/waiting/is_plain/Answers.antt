use Rattle.request_reader.proofs.PlainLemmas.{do_line, ask_line}
use Rattle.request_reader.proofs.waiting.is_plain.Goals as goal

pub returns-then-begins_with : goal.returns-then-begins_with
returns-then-begins_with c = λ plain. do_line c.args.line.now _ (c.begins_with.ensures plain)

pub returns-else-begins_with : goal.returns-else-begins_with
returns-else-begins_with c = λ plain. ask_line c.args.line.now _ (c.begins_with-else-begins_with.ensures plain)
