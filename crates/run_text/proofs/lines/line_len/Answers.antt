use Rattle.run_text.proofs.ScriptLemmas.{lines_begin}
use Rattle.run_text.proofs.lines.line_len.Goals as goal

pub loop-at-init : goal.loop-at-init
loop-at-init c = lines_begin c.args.bytes.now c.requires
