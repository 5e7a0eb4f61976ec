use Rattle.std.proofs.Common.{◌∙◌, sym, true≢false}
use Rattle.a1_json.proofs.TreeLemmas.{value_read, nothing_read}
use Rattle.a1_json.proofs.reading.read.Goals as goal

pub returns-in-Ok-clause-read : goal.returns-in-Ok-clause-read
returns-in-Ok-clause-read c = value_read _ _ c.convert.result c.in-Ok.ensures.ok.0 c.in-Ok.ensures.ok.1 c.convert.ensures.ok c.convert.ensures.fault

pub returns-else-is_memory-clause-read : goal.returns-else-is_memory-clause-read
returns-else-is_memory-clause-read c = nothing_read _ (c.in-Err.ensures.err (λ memory. true≢false (sym (c.is_memory.ensures.1 memory) ∙ c.if-is_memory.false)))
