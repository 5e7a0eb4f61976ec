use Rattle.std.proofs.Common.{◌≡◌, take}
use Rattle.std.specs.List.{list_any}
use Rattle.a1.specs.Words.{texts_of, is_stray}
use Rattle.a1.proofs.options.has_stray.Given as goal

abbrev pub invariant-loop-word : goal.invariant-loop-word
invariant-loop-word l = l.stray ≡ list_any is_stray (texts_of (take l.word-index l.words))
