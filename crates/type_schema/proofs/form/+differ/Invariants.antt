use Rattle.std.proofs.Common.{length}
use Rattle.type_schema.proofs.form.+differ.Given as goal

abbrev pub decreases-differ : goal.decreases-differ
decreases-differ l = length l.attrs.now
