use Rattle.std.proofs.Common.{◌≡◌, drop}
use Rattle.request_reader.specs.Forms.{form_in, members_fit}
use Rattle.request_reader.proofs.shapes.members_fit.Given as goal

abbrev pub invariant-loop-m : goal.invariant-loop-m
invariant-loop-m l = members_fit (form_in (drop l.m-index l.form)) l.members ≡ members_fit (form_in l.form) l.members
