use Rattle.std.proofs.Common.{◌≡◌, drop}
use Rattle.request_reader.specs.Forms.{form_in, members_named}
use Rattle.request_reader.proofs.naming.members_named.Given as goal

abbrev pub invariant-loop-m : goal.invariant-loop-m
invariant-loop-m l = members_named (form_in (drop l.m-index l.form)) l.members ≡ members_named (form_in l.form) l.members
