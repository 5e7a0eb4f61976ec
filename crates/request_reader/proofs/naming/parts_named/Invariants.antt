use Rattle.std.proofs.Common.{◌≡◌, drop}
use Rattle.request_reader.specs.Forms.{form_in, parts_named}
use Rattle.request_reader.proofs.naming.parts_named.Given as goal

abbrev pub invariant-loop-m : goal.invariant-loop-m
invariant-loop-m l = parts_named (form_in (drop l.m-index l.form)) l.members ≡ parts_named (form_in l.form) l.members
