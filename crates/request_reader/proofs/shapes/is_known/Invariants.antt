use Rattle.std.proofs.Common.{◌≡◌, drop}
use Rattle.request_reader.specs.Forms.{form_in, is_known}
use Rattle.request_reader.proofs.shapes.is_known.Given as goal

abbrev pub invariant-loop-m : goal.invariant-loop-m
invariant-loop-m l = is_known (form_in (drop l.m-index l.form)) l.name ≡ is_known (form_in l.form) l.name
