use Rattle.std.proofs.Common.{◌≡◌, map, drop}
use Rattle.request_reader.specs.Forms.{verb_in}
use Rattle.request_reader.proofs.shapes.verb_in.Given as goal

abbrev pub invariant-loop-verb : goal.invariant-loop-verb
invariant-loop-verb l = verb_in (map (λ v. (v.0.now, v.1)) (drop l.verb-index l.verbs)) l.name ≡ verb_in (map (λ v. (v.0.now, v.1)) l.verbs) l.name
