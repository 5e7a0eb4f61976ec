use Rattle.std.proofs.Common.{◌≡◌, ◌++◌, ◌∷◌, [], true, Some, refl, arith}
use Rattle.std.proofs.lemmas.Grind.{common_steps}
use Rattle.write_set.specs.Writes.{writes}
use Rattle.transaction_part.proofs.part.Part.alloc.Goals as goal

pub returns-else-is_err-2-clause-running : goal.returns-else-is_err-2-clause-running
returns-else-is_err-2-clause-running g c =
    let one : writes c.add.new.self ≡ writes c.reserve.new.self ++ record { at = c.in-Ok.placed.at; value = Some c.args.bytes; made = true } ∷ []
    = grind (arith, common_steps) in
    c.in-Ok.ensures.made (record { pass = c.place.new.self.pass; writes = c.add.new.self })
    (record { at = c.in-Ok.placed.at; value = Some c.args.bytes; made = true }) refl refl refl one
