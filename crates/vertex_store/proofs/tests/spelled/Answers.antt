use Rattle.std.proofs.Common.{◌≡◌, Some, arith}
use Rattle.a1_base.specs.Fronts.{IsBytes}
use Rattle.type_schema.specs.Reading.{record_front}
use Rattle.type_schema.proofs.LayoutLemmas.{record_exact}
use Rattle.vertex_store.proofs.tests.spelled.Goals as goal

pub returns-in-Ok : goal.returns-in-Ok
returns-in-Ok c =
    let fits : IsBytes c.args.bytes.now = λ i. omega (arith, c.type_inv.bytes i) in
    let read : record_front c.args.bytes.now ≡ Some (c.in-Ok.values, c.in-Ok.field-0-1.now) = c.in-Ok.ensures in
    (record_exact.takes c.args.bytes.now (c.in-Ok.values, c.in-Ok.field-0-1.now) fits read).0
