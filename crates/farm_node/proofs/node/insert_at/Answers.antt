use Rattle.farm_node.proofs.Common.{◌≡◌, Some, ap, ◌∙◌, arith, cells_of, held_there}
use Rattle.farm_node.proofs.CellMaps.{put_and_taken}
use Rattle.farm_node.proofs.Addresses.{set_self}
use Rattle.farm_node.proofs.node.insert_at.Goals as goal

pub returns-in-Err-clause-err : goal.returns-in-Err-clause-err
returns-in-Err-clause-err c =
    (put_and_taken (cells_of c.args.objects.now) (cells_of c.take_object.new.objects) (cells_of c.put_object.new.objects) c.args.at c.args.object c.requires.none c.in_ok-put_object.ensures.ok c.take_object.ensures.cells, c.in-Err.ensures.err)

pub returns-in-Err-clause-locks : goal.returns-in-Err-clause-locks
returns-in-Err-clause-locks c =
    let there : c.take_object.result ≡ Some c.args.object = c.take_object.ensures.object
    ∙ ap (λ cells. cells c.args.at) c.in_ok-put_object.ensures.ok
    ∙ set_self c.args.at (Some c.args.object) (cells_of c.args.objects.now) in
    let held = ap held_there there in
    let taken = c.take_object.ensures.locks in
    let put = c.in_ok-put_object.ensures.locks in
    omega (arith, held, taken, put)
