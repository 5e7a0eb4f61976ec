use Rattle.std.proofs.Common.{sym}
use Rattle.object_view.specs.Layout.{Entry}
use Rattle.object_view.proofs.Layouts.{none_left}
use Rattle.object_btree.proofs.Scans.{scan_start, scan_on, placed_equal, placed_greater, placed_last}
use Rattle.object_btree.proofs.scan.place_in.Goals as goal

pub each-init : goal.each-init
each-init c es fits h = scan_start c.args.key.now es c.args.bytes.now fits h

pub each-preserved : goal.each-preserved
each-preserved c es fits h =
    let e : Entry = record { key = c.in-Some.other.now; word = c.in-Some.word } in
    scan_on _ es _ _ e _ (c.each.invariant es fits h) c.each-test.true c.in-Some.ensures.tells (sym c.in-Less.ensures)

pub returns-in-None : goal.returns-in-None
returns-in-None c es fits h = let s = c.each.invariant es fits h in
    none_left _ s.left s.fits s.rest_is c.each-test.true c.in-None.ensures.tells

pub returns-in-Equal : goal.returns-in-Equal
returns-in-Equal c es fits h =
    let e : Entry = record { key = c.in-Some.other.now; word = c.in-Some.word } in
    placed_equal _ es _ _ _ e _ (c.each.invariant es fits h) c.each-test.true c.in-Some.ensures.tells
    (sym c.in-Equal.ensures) c.front_of.ensures

pub returns-in-Greater : goal.returns-in-Greater
returns-in-Greater c es fits h =
    let e : Entry = record { key = c.in-Some.other.now; word = c.in-Some.word } in
    placed_greater _ es _ _ _ e _ (c.each.invariant es fits h) c.each-test.true c.in-Some.ensures.tells
    (sym c.in-Greater.ensures) c.front_of-in-Greater.ensures

pub returns : goal.returns
returns c es fits h = placed_last _ es _ _ _ (c.each.invariant es fits h) c.each-test.false c.front_of-2.ensures
