use Rattle.std.proofs.Common.{◌≡◌, ◌+◌, suc, List, length, Some, ◌∷◌, ap, arith}
use Rattle.object_view.specs.Layout.{Entry}
use Rattle.object_view.proofs.Layouts.{none_left, some_left, Left, none_more}
use Rattle.object_btree.proofs.scan.count_in.Goals as goal

some_long : (fs : List Entry) (e : Entry) (more : List Entry) → fs ≡ e ∷ more → 1 + length more ≡ length fs
some_long fs e more h = let z : length fs ≡ suc (length more) = ap length h in omega (arith, z)

pub returns-in-None : goal.returns-in-None
returns-in-None c es fits h few = let l = c.each.invariant.1 es fits h in
    absurd (none_left _ l.0 l.1 l.2 c.each-test.true c.in-None.ensures.tells)

pub returns-then-count-ge65536 : goal.returns-then-count-ge65536
returns-then-count-ge65536 c es fits h few =
    let l = c.each.invariant.1 es fits h in
    let e : Entry = record { key = c.in-Some.field-0-0.now; word = c.in-Some.field-0-1 } in
    let left : Left l.0 e c.in-Some.after.now = some_left _ l.0 e _ l.1 l.2 c.each-test.true c.in-Some.ensures.tells in
    let n = some_long l.0 e left.more left.are in
    let m : length es ≡ c.each.count + length l.0 = l.3 in
    absurd (omega arith)

pub each-preserved : goal.each-preserved
each-preserved c = (
  omega arith,
  λ es fits h.
      let l = c.each.invariant.1 es fits h in
      let e : Entry = record { key = c.in-Some.field-0-0.now; word = c.in-Some.field-0-1 } in
      let left : Left l.0 e c.in-Some.after.now =
      some_left _ l.0 e _ l.1 l.2 c.each-test.true c.in-Some.ensures.tells in
      let n = some_long l.0 e left.more left.are in
      let m : length es ≡ c.each.count + length l.0 = l.3 in
      (left.more, left.fit, left.spelled, omega arith),
)

pub returns : goal.returns
returns c es fits h few =
    let l = c.each.invariant.1 es fits h in
    let z : length l.0 ≡ 0 = ap length (none_more _ l.0 l.2 c.each-test.false) in
    let m : length es ≡ c.each.count + length l.0 = l.3 in
    ap Some (omega arith)
