use Rattle.std.proofs.Common.{◌≡◌, ◌-◌, suc, Option, Some, None, ◌∙◌, arith}
use Rattle.type_schema.specs.declared.objects.Half.{Half}
use Rattle.half_edge_lists.proofs.Decoding.{HalfStep, half_step, halfway_on, halfway_full, halfway_all}
use Rattle.half_edge_lists.proofs.Halves.{halves_fit}
use Rattle.object_view.proofs.Layouts.{none_left}
use Rattle.half_edge_lists.proofs.walking.halves_in.Goals as goal
use Rattle.half_edge_lists.proofs.walking.halves_in.Goals.{then-each-test+else-rest-gt0, else-each-test}

pub returns-in_default : goal.returns-in_default
returns-in_default c halves fit body =
    let w = c.each.invariant halves fit body in
    none_left _ _ (halves_fit w.more w.fit) w.spelled c.if-rest-gt0.true c.in_default.ensures.tells

pub returns-in_default-half_of : goal.returns-in_default-half_of
returns-in_default-half_of c halves fit body =
    let w = c.each.invariant halves fit body in
    let s : HalfStep w.more c.in-Some.key.now c.in-Some.word c.in-Some.after.now =
    half_step _ w.more _ _ _ w.fit w.spelled c.if-rest-gt0.true c.in-Some.ensures.tells in
    let n : ◌≡◌ {A = Option Half} None (Some s.here) = c.in_default-half_of.ensures ∙ s.read in
    cc

pub each-preserved : goal.each-preserved
each-preserved c halves fit body =
    let some = c.each-test.true in
    let one : c.each.left ≡ suc (c.each.left - 1) = omega arith in
    halfway_on halves c.args.limit c.each.out.items c.each.rest.now c.each.left c.in-Some.key.now c.in-Some.word
    c.in-Some.after.now c.in-Some-half_of.half c.push_half.new.out.items (c.each.left - 1)
    (c.each.invariant halves fit body) one c.if-rest-gt0.true c.in-Some.ensures.tells c.in-Some-half_of.ensures
    c.in_ok-push_half.ensures

pub returns : goal.returns
returns c halves fit body =
    let w = c.each.invariant halves fit body in
    elim c.each-test.branch [
      | then-each-test+else-rest-gt0 b ↦ let z = b.if-rest-gt0.false in
          halfway_all halves c.args.limit c.each.out.items c.each.rest.now c.each.left w (omega arith)
      | else-each-test b ↦ let z = b.each-test.false in
          halfway_full halves c.args.limit c.each.out.items c.each.rest.now c.each.left w (omega arith)
    ]
