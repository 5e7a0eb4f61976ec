use Rattle.std.proofs.Common.{ℕ, Option, subst, Some, None, sym, ◌∙◌}
use Rattle.object_view.specs.Layout.{Entry}
use Rattle.object_btree.specs.Steps.{Passed}
use Rattle.object_view.proofs.Layouts.{none_left}
use Rattle.object_btree.proofs.Routes.{pass_start, pass_on, none_high, none_end, routed_high, routed_end}
use Rattle.object_btree.proofs.scan.route_in.Goals as goal

pub each-init : goal.each-init
each-init c es fits h = pass_start c.args.key.now es c.args.bytes.now fits h

pub each-preserved : goal.each-preserved
each-preserved c es fits h =
    let e : Entry = record { key = c.in-Some.other.now; word = c.in-Some.word } in
    pass_on _ es _ _ _ e _ (c.each.invariant es fits h) c.each-test.true c.in-Some.ensures.tells
    (λ p. c.in_default.not-Greater (c.cmp.ensures ∙ p))

pub returns-in-None : goal.returns-in-None
returns-in-None c es fits h b = let s = c.each.invariant es fits h in
    none_left _ s.left s.fits s.rest_is c.each-test.true c.in-None.ensures.tells

pub returns-in-None-found : goal.returns-in-None-found
returns-in-None-found c es fits h b =
    let e : Entry = record { key = c.in-Some.other.now; word = c.in-Some.word } in
    let s : Passed c.args.key.now es c.args.bytes.now c.each.rest.now None =
    subst (λ (f : Option ℕ). Passed c.args.key.now es c.args.bytes.now c.each.rest.now f) c.in-None-found.is
    (c.each.invariant es fits h) in
    none_high _ es _ _ e _ s b c.each-test.true c.in-Some.ensures.tells (sym c.in-Greater.ensures)

pub returns-in-Some-found : goal.returns-in-Some-found
returns-in-Some-found c es fits h b =
    let e : Entry = record { key = c.in-Some.other.now; word = c.in-Some.word } in
    let s : Passed c.args.key.now es c.args.bytes.now c.each.rest.now (Some c.in-Some-found.word) =
    subst (λ (f : Option ℕ). Passed c.args.key.now es c.args.bytes.now c.each.rest.now f) c.in-Some-found.is
    (c.each.invariant es fits h) in
    routed_high _ es _ _ _ _ e _ s c.each-test.true c.in-Some.ensures.tells (sym c.in-Greater.ensures)
    c.front_of.ensures

pub returns-in-None-found-2 : goal.returns-in-None-found-2
returns-in-None-found-2 c es fits h b =
    let s : Passed c.args.key.now es c.args.bytes.now c.each.rest.now None =
    subst (λ (f : Option ℕ). Passed c.args.key.now es c.args.bytes.now c.each.rest.now f) c.in-None-found-2.is
    (c.each.invariant es fits h) in
    none_end _ es _ _ s b c.each-test.false

pub returns-in-Some-found-2 : goal.returns-in-Some-found-2
returns-in-Some-found-2 c es fits h b =
    let s : Passed c.args.key.now es c.args.bytes.now c.each.rest.now (Some c.in-Some-found-2.word) =
    subst (λ (f : Option ℕ). Passed c.args.key.now es c.args.bytes.now c.each.rest.now f) c.in-Some-found-2.is
    (c.each.invariant es fits h) in
    routed_end _ es _ _ _ _ s c.each-test.false c.front_of-in-Some-found-2.ensures
