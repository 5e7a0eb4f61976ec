use Rattle.std.proofs.Common.{List, sym, ap, ◌∙◌, arith}
use Rattle.object_view.specs.Layout.{Entry}
use Rattle.object_btree.specs.Intervals.{between, gathered, Pair}
use Rattle.object_view.proofs.Layouts.{none_left, none_more}
use Rattle.object_btree.proofs.Intervals.{less_of, less_no, gather_full, gather_one, between_skip, between_take}
use Rattle.object_btree.proofs.RangeSteps.{leaf_step, LeafStep, tells_to}
use Rattle.object_btree.proofs.interval.+pairs_in.Goals as goal

pub returns-then-body-eq0 : goal.returns-then-body-eq0
returns-then-body-eq0 t c es lo hi fits h w =
    let z = c.if-body-eq0.true in
    sym (ap (λ (x : List Entry). gathered c.args.limit c.args.out.items (between c.args.from.now c.args.to.now x))
    (none_more c.args.body.now es h (omega (arith, z))))

pub returns-then-len-limit : goal.returns-then-len-limit
returns-then-len-limit t c es lo hi fits h w =
    let l = c.if-len-limit.true in
    sym (gather_full c.args.limit c.args.out.items (between c.args.from.now c.args.to.now es)
    (omega (arith, l, c.len.ensures, c.args.out.ok)))

pub returns-then-not-is_below : goal.returns-then-not-is_below
returns-then-not-is_below t c es lo hi fits h w =
    let ne = c.if-body-eq0.false in
    let e : Entry = record { key = c.in-Some.key.now; word = c.in-Some.word } in
    let l : LeafStep c.args.from.now c.args.to.now es (record { key = c.in-Some.key.now; word = c.in-Some.word })
    c.in-Some.rest.now hi = leaf_step _ _ es lo hi c.args.body.now _ _ fits h w (omega (arith, ne))
    c.in-Some.ensures.tells in
    sym (ap (gathered c.args.limit c.args.out.items) (l.high (sym c.is_below.ensures ∙ c.if-not-is_below.true)))

pub returns-then-is_below : goal.returns-then-is_below
returns-then-is_below t c es lo hi fits h w =
    let ne = c.if-body-eq0.false in
    let l : LeafStep c.args.from.now c.args.to.now es (record { key = c.in-Some.key.now; word = c.in-Some.word })
    c.in-Some.rest.now hi = leaf_step _ _ es lo hi c.args.body.now _ _ fits h w (omega (arith, ne))
    c.in-Some.ensures.tells in
    let s = between_skip c.args.from.now c.args.to.now (record { key = c.in-Some.key.now; word = c.in-Some.word })
    l.more (less_of _ (sym c.is_below-2.ensures ∙ c.if-is_below.true)) in
    tells_to _ c.pairs_in.result _ _ _
    (ap (gathered c.args.limit c.args.out.items) (sym s ∙ ap (between c.args.from.now c.args.to.now) (sym l.are)))
    (c.pairs_in.ensures l.more l.mid hi l.fit l.spelled l.ways)

pub returns-in_default : goal.returns-in_default
returns-in_default t c es lo hi fits h w =
    let ne = c.if-body-eq0.false in
    none_left c.args.body.now es fits h (omega (arith, ne)) c.in_default.ensures.tells

pub returns : goal.returns
returns t c es lo hi fits h w =
    let ne = c.if-body-eq0.false in
    let lt = c.if-len-limit.false in
    let l : LeafStep c.args.from.now c.args.to.now es (record { key = c.in-Some.key.now; word = c.in-Some.word })
    c.in-Some.rest.now hi = leaf_step _ _ es lo hi c.args.body.now _ _ fits h w (omega (arith, ne))
    c.in-Some.ensures.tells in
    let s = between_take c.args.from.now c.args.to.now (record { key = c.in-Some.key.now; word = c.in-Some.word })
    l.more (less_no _ (sym c.is_below-2.ensures ∙ c.if-is_below.false))
    (less_of _ (sym c.is_below.ensures ∙ c.if-not-is_below.false)) in
    let one = gather_one c.args.limit c.args.out.items (c.in-Some.key.now, c.in-Some.word)
    (between c.args.from.now c.args.to.now l.more) (omega (arith, lt, c.len.ensures, c.args.out.ok)) in
    tells_to _ c.pairs_in-2.result _ _ _
    (ap (λ (o : List Pair). gathered c.args.limit o (between c.args.from.now c.args.to.now l.more))
    c.in_ok-out.ensures ∙ one
    ∙ ap (gathered c.args.limit c.args.out.items) (sym s ∙ ap (between c.args.from.now c.args.to.now) (sym l.are)))
    (c.pairs_in-2.ensures l.more l.mid hi l.fit l.spelled l.ways)
