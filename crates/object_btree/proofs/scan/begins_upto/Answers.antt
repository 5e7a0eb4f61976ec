use Rattle.std.proofs.Common.{List, sym, subst, ◌∙◌, arith}
use Rattle.object_view.specs.Layout.{Entry}
use Rattle.object_btree.specs.Levels.{Ahead}
use Rattle.object_btree.specs.Steps.{Begins}
use Rattle.object_view.proofs.Layouts.{some_left, none_left, none_more}
use Rattle.object_btree.proofs.Intervals.{no_less, not_true, not_false, less_of}
use Rattle.object_btree.proofs.scan.begins_upto.Goals as goal

pub returns-then-body-eq0-clause-ahead : goal.returns-then-body-eq0-clause-ahead
returns-then-body-eq0-clause-ahead c es fits h at =
    let z = c.if-body-eq0.true in
    subst (λ (x : List Entry). Ahead c.args.key.now x) (sym (none_more c.args.body.now es h (omega (arith, z)))) tt

pub returns-in-None-clause-ahead : goal.returns-in-None-clause-ahead
returns-in-None-clause-ahead c es fits h at =
    let ne = c.if-body-eq0.false in
    absurd (none_left c.args.body.now es fits h (omega (arith, ne)) c.in-None.ensures.tells)

pub returns-in-Some-clause-begins : goal.returns-in-Some-clause-begins
returns-in-Some-clause-begins c es fits h at =
    let ne = c.if-body-eq0.false in
    let l = some_left c.args.body.now es _ _ fits h (omega (arith, ne)) c.in-Some.ensures.tells in
    let f = sym c.is_below.ensures ∙ not_true c.is_below.result at in
    subst (λ (x : List Entry). Begins c.args.key.now x) (sym l.are) (no_less c.args.key.now c.in-Some.other.now f)

pub returns-in-Some-clause-ahead : goal.returns-in-Some-clause-ahead
returns-in-Some-clause-ahead c es fits h at =
    let ne = c.if-body-eq0.false in
    let l = some_left c.args.body.now es _ _ fits h (omega (arith, ne)) c.in-Some.ensures.tells in
    subst (λ (x : List Entry). Ahead c.args.key.now x) (sym l.are)
    (less_of _ (sym c.is_below.ensures ∙ not_false c.is_below.result at))
