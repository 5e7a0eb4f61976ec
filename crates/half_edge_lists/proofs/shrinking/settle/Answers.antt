use Rattle.std.proofs.Common.{◌<◌, ◌^◌, ℕ, ap, subst, ◌∙◌, arith}
use Rattle.a1_base.specs.declared.place.Addr.{Addr}
use Rattle.object_view.specs.Agreement.{stood, State}
use Rattle.type_schema.specs.Objects.{long_bytes}
use Rattle.half_edge_lists.proofs.Becoming.{long_tells, moves_same}
use Rattle.half_edge_lists.proofs.shrinking.settle.Goals as goal

pub returns-then-count-clause-tells : goal.returns-then-count-clause-tells
returns-then-count-clause-tells g c h halves places ag f there apart tree fits near count =
    let few = c.if-count.true in
    c.turn.ensures.tells h halves places ag f there apart tree (omega (arith, few, count))

pub returns-clause-tells : goal.returns-clause-tells
returns-clause-tells g c h halves places ag f there apart tree fits near count =
    let s : State = stood h (g.V.View.overlay c.args.view.now) in
    let t : State = stood h (g.V.View.overlay c.rewrite.new.view) in
    let anchor : Addr = c.args.tree.anchor in
    let many = c.if-count.false in
    long_tells (g.V.View.count c.args.view.now) s s t c.args.at c.args.owner anchor halves places c.rewrite.result _ there
    apart f (omega (arith, many, count)) (subst (λ (n : ℕ). n < 2 ^ 64) count c.ranges.count.fits) fits near
    (record { now = places; tree = tree; moves = moves_same s places })
    (c.as_slice.ensures ∙ c.in_ok-bytes.ensures ∙ ap (λ (n : ℕ). long_bytes c.args.owner n anchor) count)
    (c.rewrite.ensures.tells h ag c.requires.served)
