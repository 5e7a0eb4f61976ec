use Rattle.std.proofs.Common.{◌≡◌, ◌≤◌, ℕ, List, length, refl, sym, subst, ◌∙◌, arith}
use Rattle.std.specs.Prelude.{map}
use Rattle.a1_base.specs.declared.place.Addr.{Addr}
use Rattle.object_view.specs.Agreement.{stood}
use Rattle.object_view.specs.Keys.{lookup}
use Rattle.object_view.proofs.Views.{some_not_none}
use Rattle.object_btree.specs.Steps.{Place}
use Rattle.type_schema.specs.Objects.{half_entry}
use Rattle.type_schema.specs.Structures.{ListBecomes, with_half}
use Rattle.half_edge_lists.proofs.Adding.{PutHalf, with_formed, half_some, half_none, add_from, put_half}
use Rattle.half_edge_lists.proofs.Halves.{halves_fit}
use Rattle.half_edge_lists.proofs.growing.add_short.Goals as goal

pub returns-in_default-clause-tells : goal.returns-in_default-clause-tells
returns-in_default-clause-tells g c heap halves places ag f short body =
    c.in_default.ensures (map half_entry halves) (halves_fit halves f.fit) body

pub returns-then-is_some-clause-tells : goal.returns-then-is_some-clause-tells
returns-then-is_some-clause-tells g c heap halves places ag f short body =
    let p : Place c.args.key.now (map half_entry halves) c.in-Some.front.now c.in-Some.back.now c.in-Some.found =
    c.in-Some.ensures (map half_entry halves) (halves_fit halves f.fit) body in (
      half_some c.args.h.kind c.args.h.far halves c.in-Some.found
          (subst (λ (k : List ℕ). c.in-Some.found ≡ lookup k (map half_entry halves)) c.requires.key p.old)
          (sym c.if-is_some.ensures),
      refl,
    )

pub returns-in_err-put_short-clause-tells : goal.returns-in_err-put_short-clause-tells
returns-in_err-put_short-clause-tells g c heap halves places ag f short body =
    let h = c.args.h in
    let p : PutHalf h halves c.in_ok-more.more.items = put_half h halves c.args.key.now _ _ _ _ c.in-Some.found c.requires.key
    c.body_word.ensures.word
    (c.in-Some.ensures (map half_entry halves) (halves_fit halves f.fit) body) (sym c.is_some.ensures ∙ c.if-is_some.false)
    c.in_ok-more.ensures in
    let few : length halves ≤ 1000 = short.few in
    let more = p.more in
    add_from _ _ _ _ _ halves places h c.from_residual-in_err-put_short.result _ _
    c.from_residual-in_err-put_short.ensures.1
    (c.in_err-put_short.ensures.tells heap (with_half h halves) ag
    (with_formed _ c.args.at c.args.owner h halves f c.body_word.ensures.fits) (some_not_none _ _ short.bytes)
    (omega (arith, few, more)) (c.as_slice.ensures.value ∙ p.spelled))

pub returns-clause-tells : goal.returns-clause-tells
returns-clause-tells g c heap halves places ag f short body =
    let h = c.args.h in
    let p : PutHalf h halves c.in_ok-more.more.items = put_half h halves c.args.key.now _ _ _ _ c.in-Some.found c.requires.key
    c.body_word.ensures.word
    (c.in-Some.ensures (map half_entry halves) (halves_fit halves f.fit) body) (sym c.is_some.ensures ∙ c.if-is_some.false)
    c.in_ok-more.ensures in
    let few : length halves ≤ 1000 = short.few in
    let more = p.more in (
      half_none h.kind h.far halves p.fresh,
      subst (λ (x : List Addr). ListBecomes (g.V.View.count c.args.view.now) (stood heap (g.V.View.overlay c.args.view.now))
          (stood heap (g.V.View.overlay c.put_short.new.view)) c.args.at c.args.owner x (with_half h halves))
          (sym short.places_are)
          (c.in_ok-put_short.ensures.tells heap (with_half h halves) ag
          (with_formed _ c.args.at c.args.owner h halves f c.body_word.ensures.fits) (some_not_none _ _ short.bytes)
          (omega (arith, few, more)) (c.as_slice.ensures.value ∙ p.spelled)),
    )
