use Rattle.std.proofs.Common.{◌≤◌, ◌++◌, ℕ, List, length, refl, sym, ap, subst, ◌∙◌, arith}
use Rattle.std.specs.Prelude.{map}
use Rattle.a1_base.specs.declared.place.Addr.{Addr}
use Rattle.object_view.specs.Agreement.{stood, State}
use Rattle.object_view.proofs.Views.{some_not_none, tells_from}
use Rattle.type_schema.specs.Objects.{half_entry}
use Rattle.type_schema.specs.Structures.{ListBecomes, without_half}
use Rattle.half_edge_lists.proofs.Adding.{not_some}
use Rattle.half_edge_lists.proofs.Halves.{halves_fit}
use Rattle.half_edge_lists.proofs.Removing.{LessHalf, without_formed, short_stays, less_half, less_length}
use Rattle.half_edge_lists.proofs.shrinking.remove_short.Goals as goal

pub returns-in_default-clause-tells : goal.returns-in_default-clause-tells
returns-in_default-clause-tells g c heap kind far halves places ag f short body key =
    c.in_default.ensures (map half_entry halves) (halves_fit halves f.fit) body

pub returns-then-is_none-clause-tells : goal.returns-then-is_none-clause-tells
returns-then-is_none-clause-tells g c heap kind far halves places ag f short body key =
    let p : LessHalf kind far halves (c.in-Some.front.now ++ c.in-Some.back.now) c.in-Some.found =
    less_half kind far halves c.args.key.now c.in-Some.front.now c.in-Some.back.now
    (c.in-Some.front.now ++ c.in-Some.back.now) c.in-Some.found key
    (c.in-Some.ensures (map half_entry halves) (halves_fit halves f.fit) body) refl in
    short_stays (g.V.View.count c.args.view.now) (stood heap (g.V.View.overlay c.args.view.now)) c.args.at c.args.owner
    kind far halves places f short (sym p.old ∙ not_some c.in-Some.found c.if-is_none.ensures)

pub returns-in_err-put_entries-clause-tells : goal.returns-in_err-put_entries-clause-tells
returns-in_err-put_entries-clause-tells g c heap kind far halves places ag f short body key =
    let nodes : ℕ = g.V.View.count c.args.view.now in
    let s : State = stood heap (g.V.View.overlay c.args.view.now) in
    let p : LessHalf kind far halves c.as_slice.result.now c.in-Some.found =
    less_half kind far halves c.args.key.now c.in-Some.front.now c.in-Some.back.now c.as_slice.result.now c.in-Some.found key
    (c.in-Some.ensures (map half_entry halves) (halves_fit halves f.fit) body)
    (c.as_slice.ensures ∙ c.in_ok-append-2.ensures.ok ∙ ap (λ (x : List ℕ). x ++ c.in-Some.back.now)
    (c.in_ok-append.ensures.ok ∙ ap (λ (x : List ℕ). x ++ c.in-Some.front.now) c.in_ok-less.ensures)) in
    let few : length halves ≤ 1000 = short.few in
    let less = less_length kind far halves c.in-Some.found p.old c.if-is_none.ensures in
    tells_from c.from_residual-in_err-put_entries.result _ _ _ c.from_residual-in_err-put_entries.ensures.1
    (c.in_err-put_entries.ensures.tells heap (without_half kind far halves) ag
    (without_formed nodes c.args.at c.args.owner kind far halves f) (some_not_none _ _ short.bytes)
    (omega (arith, few, less)) p.spelled)

pub returns-clause-tells : goal.returns-clause-tells
returns-clause-tells g c heap kind far halves places ag f short body key =
    let nodes : ℕ = g.V.View.count c.args.view.now in
    let s : State = stood heap (g.V.View.overlay c.args.view.now) in
    let p : LessHalf kind far halves c.as_slice.result.now c.in-Some.found =
    less_half kind far halves c.args.key.now c.in-Some.front.now c.in-Some.back.now c.as_slice.result.now c.in-Some.found key
    (c.in-Some.ensures (map half_entry halves) (halves_fit halves f.fit) body)
    (c.as_slice.ensures ∙ c.in_ok-append-2.ensures.ok ∙ ap (λ (x : List ℕ). x ++ c.in-Some.back.now)
    (c.in_ok-append.ensures.ok ∙ ap (λ (x : List ℕ). x ++ c.in-Some.front.now) c.in_ok-less.ensures)) in
    let few : length halves ≤ 1000 = short.few in
    let less = less_length kind far halves c.in-Some.found p.old c.if-is_none.ensures in
    let t : State = stood heap (g.V.View.overlay c.put_entries.new.view) in
    record {
      old_is = p.old;
      becomes = subst (λ (x : List Addr). ListBecomes nodes s t c.args.at c.args.owner x (without_half kind far halves))
          (sym short.places_are) (c.in_ok-put_entries.ensures.tells heap (without_half kind far halves) ag
          (without_formed nodes c.args.at c.args.owner kind far halves f) (some_not_none _ _ short.bytes)
          (omega (arith, few, less)) p.spelled);
    }
