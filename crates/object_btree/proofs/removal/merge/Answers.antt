use Rattle.std.proofs.Common.{◌≡◌, List, length, Some, ℕ, sym, ap, ◌∙◌, arith}
use Rattle.std.proofs.lemmas.Bool.{ltb-false}
use Rattle.object_view.specs.Agreement.{stood, State}
use Rattle.object_view.specs.Layout.{object_bytes}
use Rattle.object_view.proofs.Layouts.{some_is}
use Rattle.object_view.proofs.Moving.{onward_then}
use Rattle.object_view.proofs.Views.{stands_later, tells_from, here_now, beside}
use Rattle.object_btree.proofs.Packs.{small}
use Rattle.object_btree.proofs.removal.merge.Goals as goal

pub put_node-requires-2-clause-stands : goal.put_node-requires-2-clause-stands
put_node-requires-2-clause-stands g c =
    stands_later _ _ _ _ c.args.at c.requires.stands c.in_ok-put_node.ensures.onward.agreed
    c.in_ok-put_node.ensures.lasts

pub take-requires-clause-stands : goal.take-requires-clause-stands
take-requires-clause-stands g c =
    stands_later _ _ _ _ c.args.b
    (stands_later _ _ _ _ c.args.b c.requires.right_stands c.in_ok-put_node.ensures.onward.agreed
    c.in_ok-put_node.ensures.lasts)
    c.in_ok-put_node-2.ensures.onward.agreed c.in_ok-put_node-2.ensures.lasts

pub returns-in_err-put_node-clause-tells : goal.returns-in_err-put_node-clause-tells
returns-in_err-put_node-clause-tells g c h es xs ag fe ea fewe fx eb fewx nab na nb =
    tells_from c.from_residual.result _ _ _ c.from_residual.ensures.1
    (c.in_err-put_node.ensures.tells (small xs c.args.both.now fx eb fewx))

pub returns-in_err-put_node-2-clause-tells : goal.returns-in_err-put_node-2-clause-tells
returns-in_err-put_node-2-clause-tells g c h es xs ag fe ea fewe fx eb fewx nab na nb =
    tells_from c.from_residual-in_err-put_node-2.result _ _ _ c.from_residual-in_err-put_node-2.ensures.1
    (c.in_err-put_node-2.ensures.tells (small es c.args.above.now fe ea fewe))

pub returns-in_err-put_node-2-clause-onward : goal.returns-in_err-put_node-2-clause-onward
returns-in_err-put_node-2-clause-onward g c =
    onward_then _ _ _ _ _ _ _ _ c.in_ok-put_node.ensures.onward c.in_err-put_node-2.ensures.onward

pub returns-in_err-take-clause-onward : goal.returns-in_err-take-clause-onward
returns-in_err-take-clause-onward g c =
    onward_then _ _ _ _ _ _ _ _
    (onward_then _ _ _ _ _ _ _ _ c.in_ok-put_node.ensures.onward c.in_ok-put_node-2.ensures.onward)
    c.in_err-take.ensures.onward

pub returns-clause-onward : goal.returns-clause-onward
returns-clause-onward g c =
    onward_then _ _ _ _ _ _ _ _
    (onward_then _ _ _ _ _ _ _ _ c.in_ok-put_node.ensures.onward c.in_ok-put_node-2.ensures.onward)
    c.in_ok-take.ensures.onward

pub returns-clause-tells : goal.returns-clause-tells
returns-clause-tells g c h es xs ag fe ea fewe fx eb fewx nab na nb =
    let n : c.in-Some.count ≡ length es = some_is _ _ (c.in-Some.ensures es fe ea (omega (arith, fewe))) in
    let s : State = stood h (g.V.View.overlay c.args.view.now) in
    let u : State = stood h (g.V.View.overlay c.put_node.new.view) in
    let v : State = stood h (g.V.View.overlay c.put_node-2.new.view) in
    let t : State = stood h (g.V.View.overlay c.take.new.view) in
    let put = c.in_ok-put_node.ensures.tells (small xs c.args.both.now fx eb fewx) h in
    let up = c.in_ok-put_node-2.ensures.tells (small es c.args.above.now fe ea fewe) h in
    let gone = c.in_ok-take.ensures.ok h in
    record {
      left_at = beside v t c.args.b _ gone c.args.a nab ∙ beside u v c.args.at _ up c.args.a na ∙
          here_now s u c.args.a _ put ∙ ap (λ (x : List ℕ). Some (object_bytes 3 c.args.owner x)) eb;
      right_at = here_now v t c.args.b _ gone;
      above_at = beside v t c.args.b _ gone c.args.at (λ q. nb (sym q)) ∙ here_now u v c.args.at _ up ∙
          ap (λ (x : List ℕ). Some (object_bytes 3 c.args.owner x)) ea;
      frame = λ x m1 m2 m3. beside v t c.args.b _ gone x m3 ∙ beside u v c.args.at _ up x m1 ∙
          beside s u c.args.a _ put x m2;
      firm = λ thin. let low = ltb-false c.in-Some.count 16 thin in omega (arith, n, low);
    }
