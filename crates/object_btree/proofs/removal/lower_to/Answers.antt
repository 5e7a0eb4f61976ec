use Rattle.std.proofs.Common.{Some, sym, ap, ◌∙◌}
use Rattle.object_view.specs.Agreement.{State, stood}
use Rattle.object_view.proofs.Moving.{onward_then}
use Rattle.object_view.proofs.Views.{stands_later, store_lasts, stored_result, here_now, beside}
use Rattle.object_btree.proofs.removal.lower_to.Goals as goal

pub take-requires-clause-stands : goal.take-requires-clause-stands
take-requires-clause-stands g c =
    stands_later _ _ _ _ c.args.root c.requires.root_stands c.in_ok-store.ensures.onward.agreed
    (store_lasts _ _ _ c.args.anchor _ c.in_ok-store.ensures.ok)

pub returns-clause-tells : goal.returns-clause-tells
returns-clause-tells g c h ag other =
    let u : State = stood h (g.V.View.overlay c.args.view.now) in
    let v : State = stood h (g.V.View.overlay c.store.new.view) in
    let t : State = stood h (g.V.View.overlay c.take.new.view) in
    let put = c.in_ok-store.ensures.ok h in
    stored_result c.take.result _ _ c.take.ensures.fault c.take.ensures.ok (λ gone. record {
      bytes = beside v t c.args.root _ (gone h) c.args.anchor (λ q. other (sym q)) ∙ here_now u v c.args.anchor _ put ∙
          ap Some (c.as_slice.ensures.value ∙ c.in_ok-bytes.ensures);
      gone = here_now v t c.args.root _ (gone h);
      frame = λ a n m. beside v t c.args.root _ (gone h) a m ∙ beside u v c.args.anchor _ put a n;
    })

pub returns-clause-onward : goal.returns-clause-onward
returns-clause-onward g c = onward_then _ _ _ _ _ _ _ _ c.in_ok-store.ensures.onward c.take.ensures.onward
