use Rattle.std.proofs.Common.{◌≡◌, ℕ, List, Some, [], ◌∷◌, sym, ap, ◌∙◌, arith}
use Rattle.std.specs.List.{AllByRecursion}
use Rattle.object_view.specs.Agreement.{stood, State}
use Rattle.object_view.specs.Layout.{Entry, IsEntry, entries, addr_of, object_bytes}
use Rattle.object_view.specs.Trees.{is_on}
use Rattle.object_view.proofs.Moving.{onward_then}
use Rattle.object_view.proofs.Views.{stands_later, stored_result, here_now, beside, some_none, place_on}
use Rattle.object_btree.proofs.Packs.{small, home_again}
use Rattle.object_btree.proofs.insertion.new_root.Goals as goal

pub store-requires-clause-stands : goal.store-requires-clause-stands
store-requires-clause-stands g c =
    stands_later _ _ _ _ c.args.anchor c.requires.stands c.in_ok-to.ensures.onward.agreed c.in_ok-to.ensures.lasts

pub returns-clause-tells : goal.returns-clause-tells
returns-clause-tells g c h ag short =
    let root : Entry = record { key = []; word = c.args.root } in
    let half : Entry = record { key = c.args.split.now.key; word = c.args.split.now.word } in
    let s : State = stood h (g.V.View.overlay c.args.view.now) in
    let u : State = stood h (g.V.View.overlay c.make_node.new.view) in
    let fits : AllByRecursion IsEntry (root ∷ half ∷ []) =
    (record { key = omega arith; word = omega arith }, (record { key = short; word = omega arith }, tt)) in
    let b : c.as_slice.result.now ≡ entries (root ∷ half ∷ []) = c.as_slice.ensures.value ∙ c.in_ok-body.ensures ∙
    ap (λ (k : List ℕ). entries (root ∷ record { key = k; word = c.args.split.now.word } ∷ []))
    c.as_slice-key.ensures in
    let mid = c.store.ensures.onward.agreed h ag in
    let made = c.in_ok-to.ensures.tells (small (root ∷ half ∷ []) c.as_slice.result.now fits b (omega arith)) h in
    let w : addr_of c.word_of.result ≡ c.in_ok-to.to =
    home_again c.in_ok-to.to c.word_of.result c.word_of.ensures c.in_ok-to.ensures.place.offset in
    let fresh = c.in_ok-to.ensures.fresh h mid in
    let other : c.in_ok-to.to ≡ c.args.anchor → ⊥ = λ e.
    some_none _ (c.requires.stands h (c.in_ok-to.ensures.onward.agreed h mid)) (ap s (sym e) ∙ fresh) in
    stored_result c.store.result _ _ c.store.ensures.fault c.store.ensures.ok (λ put. record {
      at = c.word_of.result;
      fits = c.word_of.type_inv;
      reached = ap (is_on (g.V.View.count c.args.view.now) c.args.site.node) w ∙
          place_on _ _ c.in_ok-to.to c.in_ok-to.ensures.place.home;
      fresh = ap s w ∙ fresh;
      node = ap (stood h (g.V.View.overlay c.store.new.view)) w ∙
          beside _ _ c.args.anchor _ (put h) c.in_ok-to.to other ∙ here_now _ _ c.in_ok-to.to _ made ∙
          ap (λ (x : List ℕ). Some (object_bytes 3 c.args.site.owner x)) b ∙
          ap (λ (o : ℕ). Some (object_bytes 3 o (entries (root ∷ half ∷ [])))) c.requires.owner;
      bytes = here_now _ _ c.args.anchor _ (put h) ∙ ap Some (c.as_slice-2.ensures.value ∙ c.in_ok-bytes.ensures);
      frame = λ a n m. beside _ _ c.args.anchor _ (put h) a n ∙ beside _ _ c.in_ok-to.to _ made a (λ e. m (e ∙ sym w));
    })

pub returns-clause-onward : goal.returns-clause-onward
returns-clause-onward g c = onward_then _ _ _ _ _ _ _ _ c.in_ok-to.ensures.onward c.store.ensures.onward
