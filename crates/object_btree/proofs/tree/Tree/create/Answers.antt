use Rattle.std.proofs.Common.{◌≡◌, inl, inr, ◌%◌, ◌<◌, ◌^◌, ℕ, Some, [], refl, sym, ap, subst, ◌∙◌, arith}
use Rattle.a1_base.specs.declared.place.Addr.{Addr}
use Rattle.object_view.specs.Agreement.{stood, State}
use Rattle.object_view.specs.Layout.{addr_of, anchor_bytes, object_bytes}
use Rattle.object_view.proofs.Moving.{onward_then}
use Rattle.object_view.proofs.Views.{some_not_none, none_some, here_now, beside, place_on}
use Rattle.object_btree.proofs.Anchors.{tree_created}
use Rattle.object_btree.proofs.Packs.{home_again}
use Rattle.object_btree.proofs.tree.Tree.create.Goals as goal

pub returns-in_err-root-clause-onward : goal.returns-in_err-root-clause-onward
returns-in_err-root-clause-onward g c =
    onward_then _ _ _ _ _ _ _ _ c.in_ok-anchor.ensures.onward c.in_err-root.ensures.onward

pub returns-in_err-bytes-clause-onward : goal.returns-in_err-bytes-clause-onward
returns-in_err-bytes-clause-onward g c =
    onward_then _ _ _ _ _ _ _ _ c.in_ok-anchor.ensures.onward c.in_ok-root.ensures.onward

pub returns-in_err-store-clause-onward : goal.returns-in_err-store-clause-onward
returns-in_err-store-clause-onward g c =
    onward_then _ _ _ _ _ _ _ _
    (onward_then _ _ _ _ _ _ _ _ c.in_ok-anchor.ensures.onward c.in_ok-root.ensures.onward)
    c.in_err-store.ensures.onward

pub returns-clause-onward : goal.returns-clause-onward
returns-clause-onward g c =
    onward_then _ _ _ _ _ _ _ _
    (onward_then _ _ _ _ _ _ _ _ c.in_ok-anchor.ensures.onward c.in_ok-root.ensures.onward)
    c.in_ok-store.ensures.onward

pub store-requires-clause-stands : goal.store-requires-clause-stands
store-requires-clause-stands g c h ag =
    none_some _ (λ none. some_not_none _ _ (here_now _ _ c.in_ok-anchor.anchor _ (c.in_ok-anchor.ensures.ok h))
    (c.in_ok-root.ensures.lasts h ag c.in_ok-anchor.anchor none))

pub returns-clause-tells : goal.returns-clause-tells
returns-clause-tells g c h ag =
    let s : State = stood h (g.V.View.overlay c.args.view.now) in
    let u : State = stood h (g.V.View.overlay c.make.new.view) in
    let t : State = stood h (g.V.View.overlay c.store.new.view) in
    let two = c.in_ok-store.ensures.onward.agreed h ag in
    let one = c.in_ok-root.ensures.onward.agreed h two in
    let first = c.in_ok-anchor.ensures.ok h in
    let made = c.in_ok-root.ensures.tells (omega arith) h in
    let put = c.in_ok-store.ensures.ok h in
    let fresh = c.in_ok-root.ensures.fresh h two in
    let other : c.in_ok-root.root ≡ c.in_ok-anchor.anchor → ⊥ = λ e.
    some_not_none _ _ (here_now _ _ c.in_ok-anchor.anchor _ first) (ap u (sym e) ∙ fresh) in
    let w : addr_of c.word_of-2.result ≡ c.in_ok-root.root =
    home_again c.in_ok-root.root c.word_of-2.result c.word_of-2.ensures c.in_ok-root.ensures.place.offset in
    let home : c.in_ok-root.root.region % g.V.View.count c.args.view.now ≡
    c.in_ok-anchor.anchor.region % g.V.View.count c.args.view.now =
    ap (λ (n : ℕ). c.in_ok-root.root.region % n) (sym c.in_ok-anchor.ensures.onward.steady.count) ∙
    c.in_ok-root.ensures.place.home ∙ sym c.in_ok-anchor.ensures.place.home in
    tree_created (g.V.View.count c.args.view.now) s t c.in_ok-anchor.anchor c.args.owner (record {
      word = c.word_of-2.result;
      tree = record {
        owner_fits = subst (λ (x : ℕ). x < 2 ^ 64) c.word_of-owner.ensures c.word_of-owner.type_inv;
        root_fits = c.word_of-2.type_inv;
        low = omega arith;
        reached = place_on _ _ c.in_ok-anchor.anchor refl;
        bytes = here_now _ _ c.in_ok-anchor.anchor _ put
            ∙ ap Some (c.as_slice-2.ensures.value ∙ c.in_ok-bytes.ensures) ∙
            ap (λ (x : ℕ). Some (anchor_bytes x c.word_of-2.result 0)) c.word_of-owner.ensures;
        sub = record {
          spans = (refl, tt);
          node = record {
            reached = place_on _ _ (addr_of c.word_of-2.result)
                (ap (λ (a : Addr). a.region % g.V.View.count c.args.view.now) w ∙ home);
            bytes = ap t w ∙ beside _ _ c.in_ok-anchor.anchor _ put c.in_ok-root.root other ∙
                here_now _ _ c.in_ok-root.root _ made ∙ ap (λ (o : ℕ). Some (object_bytes 3 o [])) c.word_of.ensures;
            fits = tt;
            many = omega arith;
            few = omega arith;
          };
          stand = tt;
          distinct = (λ i. absurd i, tt);
        };
        apart = λ i. elim i [ inl q ↦ other (sym w ∙ q) | inr j ↦ absurd j ];
      };
      fresh = c.in_ok-anchor.ensures.fresh h one;
      root_fresh = ap s w ∙ sym (beside _ _ c.in_ok-anchor.anchor _ first c.in_ok-root.root other) ∙ fresh;
      frame = λ a n m. beside _ _ c.in_ok-anchor.anchor _ put a n ∙
          beside _ _ c.in_ok-root.root _ made a (λ e. m (e ∙ sym w)) ∙ beside _ _ c.in_ok-anchor.anchor _ first a n;
    })
