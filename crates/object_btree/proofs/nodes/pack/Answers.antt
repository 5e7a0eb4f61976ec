use Rattle.std.proofs.Common.{◌≡◌, ◌≤◌, ◌+◌, ◌/◌, ℕ, List, length, Some, ◌∷◌, drop, ap, ◌∙◌, arith}
use Rattle.object_view.specs.Agreement.{stood}
use Rattle.object_view.specs.Layout.{object_bytes}
use Rattle.object_view.specs.Trees.{is_on}
use Rattle.object_view.proofs.Moving.{onward_then}
use Rattle.object_view.proofs.Layouts.{some_is, none_left}
use Rattle.object_view.proofs.Views.{tells_from, lasts_then, stands_later, here_now, beside, some_none, place_on}
use Rattle.object_btree.proofs.Packs.{small, cutting, Cutting, halved, right_long, right_fit}
use Rattle.object_btree.proofs.nodes.pack.Goals as goal

pub returns-then-count-le32-clause-tells : goal.returns-then-count-le32-clause-tells
returns-then-count-le32-clause-tells g c h es ag fits e few =
    let n : c.in-Some.count ≡ length es = some_is _ _ (c.in-Some.ensures es fits e (omega arith)) in
    let m : length es ≤ 32 = omega arith in
    let put = c.in_ok-put_node.ensures.tells (small es c.args.body.now fits e m) h in
    record {
      here = here_now _ _ c.args.at _ put ∙ ap (λ (b : List ℕ). Some (object_bytes 3 c.args.site.owner b)) e;
      few = m;
      frame = λ b n. beside _ _ c.args.at _ put b n;
    }

pub returns-in_err-put_node-clause-tells : goal.returns-in_err-put_node-clause-tells
returns-in_err-put_node-clause-tells g c h es ag fits e few =
    let n : c.in-Some.count ≡ length es = some_is _ _ (c.in-Some.ensures es fits e (omega arith)) in
    let m : length es ≤ 32 = omega arith in
    tells_from c.from_residual.result _ _ _ c.from_residual.ensures.1
    (c.in_err-put_node.ensures.tells (small es c.args.body.now fits e m))

pub returns-in_default-entry_of-clause-tells : goal.returns-in_default-entry_of-clause-tells
returns-in_default-entry_of-clause-tells g c h es ag fits e few =
    let n : c.in-Some.count ≡ length es = some_is _ _ (c.in-Some.ensures es fits e (omega arith)) in
    let s = c.in-Some-split_in.ensures es fits e (omega arith) in
    none_left _ (drop (c.in-Some.count / 2) es) (right_fit es (c.in-Some.count / 2) fits) s.1
    (right_long es (c.in-Some.count / 2) _ (omega arith) s.1) c.in_default-entry_of.ensures.tells

pub put_node-requires-2-clause-stands : goal.put_node-requires-2-clause-stands
put_node-requires-2-clause-stands g c =
    stands_later _ _ _ _ c.args.at c.requires.stands c.in_ok-to.ensures.onward.agreed c.in_ok-to.ensures.lasts

pub returns-in_err-to-clause-tells : goal.returns-in_err-to-clause-tells
returns-in_err-to-clause-tells g c h es ag fits e few =
    let n : c.in-Some.count ≡ length es = some_is _ _ (c.in-Some.ensures es fits e (omega arith)) in
    let s = c.in-Some-split_in.ensures es fits e (omega arith) in
    let k : Cutting es (c.in-Some.count / 2) c.in-Some-split_in.left.now c.in-Some-split_in.right.now
    c.in-Some-entry_of.key.now =
    cutting es (c.in-Some.count / 2) _ _ _ _ _ fits (omega arith) s.0 s.1 c.in-Some-entry_of.ensures.tells in
    let long : (c.in-Some.count / 2) + length (k.here ∷ k.high) ≡ length es = k.high_long in
    tells_from c.from_residual-in_err-to.result _ _ _ c.from_residual-in_err-to.ensures.1
    (c.in_err-to.ensures.tells (small (k.here ∷ k.high) _ k.right_fits k.right_is (omega (arith, long))))

pub returns-in_err-put_node-2-clause-tells : goal.returns-in_err-put_node-2-clause-tells
returns-in_err-put_node-2-clause-tells g c h es ag fits e few =
    let n : c.in-Some.count ≡ length es = some_is _ _ (c.in-Some.ensures es fits e (omega arith)) in
    let s = c.in-Some-split_in.ensures es fits e (omega arith) in
    let k : Cutting es (c.in-Some.count / 2) c.in-Some-split_in.left.now c.in-Some-split_in.right.now
    c.in-Some-entry_of.key.now =
    cutting es (c.in-Some.count / 2) _ _ _ _ _ fits (omega arith) s.0 s.1 c.in-Some-entry_of.ensures.tells in
    let long : length k.low ≡ c.in-Some.count / 2 = k.low_long in
    tells_from c.from_residual-in_err-put_node-2.result _ _ _ c.from_residual-in_err-put_node-2.ensures.1
    (c.in_err-put_node-2.ensures.tells (small k.low _ k.left_fits k.left_is (omega (arith, long))))

pub returns-clause-lasts : goal.returns-clause-lasts
returns-clause-lasts g c =
    lasts_then _ _ _ _ _ c.in_ok-to.ensures.lasts c.in_ok-put_node-2.ensures.onward.agreed
    c.in_ok-put_node-2.ensures.lasts

pub returns-clause-tells : goal.returns-clause-tells
returns-clause-tells g c h es ag fits e few =
    let n : c.in-Some.count ≡ length es = some_is _ _ (c.in-Some.ensures es fits e (omega arith)) in
    let s = c.in-Some-split_in.ensures es fits e (omega arith) in
    let k : Cutting es (c.in-Some.count / 2) c.in-Some-split_in.left.now c.in-Some-split_in.right.now
    c.in-Some-entry_of.key.now =
    cutting es (c.in-Some.count / 2) _ _ _ _ _ fits (omega arith) s.0 s.1 c.in-Some-entry_of.ensures.tells in
    let llong : length k.low ≡ c.in-Some.count / 2 = k.low_long in
    let rlong : (c.in-Some.count / 2) + length (k.here ∷ k.high) ≡ length es = k.high_long in
    let mid = c.in_ok-put_node-2.ensures.onward.agreed h ag in
    let made = c.in_ok-to.ensures.tells (small (k.here ∷ k.high) _ k.right_fits k.right_is (omega (arith, rlong))) h in
    let put = c.in_ok-put_node-2.ensures.tells (small k.low _ k.left_fits k.left_is (omega (arith, llong))) h in
    halved (is_on (g.V.View.count c.args.view.now) c.args.site.node) (stood h (g.V.View.overlay c.args.view.now)) _ _
    c.args.site.owner c.args.at c.in_ok-to.to es _ _ _ c.in_ok-key.key (c.in-Some.count / 2) c.word_of.result k
    c.in_ok-key.ensures c.word_of.type_inv c.word_of.ensures c.in_ok-to.ensures.place.offset
    (omega arith) (omega arith) (omega arith) (omega arith) (omega arith)
    (place_on _ _ c.in_ok-to.to c.in_ok-to.ensures.place.home)
    (some_none _ (c.requires.stands h (c.in_ok-to.ensures.onward.agreed h mid)))
    (c.in_ok-to.ensures.fresh h mid) (here_now _ _ c.in_ok-to.to _ made) (beside _ _ c.in_ok-to.to _ made)
    (here_now _ _ c.args.at _ put) (beside _ _ c.args.at _ put)

pub returns-in_err-put_node-2-clause-onward : goal.returns-in_err-put_node-2-clause-onward
returns-in_err-put_node-2-clause-onward g c =
    onward_then _ _ _ _ _ _ _ _ c.in_ok-to.ensures.onward c.in_err-put_node-2.ensures.onward

pub returns-clause-onward : goal.returns-clause-onward
returns-clause-onward g c =
    onward_then _ _ _ _ _ _ _ _ c.in_ok-to.ensures.onward c.in_ok-put_node-2.ensures.onward
