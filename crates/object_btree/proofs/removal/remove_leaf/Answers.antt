use Rattle.std.proofs.Common.{◌≡◌, inl, inr, ◌++◌, List, length, None, Some, Option, ℕ, refl, sym, ap, ◌∙◌, arith}
use Rattle.std.proofs.lemmas.Bool.{ltb-false}
use Rattle.std.specs.List.{AllByRecursion}
use Rattle.object_view.specs.Layout.{Entry, IsEntry, entries, object_bytes, node_bytes}
use Rattle.object_view.specs.Keys.{removed, lookup}
use Rattle.object_btree.specs.Steps.{Place}
use Rattle.object_view.proofs.Layouts.{some_is}
use Rattle.object_btree.proofs.Scans.{entries_append}
use Rattle.object_view.proofs.Views.{tells_from, here_now, beside}
use Rattle.object_btree.proofs.Packs.{small}
use Rattle.object_btree.proofs.Takes.{not_found, shorter, fits_take}
use Rattle.object_btree.proofs.removal.remove_leaf.Goals as goal

pub returns-in_default-old-clause-tells : goal.returns-in_default-old-clause-tells
returns-in_default-old-clause-tells g c h es ag fits e few =
    let p : Place c.args.key.now es c.in-Some.front.now c.in-Some.back.now c.in-Some.old =
    c.in-Some.ensures es fits e in
    let none : lookup c.args.key.now es ≡ None = sym p.old ∙ c.in_default-old.is in
    let same : removed c.args.key.now es ≡ es = not_found c.args.key.now es none in
    record {
      here = λ q. q ∙ ap (λ (t : List Entry). Some (node_bytes c.args.site.owner t)) (sym same);
      old = sym none;
      firm = λ z. inl same;
      frame = λ b n. refl;
    }

pub returns-in_default-count_in-clause-tells : goal.returns-in_default-count_in-clause-tells
returns-in_default-count_in-clause-tells g c h es ag fits e few =
    let p : Place c.args.key.now es c.in-Some.front.now c.in-Some.back.now c.in-Some.old =
    c.in-Some.ensures es fits e in
    let b : c.as_slice.result.now ≡ entries (removed c.args.key.now es) = c.as_slice.ensures.value ∙
    c.in_ok-body.ensures ∙ ap (λ (t : List ℕ). t ++ c.in-Some.back.now) p.front_is ∙
    ap (λ (t : List ℕ). entries p.low ++ t) p.back_is ∙ sym (entries_append p.low p.high) ∙ ap entries (sym p.gone) in
    let sh = (shorter c.args.key.now es).few in
    let n : ◌≡◌ {A = Option ℕ} None (Some (length (removed c.args.key.now es))) =
    c.in_default-count_in.ensures (removed c.args.key.now es) (fits_take c.args.key.now es fits) b
    (omega (arith, sh, few)) in
    cc

pub returns-in_err-put_node-clause-tells : goal.returns-in_err-put_node-clause-tells
returns-in_err-put_node-clause-tells g c h es ag fits e few =
    let p : Place c.args.key.now es c.in-Some.front.now c.in-Some.back.now c.in-Some.old =
    c.in-Some.ensures es fits e in
    let b : c.as_slice-2.result.now ≡ entries (removed c.args.key.now es) = c.as_slice-2.ensures.value ∙
    c.in_ok-body.ensures ∙ ap (λ (t : List ℕ). t ++ c.in-Some.back.now) p.front_is ∙
    ap (λ (t : List ℕ). entries p.low ++ t) p.back_is ∙ sym (entries_append p.low p.high) ∙ ap entries (sym p.gone) in
    let sh = (shorter c.args.key.now es).few in
    tells_from c.from_residual-in_err-put_node.result _ _ _ c.from_residual-in_err-put_node.ensures.1
    (c.in_err-put_node.ensures.tells (small (removed c.args.key.now es) c.as_slice-2.result.now
    (fits_take c.args.key.now es fits) b (omega (arith, sh, few))))

pub returns-clause-tells : goal.returns-clause-tells
returns-clause-tells g c h es ag fits e few =
    let p : Place c.args.key.now es c.in-Some.front.now c.in-Some.back.now c.in-Some.old =
    c.in-Some.ensures es fits e in
    let b : c.as_slice-2.result.now ≡ entries (removed c.args.key.now es) = c.as_slice-2.ensures.value ∙
    c.in_ok-body.ensures ∙ ap (λ (t : List ℕ). t ++ c.in-Some.back.now) p.front_is ∙
    ap (λ (t : List ℕ). entries p.low ++ t) p.back_is ∙ sym (entries_append p.low p.high) ∙ ap entries (sym p.gone) in
    let b0 : c.as_slice.result.now ≡ entries (removed c.args.key.now es) = c.as_slice.ensures.value ∙
    sym c.as_slice-2.ensures.value ∙ b in
    let sh = (shorter c.args.key.now es).few in
    let fr : AllByRecursion IsEntry (removed c.args.key.now es) = fits_take c.args.key.now es fits in
    let n : c.in-Some-count_in.count ≡ length (removed c.args.key.now es) =
    some_is _ _ (c.in-Some-count_in.ensures (removed c.args.key.now es) fr b0 (omega (arith, sh, few))) in
    let put = c.in_ok-put_node.ensures.tells
    (small (removed c.args.key.now es) c.as_slice-2.result.now fr b (omega (arith, sh, few))) h in
    record {
      here = λ q. here_now _ _ c.args.at _ put ∙ ap (λ (t : List ℕ). Some (object_bytes 3 c.args.site.owner t)) b;
      old = sym c.in-Some-old.is ∙ p.old;
      firm = λ thin. let low = ltb-false c.in-Some-count_in.count 16 thin in inr (omega (arith, n, low));
      frame = λ x m. beside _ _ c.args.at _ put x m;
    }
