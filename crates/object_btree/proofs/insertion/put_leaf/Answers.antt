use Rattle.std.proofs.Common.{◌≡◌, length, sym, ap, ◌∙◌, arith}
use Rattle.object_view.specs.Layout.{IsEntry, entries}
use Rattle.object_view.specs.Keys.{inserted}
use Rattle.object_btree.specs.Steps.{Place}
use Rattle.object_view.proofs.Views.{tells_from}
use Rattle.object_btree.proofs.Leaves.{fits_put, longer_put, Longer, spell_mid}
use Rattle.object_btree.proofs.insertion.put_leaf.Goals as goal

pub returns-in_err-more-clause-tells : goal.returns-in_err-more-clause-tells
returns-in_err-more-clause-tells g c h es ag fits e few =
    let p : Place c.args.key.now es c.in-Some.front.now c.in-Some.back.now c.in-Some.old =
    c.in-Some.ensures es fits e in
    let n : IsEntry (record { key = c.args.key.now; word = c.args.value }) =
    record { key = c.requires.key; word = omega arith } in
    let l : Longer (length es) (length (inserted c.args.key.now c.args.value es)) =
    longer_put c.args.key.now c.args.value es in
    let few1 = l.one in
    let b : c.as_slice.result.now ≡ entries (inserted c.args.key.now c.args.value es) = c.as_slice.ensures.value
    ∙ c.in_ok-body.ensures ∙ spell_mid p.low (record { key = c.args.key.now; word = c.args.value }) p.high _ _
    p.front_is p.back_is ∙ ap entries (sym (p.result c.args.value)) in
    tells_from c.from_residual-in_err-more.result _ _ _ c.from_residual-in_err-more.ensures.1
    (c.in_err-more.ensures.tells h (inserted c.args.key.now c.args.value es) ag
    (fits_put c.args.key.now c.args.value es n fits) b (omega (arith, few1, few)))

pub returns-clause-tells : goal.returns-clause-tells
returns-clause-tells g c h es ag fits e few =
    let p : Place c.args.key.now es c.in-Some.front.now c.in-Some.back.now c.in-Some.old =
    c.in-Some.ensures es fits e in
    let n : IsEntry (record { key = c.args.key.now; word = c.args.value }) =
    record { key = c.requires.key; word = omega arith } in
    let l : Longer (length es) (length (inserted c.args.key.now c.args.value es)) =
    longer_put c.args.key.now c.args.value es in
    let few1 = l.one in
    let b : c.as_slice.result.now ≡ entries (inserted c.args.key.now c.args.value es) = c.as_slice.ensures.value
    ∙ c.in_ok-body.ensures ∙ spell_mid p.low (record { key = c.args.key.now; word = c.args.value }) p.high _ _
    p.front_is p.back_is ∙ ap entries (sym (p.result c.args.value)) in (
      c.in_ok-more.ensures.tells h (inserted c.args.key.now c.args.value es) ag
          (fits_put c.args.key.now c.args.value es n fits) b (omega (arith, few1, few)),
      p.old,
    )

pub returns-clause-lasts : goal.returns-clause-lasts
returns-clause-lasts g c = c.in_ok-more.ensures.lasts
