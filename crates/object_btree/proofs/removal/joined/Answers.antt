use Rattle.std.proofs.Common.{◌≡◌, inl, inr, ◌≤◌, ◌++◌, suc, List, length, None, Some, Option, ℕ, [], ◌∷◌, refl, sym, ap, ◌∙◌, arith}
use Rattle.std.proofs.lemmas.List.{length-append}
use Rattle.std.specs.List.{AllByRecursion}
use Rattle.object_view.specs.Layout.{Entry, IsEntry, entries}
use Rattle.object_view.proofs.Layouts.{some_is}
use Rattle.object_btree.proofs.Scans.{entries_append}
use Rattle.object_view.proofs.Views.{tells_map}
use Rattle.object_view.proofs.Reading.{all_join}
use Rattle.object_btree.proofs.Leaves.{spell_mid}
use Rattle.object_btree.proofs.removal.joined.Goals as goal

pub returns-in_default-clause-tells : goal.returns-in_default-clause-tells
returns-in_default-clause-tells g c h low high xs ys ag fl fh ef eb short few el er p =
    let both : c.as_slice.result.now ≡ entries (xs ++ ys) = c.as_slice.ensures.value ∙ c.in_ok-both.ensures ∙
    ap (λ (t : List ℕ). t ++ c.args.right_body.now) el ∙ ap (λ (t : List ℕ). entries xs ++ t) er ∙
    sym (entries_append xs ys) in
    let len = length-append xs ys in
    let max = p.few in
    let n : ◌≡◌ {A = Option ℕ} None (Some (length (xs ++ ys))) =
    c.in_default.ensures (xs ++ ys) (all_join IsEntry xs ys p.left_fits p.right_fits) both (omega (arith, len, max))
    in
    cc

pub returns-then-count-le32-clause-tells : goal.returns-then-count-le32-clause-tells
returns-then-count-le32-clause-tells g c h low high xs ys ag fl fh ef eb short few el er p =
    let both : c.as_slice.result.now ≡ entries (xs ++ ys) = c.as_slice.ensures.value ∙ c.in_ok-both.ensures ∙
    ap (λ (t : List ℕ). t ++ c.args.right_body.now) el ∙ ap (λ (t : List ℕ). entries xs ++ t) er ∙
    sym (entries_append xs ys) in
    let both2 : c.as_slice-then-count-le32-2.result.now ≡ entries (xs ++ ys) =
    c.as_slice-then-count-le32-2.ensures.value ∙ sym c.as_slice.ensures.value ∙ both in
    let len = length-append xs ys in
    let max = p.few in
    let fxy : AllByRecursion IsEntry (xs ++ ys) = all_join IsEntry xs ys p.left_fits p.right_fits in
    let n : c.in-Some.count ≡ length (xs ++ ys) =
    some_is _ _ (c.in-Some.ensures (xs ++ ys) fxy both (omega (arith, len, max))) in
    let le = c.if-count-le32.true in
    let few2 : length (xs ++ ys) ≤ 32 = omega (arith, n, le) in
    let fe : AllByRecursion IsEntry (low ++ record { key = c.args.key.now; word = c.args.left } ∷ high) =
    all_join IsEntry low (record { key = c.args.key.now; word = c.args.left } ∷ high) fl
    (record { key = short; word = omega arith }, fh) in
    let l1 = length-append low (record { key = c.args.key.now; word = c.args.left } ∷ high) in
    let l2 : length (record { key = c.args.key.now; word = c.args.left } ∷ high) ≡ suc (length high) = refl in
    let sp : c.as_slice-then-count-le32.result.now ≡ entries
    (low ++ record { key = c.args.key.now; word = c.args.left } ∷ high) = c.as_slice-then-count-le32.ensures.value ∙
    c.in_ok-above.ensures ∙
    spell_mid low (record { key = c.args.key.now; word = c.args.left }) high c.args.front.now c.args.back.now ef eb in
    tells_map c.merge.result _ _ (λ thin m. inl (few2, m))
    (c.merge.ensures.tells h (low ++ record { key = c.args.key.now; word = c.args.left } ∷ high) (xs ++ ys) ag fe sp
    (omega (arith, l1, l2, few)) fxy both2 few2 p.other p.left_other p.right_other)

pub returns-clause-tells : goal.returns-clause-tells
returns-clause-tells g c h low high xs ys ag fl fh ef eb short few el er p =
    let both : c.as_slice.result.now ≡ entries (xs ++ ys) = c.as_slice.ensures.value ∙ c.in_ok-both.ensures ∙
    ap (λ (t : List ℕ). t ++ c.args.right_body.now) el ∙ ap (λ (t : List ℕ). entries xs ++ t) er ∙
    sym (entries_append xs ys) in
    let both2 : c.as_slice-else-count-le32-2.result.now ≡ entries (xs ++ ys) =
    c.as_slice-else-count-le32-2.ensures.value ∙ sym c.as_slice.ensures.value ∙ both in
    let len = length-append xs ys in
    let max = p.few in
    let fxy : AllByRecursion IsEntry (xs ++ ys) = all_join IsEntry xs ys p.left_fits p.right_fits in
    let n : c.in-Some.count ≡ length (xs ++ ys) =
    some_is _ _ (c.in-Some.ensures (xs ++ ys) fxy both (omega (arith, len, max))) in
    let le = c.if-count-le32.false in
    let fe : AllByRecursion IsEntry (low ++ record { key = c.args.key.now; word = c.args.left } ∷ []) =
    all_join IsEntry low (record { key = c.args.key.now; word = c.args.left } ∷ []) fl
    (record { key = short; word = omega arith }, tt) in
    let l1 = length-append low (record { key = c.args.key.now; word = c.args.left } ∷ []) in
    let l2 : length {A = Entry} (record { key = c.args.key.now; word = c.args.left } ∷ []) ≡ 1 = refl in
    let sp : c.as_slice-else-count-le32.result.now ≡ entries
    (low ++ record { key = c.args.key.now; word = c.args.left } ∷ []) = c.as_slice-else-count-le32.ensures.value ∙
    c.in_ok-front.ensures ∙
    spell_mid low (record { key = c.args.key.now; word = c.args.left }) [] c.args.front.now [] ef refl in
    tells_map c.share.result _ _ (λ thin m. inr m)
    (c.share.ensures.tells h (low ++ record { key = c.args.key.now; word = c.args.left } ∷ []) high (xs ++ ys) ag fe
    fh sp eb (omega (arith, l1, l2, few)) fxy both2 (omega (arith, n, le)) (omega (arith, n, len, max))
    (omega (arith, n, le)) (omega (arith, n, len, max)) p.other p.left_other p.right_other)
