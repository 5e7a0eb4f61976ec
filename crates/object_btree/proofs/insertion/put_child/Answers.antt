use Rattle.std.proofs.Common.{◌≡◌, ◌+◌, ℕ, suc, List, length, ◌∷◌, ◌++◌, refl, ap, ◌∙◌, arith}
use Rattle.std.proofs.lemmas.List.{length-append}
use Rattle.object_view.specs.Layout.{Entry, IsEntry, entry}
use Rattle.object_view.proofs.Reading.{all_join}
use Rattle.object_btree.proofs.Leaves.{spell_mid}
use Rattle.object_btree.proofs.insertion.put_child.Goals as goal

pub returns-clause-tells : goal.returns-clause-tells
returns-clause-tells g c h low high ag f b fl fh few short =
    let e : Entry = record { key = c.args.split.now.key; word = c.args.split.now.word } in
    let n : IsEntry (record { key = c.args.split.now.key; word = c.args.split.now.word }) =
    record { key = short; word = omega arith } in
    let len : length (low ++ record { key = c.args.split.now.key; word = c.args.split.now.word } ∷ high) ≡ length low
    + length (record { key = c.args.split.now.key; word = c.args.split.now.word } ∷ high) =
    length-append low (record { key = c.args.split.now.key; word = c.args.split.now.word } ∷ high) in
    let one : length (record { key = c.args.split.now.key; word = c.args.split.now.word } ∷ high) ≡ suc (length high) =
    refl in
    c.pack.ensures.tells h (low ++ record { key = c.args.split.now.key; word = c.args.split.now.word } ∷ high) ag
    (all_join IsEntry low (record { key = c.args.split.now.key; word = c.args.split.now.word } ∷ high) fl (n, fh))
    (c.as_slice.ensures.value ∙ c.in_ok-body.ensures
    ∙ ap (λ (k : List ℕ). c.args.front.now
    ++ (entry (record { key = k; word = c.args.split.now.word }) ++ c.args.back.now)) c.as_slice-key.ensures
    ∙ spell_mid low (record { key = c.args.split.now.key; word = c.args.split.now.word }) high c.args.front.now
    c.args.back.now f b)
    (omega (arith, len, one, few))
