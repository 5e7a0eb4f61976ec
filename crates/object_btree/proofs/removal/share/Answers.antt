use Rattle.std.proofs.Common.{◌≡◌, ◌≤◌, ◌+◌, ◌++◌, suc, List, length, None, Some, Option, ℕ, ◌∷◌, drop, refl, sym, ap, subst, ◌∙◌, arith}
use Rattle.std.proofs.lemmas.Bool.{ltb-false}
use Rattle.std.proofs.lemmas.List.{length-append}
use Rattle.std.specs.List.{AllByRecursion}
use Rattle.object_view.specs.Agreement.{stood, State}
use Rattle.object_view.specs.Layout.{IsEntry, entries, object_bytes}
use Rattle.object_view.proofs.Layouts.{some_is, none_left}
use Rattle.object_view.proofs.Moving.{onward_then}
use Rattle.object_view.proofs.Views.{stands_later, tells_from, here_now, beside}
use Rattle.object_btree.proofs.Packs.{small, Cutting, cutting, right_long, right_fit}
use Rattle.object_view.proofs.Reading.{all_join}
use Rattle.object_btree.proofs.Leaves.{spell_mid}
use Rattle.object_btree.proofs.removal.share.Goals as goal

pub returns-in_default-entry_of-clause-tells : goal.returns-in_default-entry_of-clause-tells
returns-in_default-entry_of-clause-tells g c h low high xs ag fl fh ef eb few fx ex h1 h2 h3 h4 = λ n1 n2 n3.
    let s = c.in-Some.ensures xs fx ex (omega (arith, h3)) in
    none_left _ (drop c.args.half xs) (right_fit xs c.args.half fx) s.1
    (right_long xs c.args.half _ (omega (arith, h3)) s.1) c.in_default-entry_of.ensures.tells

pub returns-then-key-gt1100-clause-tells : goal.returns-then-key-gt1100-clause-tells
returns-then-key-gt1100-clause-tells g c h low high xs ag fl fh ef eb few fx ex h1 h2 h3 h4 = λ nab na nb.
    let s = c.in-Some.ensures xs fx ex (omega (arith, h3)) in
    let k : Cutting xs c.args.half c.in-Some.left.now c.in-Some.right.now c.in-Some-entry_of.key.now =
    cutting xs c.args.half _ _ _ _ _ fx (omega (arith, h3)) s.0 s.1 c.in-Some-entry_of.ensures.tells in
    let llong : length k.low ≡ c.args.half = k.low_long in
    let rlong : c.args.half + length (k.here ∷ k.high) ≡ length xs = k.high_long in
    let short : length c.in-Some-entry_of.key.now ≤ 1100 =
    subst (λ (t : List ℕ). length t ≤ 1100) (sym k.key_is) k.right_fits.0.key in
    let long = c.if-key-gt1100.true in
    absurd (omega (arith, short, long))

pub returns-in_default-count_in-clause-tells : goal.returns-in_default-count_in-clause-tells
returns-in_default-count_in-clause-tells g c h low high xs ag fl fh ef eb few fx ex h1 h2 h3 h4 = λ nab na nb.
    let s = c.in-Some.ensures xs fx ex (omega (arith, h3)) in
    let k : Cutting xs c.args.half c.in-Some.left.now c.in-Some.right.now c.in-Some-entry_of.key.now =
    cutting xs c.args.half _ _ _ _ _ fx (omega (arith, h3)) s.0 s.1 c.in-Some-entry_of.ensures.tells in
    let llong : length k.low ≡ c.args.half = k.low_long in
    let rlong : c.args.half + length (k.here ∷ k.high) ≡ length xs = k.high_long in
    let short : length c.in-Some-entry_of.key.now ≤ 1100 =
    subst (λ (t : List ℕ). length t ≤ 1100) (sym k.key_is) k.right_fits.0.key in
    let fe : AllByRecursion IsEntry (low ++ record { key = c.in-Some-entry_of.key.now; word = c.args.word } ∷ high) =
    all_join IsEntry low (record { key = c.in-Some-entry_of.key.now; word = c.args.word } ∷ high) fl
    (record { key = short; word = omega arith }, fh) in
    let l1 = length-append low (record { key = c.in-Some-entry_of.key.now; word = c.args.word } ∷ high) in
    let l2 : length (record { key = c.in-Some-entry_of.key.now; word = c.args.word } ∷ high) ≡ suc (length high) =
    refl in
    let fewe : length (low ++ record { key = c.in-Some-entry_of.key.now; word = c.args.word } ∷ high) ≤ 32 =
    omega (arith, l1, l2, few) in
    let sp : c.as_slice.result.now ≡ entries
    (low ++ record { key = c.in-Some-entry_of.key.now; word = c.args.word } ∷ high) = c.as_slice.ensures.value ∙
    c.in_ok-above.ensures ∙
    spell_mid low (record { key = c.in-Some-entry_of.key.now; word = c.args.word }) high c.args.front.now
    c.args.back.now ef eb in
    let n : ◌≡◌ {A = Option ℕ} None
    (Some (length (low ++ record { key = c.in-Some-entry_of.key.now; word = c.args.word } ∷ high))) =
    c.in_default-count_in.ensures (low ++ record { key = c.in-Some-entry_of.key.now; word = c.args.word } ∷ high) fe
    sp (omega (arith, fewe)) in
    cc

pub returns-in_err-put_node-clause-tells : goal.returns-in_err-put_node-clause-tells
returns-in_err-put_node-clause-tells g c h low high xs ag fl fh ef eb few fx ex h1 h2 h3 h4 = λ nab na nb.
    let s = c.in-Some.ensures xs fx ex (omega (arith, h3)) in
    let k : Cutting xs c.args.half c.in-Some.left.now c.in-Some.right.now c.in-Some-entry_of.key.now =
    cutting xs c.args.half _ _ _ _ _ fx (omega (arith, h3)) s.0 s.1 c.in-Some-entry_of.ensures.tells in
    let llong : length k.low ≡ c.args.half = k.low_long in
    let rlong : c.args.half + length (k.here ∷ k.high) ≡ length xs = k.high_long in
    let short : length c.in-Some-entry_of.key.now ≤ 1100 =
    subst (λ (t : List ℕ). length t ≤ 1100) (sym k.key_is) k.right_fits.0.key in
    tells_from c.from_residual-in_err-put_node.result _ _ _ c.from_residual-in_err-put_node.ensures.1
    (c.in_err-put_node.ensures.tells
    (small k.low c.in-Some.left.now k.left_fits k.left_is (omega (arith, llong, h2))))

pub returns-in_err-put_node-2-clause-tells : goal.returns-in_err-put_node-2-clause-tells
returns-in_err-put_node-2-clause-tells g c h low high xs ag fl fh ef eb few fx ex h1 h2 h3 h4 = λ nab na nb.
    let s = c.in-Some.ensures xs fx ex (omega (arith, h3)) in
    let k : Cutting xs c.args.half c.in-Some.left.now c.in-Some.right.now c.in-Some-entry_of.key.now =
    cutting xs c.args.half _ _ _ _ _ fx (omega (arith, h3)) s.0 s.1 c.in-Some-entry_of.ensures.tells in
    let llong : length k.low ≡ c.args.half = k.low_long in
    let rlong : c.args.half + length (k.here ∷ k.high) ≡ length xs = k.high_long in
    let short : length c.in-Some-entry_of.key.now ≤ 1100 =
    subst (λ (t : List ℕ). length t ≤ 1100) (sym k.key_is) k.right_fits.0.key in
    tells_from c.from_residual-in_err-put_node-2.result _ _ _ c.from_residual-in_err-put_node-2.ensures.1
    (c.in_err-put_node-2.ensures.tells
    (small (k.here ∷ k.high) c.in-Some.right.now k.right_fits k.right_is (omega (arith, rlong, h4))))

pub returns-in_err-put_node-3-clause-tells : goal.returns-in_err-put_node-3-clause-tells
returns-in_err-put_node-3-clause-tells g c h low high xs ag fl fh ef eb few fx ex h1 h2 h3 h4 = λ nab na nb.
    let s = c.in-Some.ensures xs fx ex (omega (arith, h3)) in
    let k : Cutting xs c.args.half c.in-Some.left.now c.in-Some.right.now c.in-Some-entry_of.key.now =
    cutting xs c.args.half _ _ _ _ _ fx (omega (arith, h3)) s.0 s.1 c.in-Some-entry_of.ensures.tells in
    let llong : length k.low ≡ c.args.half = k.low_long in
    let rlong : c.args.half + length (k.here ∷ k.high) ≡ length xs = k.high_long in
    let short : length c.in-Some-entry_of.key.now ≤ 1100 =
    subst (λ (t : List ℕ). length t ≤ 1100) (sym k.key_is) k.right_fits.0.key in
    let fe : AllByRecursion IsEntry (low ++ record { key = c.in-Some-entry_of.key.now; word = c.args.word } ∷ high) =
    all_join IsEntry low (record { key = c.in-Some-entry_of.key.now; word = c.args.word } ∷ high) fl
    (record { key = short; word = omega arith }, fh) in
    let l1 = length-append low (record { key = c.in-Some-entry_of.key.now; word = c.args.word } ∷ high) in
    let l2 : length (record { key = c.in-Some-entry_of.key.now; word = c.args.word } ∷ high) ≡ suc (length high) =
    refl in
    let fewe : length (low ++ record { key = c.in-Some-entry_of.key.now; word = c.args.word } ∷ high) ≤ 32 =
    omega (arith, l1, l2, few) in
    let sp : c.as_slice-2.result.now ≡ entries
    (low ++ record { key = c.in-Some-entry_of.key.now; word = c.args.word } ∷ high) = c.as_slice-2.ensures.value ∙
    c.in_ok-above.ensures ∙
    spell_mid low (record { key = c.in-Some-entry_of.key.now; word = c.args.word }) high c.args.front.now
    c.args.back.now ef eb in
    tells_from c.from_residual-in_err-put_node-3.result _ _ _ c.from_residual-in_err-put_node-3.ensures.1
    (c.in_err-put_node-3.ensures.tells
    (small (low ++ record { key = c.in-Some-entry_of.key.now; word = c.args.word } ∷ high) c.as_slice-2.result.now
    fe sp fewe))

pub put_node-requires-2-clause-stands : goal.put_node-requires-2-clause-stands
put_node-requires-2-clause-stands g c =
    stands_later _ _ _ _ c.args.b c.requires.right_stands c.in_ok-put_node.ensures.onward.agreed
    c.in_ok-put_node.ensures.lasts

pub put_node-requires-3-clause-stands : goal.put_node-requires-3-clause-stands
put_node-requires-3-clause-stands g c =
    stands_later _ _ _ _ c.args.at
    (stands_later _ _ _ _ c.args.at c.requires.stands c.in_ok-put_node.ensures.onward.agreed
    c.in_ok-put_node.ensures.lasts)
    c.in_ok-put_node-2.ensures.onward.agreed c.in_ok-put_node-2.ensures.lasts

pub returns-in_err-put_node-2-clause-onward : goal.returns-in_err-put_node-2-clause-onward
returns-in_err-put_node-2-clause-onward g c =
    onward_then _ _ _ _ _ _ _ _ c.in_ok-put_node.ensures.onward c.in_err-put_node-2.ensures.onward

pub returns-in_err-put_node-3-clause-onward : goal.returns-in_err-put_node-3-clause-onward
returns-in_err-put_node-3-clause-onward g c =
    onward_then _ _ _ _ _ _ _ _
    (onward_then _ _ _ _ _ _ _ _ c.in_ok-put_node.ensures.onward c.in_ok-put_node-2.ensures.onward)
    c.in_err-put_node-3.ensures.onward

pub returns-clause-onward : goal.returns-clause-onward
returns-clause-onward g c =
    onward_then _ _ _ _ _ _ _ _
    (onward_then _ _ _ _ _ _ _ _ c.in_ok-put_node.ensures.onward c.in_ok-put_node-2.ensures.onward)
    c.in_ok-put_node-3.ensures.onward

pub returns-clause-tells : goal.returns-clause-tells
returns-clause-tells g c h low high xs ag fl fh ef eb few fx ex h1 h2 h3 h4 nab na nb =
    let s = c.in-Some.ensures xs fx ex (omega (arith, h3)) in
    let k : Cutting xs c.args.half c.in-Some.left.now c.in-Some.right.now c.in-Some-entry_of.key.now =
    cutting xs c.args.half _ _ _ _ _ fx (omega (arith, h3)) s.0 s.1 c.in-Some-entry_of.ensures.tells in
    let llong : length k.low ≡ c.args.half = k.low_long in
    let rlong : c.args.half + length (k.here ∷ k.high) ≡ length xs = k.high_long in
    let short : length c.in-Some-entry_of.key.now ≤ 1100 =
    subst (λ (t : List ℕ). length t ≤ 1100) (sym k.key_is) k.right_fits.0.key in
    let fe : AllByRecursion IsEntry (low ++ record { key = c.in-Some-entry_of.key.now; word = c.args.word } ∷ high) =
    all_join IsEntry low (record { key = c.in-Some-entry_of.key.now; word = c.args.word } ∷ high) fl
    (record { key = short; word = omega arith }, fh) in
    let l1 = length-append low (record { key = c.in-Some-entry_of.key.now; word = c.args.word } ∷ high) in
    let l2 : length (record { key = c.in-Some-entry_of.key.now; word = c.args.word } ∷ high) ≡ suc (length high) =
    refl in
    let fewe : length (low ++ record { key = c.in-Some-entry_of.key.now; word = c.args.word } ∷ high) ≤ 32 =
    omega (arith, l1, l2, few) in
    let sp : c.as_slice-2.result.now ≡ entries
    (low ++ record { key = c.in-Some-entry_of.key.now; word = c.args.word } ∷ high) = c.as_slice-2.ensures.value ∙
    c.in_ok-above.ensures ∙
    spell_mid low (record { key = c.in-Some-entry_of.key.now; word = c.args.word }) high c.args.front.now
    c.args.back.now ef eb in
    let sp0 : c.as_slice.result.now ≡ entries
    (low ++ record { key = c.in-Some-entry_of.key.now; word = c.args.word } ∷ high) = c.as_slice.ensures.value ∙
    sym c.as_slice-2.ensures.value ∙ sp in
    let n : c.in-Some-count_in.count ≡ length
    (low ++ record { key = c.in-Some-entry_of.key.now; word = c.args.word } ∷ high) =
    some_is _ _ (c.in-Some-count_in.ensures
    (low ++ record { key = c.in-Some-entry_of.key.now; word = c.args.word } ∷ high) fe sp0 (omega (arith, fewe))) in
    let s : State = stood h (g.V.View.overlay c.args.view.now) in
    let u : State = stood h (g.V.View.overlay c.put_node.new.view) in
    let v : State = stood h (g.V.View.overlay c.put_node-2.new.view) in
    let t : State = stood h (g.V.View.overlay c.put_node-3.new.view) in
    let put1 = c.in_ok-put_node.ensures.tells
    (small k.low c.in-Some.left.now k.left_fits k.left_is (omega (arith, llong, h2))) h in
    let put2 = c.in_ok-put_node-2.ensures.tells
    (small (k.here ∷ k.high) c.in-Some.right.now k.right_fits k.right_is (omega (arith, rlong, h4))) h in
    let put3 = c.in_ok-put_node-3.ensures.tells
    (small (low ++ record { key = c.in-Some-entry_of.key.now; word = c.args.word } ∷ high) c.as_slice-2.result.now
    fe sp fewe) h in
    let key : c.in-Some-entry_of.key.now ≡ k.here.key = k.key_is in
    record {
      left = k.low;
      here = k.here;
      right = k.high;
      are = k.are;
      left_at = beside v t c.args.at _ put3 c.args.a na ∙ beside u v c.args.b _ put2 c.args.a nab ∙
          here_now s u c.args.a _ put1 ∙ ap (λ (x : List ℕ). Some (object_bytes 3 c.args.owner x)) k.left_is;
      right_at = beside v t c.args.at _ put3 c.args.b nb ∙ here_now u v c.args.b _ put2 ∙
          ap (λ (x : List ℕ). Some (object_bytes 3 c.args.owner x)) k.right_is;
      above_at = here_now v t c.args.at _ put3 ∙
          ap (λ (x : List ℕ). Some (object_bytes 3 c.args.owner x)) sp ∙
          ap (λ (x : List ℕ). Some (object_bytes 3 c.args.owner
          (entries (low ++ record { key = x; word = c.args.word } ∷ high)))) key;
      left_many = omega (arith, llong, h1);
      left_few = omega (arith, llong, h2);
      right_many = omega (arith, rlong, h3);
      right_few = omega (arith, rlong, h4);
      frame = λ x m1 m2 m3. beside v t c.args.at _ put3 x m1 ∙ beside u v c.args.b _ put2 x m3 ∙
          beside s u c.args.a _ put1 x m2;
      firm = λ thin. let lowc = ltb-false c.in-Some-count_in.count 16 thin in
          subst (λ (x : List ℕ). 16 ≤ length (low ++ record { key = x; word = c.args.word } ∷ high)) key
          (omega (arith, n, lowc));
    }
