use Rattle.std.proofs.Common.{◌≡◌, ◌≤◌, ◌<◌, ◌+◌, ◌++◌, List, length, take, drop, None, Some, ℕ, [], ◌∷◌, refl, sym, ap, ◌∙◌, arith, append_assoc}
use Rattle.std.proofs.lemmas.List.{take_at, drop_at, length-append}
use Rattle.std.specs.List.{AllByRecursion}
use Rattle.object_view.specs.Layout.{Entry, IsEntry, entries, entry_at}
use Rattle.object_view.proofs.Layouts.{Left, entry_again, some_is}
use Rattle.object_btree.proofs.Routes.{over_entry}
use Rattle.object_btree.proofs.scan.split_in.Goals as goal

head_of : (rest : List ℕ) (es low fs : List Entry) (n left : ℕ) → AllByRecursion IsEntry fs → rest ≡ entries fs
    → n ≤ length es → es ≡ low ++ fs → length low + left ≡ n → 0 < left → entry_at rest ≡ None → ⊥
head_of rest es low [] n left fits r few are len pos none =
    let a : length es ≡ length (low ++ []) = ap length are in
    let b : length (low ++ []) ≡ length low + 0 = length-append low [] in
    absurd (omega arith)
head_of rest es low (f ∷ fs) n left fits r few are len pos none =
    let one : entry_at rest ≡ Some (f, entries fs) = ap entry_at r ∙ entry_again f (entries fs) fits.0 in cc

some_of : (rest : List ℕ) (es low fs : List Entry) (n left : ℕ) (e : Entry) (after : List ℕ) → AllByRecursion IsEntry fs
    → rest ≡ entries fs → n ≤ length es → es ≡ low ++ fs → length low + left ≡ n → 0 < left
    → entry_at rest ≡ Some (e, after) → Left fs e after
some_of rest es low [] n left e after fits r few are len pos some =
    let a : length es ≡ length (low ++ []) = ap length are in
    let b : length (low ++ []) ≡ length low + 0 = length-append low [] in
    absurd (omega arith)
some_of rest es low (f ∷ fs) n left e after fits r few are len pos some =
    let one : entry_at rest ≡ Some (f, entries fs) = ap entry_at r ∙ entry_again f (entries fs) fits.0 in
    let pair : ◌≡◌ {A = Entry × List ℕ} (f, entries fs) (e, after) = some_is _ _ (sym one ∙ some) in
    record {
      more = fs;
      are = ap (λ (p : Entry × List ℕ). p.0 ∷ fs) pair;
      fit = fits.1;
      spelled =
          sym (ap (λ (p : Entry × List ℕ). p.1) pair);
    }

pub each-init : goal.each-init
each-init c = (omega arith, λ es fits h few. ([], es, fits, h, refl, refl, omega arith))

pub returns-in-None : goal.returns-in-None
returns-in-None c es fits h few =
    let l = c.each.invariant.1 es fits h few in
    head_of _ es l.0 l.1 c.args.count c.each.left l.2 l.3 few l.5 l.6 c.each-test.true c.in-None.ensures.tells

pub each-preserved : goal.each-preserved
each-preserved c = (
  omega arith,
  λ es fits h few.
      let l = c.each.invariant.1 es fits h few in
      let e : Entry = record { key = c.in-Some.field-0-0.now; word = c.in-Some.field-0-1 } in
      let left : Left l.1 e c.in-Some.after.now =
      some_of _ es l.0 l.1 c.args.count c.each.left e _ l.2 l.3 few l.5 l.6 c.each-test.true
      c.in-Some.ensures.tells in
      let len : length (l.0 ++ e ∷ []) ≡ length l.0 + 1 = length-append l.0 (e ∷ []) in
      let old : length l.0 + c.each.left ≡ c.args.count = l.6 in (
        l.0 ++ e ∷ [],
        left.more,
        left.fit,
        left.spelled,
        over_entry l.0 _ _ l.1 e _ l.4 l.3 left,
        l.5
            ∙ ap (λ (t : List Entry). l.0 ++ t) left.are ∙ sym (append_assoc l.0 (e ∷ []) left.more),
        omega arith,
      ),
)

pub returns : goal.returns
returns c es fits h few =
    let l = c.each.invariant.1 es fits h few in
    let n : length l.0 ≡ c.args.count = let old : length l.0 + c.each.left ≡ c.args.count = l.6 in omega arith in
    let front : take c.args.count es ≡ l.0 = ap (take c.args.count) l.5 ∙ take_at l.0 l.1 c.args.count n in
    let back : drop c.args.count es ≡ l.1 = ap (drop c.args.count) l.5 ∙ drop_at l.0 l.1 c.args.count n in
    (c.front_of.ensures (entries l.0) l.4 ∙ ap entries (sym front), l.3 ∙ ap entries (sym back))
