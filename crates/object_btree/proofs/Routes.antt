-- A scan for the entry that leads to a key.
use Rattle.std.proofs.Common.{◌≡◌, ℕ, ◌<◌, ◌≤◌, List, [], ◌∷◌, ◌++◌, length, Option, Some, None, refl, sym, ap, subst, ◌∙◌, append_assoc}
use Rattle.std.specs.List.{AllByRecursion}
use Rattle.std.specs.declared.cmp.Ordering.TheVariants.{Greater}
use Rattle.std.proofs.lemmas.List.{append-nil}
use Rattle.object_view.specs.Layout.{Entry, IsEntry, entry, entries, entry_at}
use Rattle.object_view.specs.Keys.{compare}
use Rattle.object_btree.specs.Levels.{Ahead}
use Rattle.object_btree.specs.Steps.{Begins, Route, Passed}
use Rattle.object_view.proofs.Layouts.{Left, some_left, none_more}
use Rattle.object_btree.proofs.Scans.{entries_append}
use Rattle.object_btree.proofs.Orders.{flip}

pub pass_start : (k : List ℕ) (es : List Entry) (bytes : List ℕ) → AllByRecursion IsEntry es → bytes ≡ entries es
    → Passed k es bytes bytes None
pass_start k es bytes fits h =
    record { low = []; left = es; fits = fits; are = refl; rest_is = h; bytes_are = refl; last = refl }

-- one entry further
pub over_entry : (low : List Entry) (bytes rest : List ℕ) (left : List Entry) (e : Entry) (after : List ℕ)
    → bytes ≡ entries low ++ rest → rest ≡ entries left → Left left e after → bytes ≡ entries (low ++ e ∷ []) ++ after
over_entry low bytes rest left e after bytes_are rest_is l =
    let left_is : rest ≡ entry e ++ after = rest_is ∙ ap entries l.are
    ∙ ap (λ (t : List ℕ). entry e ++ t) (sym l.spelled) in
    let e_nil : entries (e ∷ []) ≡ entry e = append-nil (entry e) in
    bytes_are ∙ ap (λ (t : List ℕ). entries low ++ t) left_is ∙ sym (append_assoc (entries low) (entry e) after)
    ∙ ap (λ (t : List ℕ). (entries low ++ t) ++ after) (sym e_nil)
    ∙ ap (λ (t : List ℕ). t ++ after) (sym (entries_append low (e ∷ [])))

pub pass_on : (k : List ℕ) (es : List Entry) (bytes rest : List ℕ) (found : Option ℕ) (e : Entry) (after : List ℕ)
    → Passed k es bytes rest found → 0 < length rest → entry_at rest ≡ Some (e, after) → (compare e.key k ≡ Greater → ⊥)
    → Passed k es bytes after (Some e.word)
pass_on k es bytes rest found e after s long some n =
    let l : Left s.left e after = some_left rest s.left e after s.fits s.rest_is long some in
    record {
      low = s.low ++ e ∷ [];
      left = l.more;
      fits = l.fit;
      are = s.are ∙ ap (λ (t : List Entry). s.low ++ t) l.are ∙ sym (append_assoc s.low (e ∷ []) l.more);
      rest_is = l.spelled;
      bytes_are = over_entry s.low bytes rest s.left e after s.bytes_are s.rest_is l;
      last = (s.low, e, refl, refl, n);
    }

not_first : (k : List ℕ) (es left : List Entry) (e : Entry) (more : List Entry) → es ≡ left → left ≡ e ∷ more
    → Begins k es → compare e.key k ≡ Greater → ⊥
not_first k es left e more p q b = subst (λ (t : List Entry). Begins k t) (p ∙ q) b

-- the first entry can't be too high, and there is one
pub none_high : (k : List ℕ) (es : List Entry) (bytes rest : List ℕ) (e : Entry) (after : List ℕ)
    → Passed k es bytes rest None → Begins k es → 0 < length rest → entry_at rest ≡ Some (e, after)
    → compare e.key k ≡ Greater → ⊥
none_high k es bytes rest e after s b long some g =
    let l : Left s.left e after = some_left rest s.left e after s.fits s.rest_is long some in
    not_first k es s.left e l.more (s.are ∙ ap (λ (t : List Entry). t ++ s.left) s.last) l.are b g

pub none_end : (k : List ℕ) (es : List Entry) (bytes rest : List ℕ) → Passed k es bytes rest None → Begins k es
    → length rest ≤ 0 → ⊥
none_end k es bytes rest s b short =
    let n : s.left ≡ [] = none_more rest s.left s.rest_is short in
    subst (λ (t : List Entry). Begins k t) (s.are ∙ ap (λ (t : List Entry). t ++ s.left) s.last ∙ n) b

routed : (k : List ℕ) (es : List Entry) (bytes rest front : List ℕ) (w : ℕ) → (s : Passed k es bytes rest (Some w))
    → Ahead k s.left → ((f : List ℕ) → bytes ≡ f ++ rest → front ≡ f) → Route k es front w rest
routed k es bytes rest front w s ahead front_is =
    let t = s.last in
    record {
      low = t.0;
      here = t.1;
      high = s.left;
      are = s.are ∙ ap (λ (x : List Entry). x ++ s.left) t.2 ∙ append_assoc t.0 (t.1 ∷ []) s.left;
      word_is = t.3;
      from = t.4;
      ahead = ahead;
      front_is = front_is (entries s.low) s.bytes_are ∙ ap entries t.2;
      back_is = s.rest_is;
    }

pub routed_high : (k : List ℕ) (es : List Entry) (bytes rest front : List ℕ) (w : ℕ) (e : Entry) (after : List ℕ)
    → Passed k es bytes rest (Some w) → 0 < length rest → entry_at rest ≡ Some (e, after) → compare e.key k ≡ Greater
    → ((f : List ℕ) → bytes ≡ f ++ rest → front ≡ f) → Route k es front w rest
routed_high k es bytes rest front w e after s long some g front_is =
    let l : Left s.left e after = some_left rest s.left e after s.fits s.rest_is long some in
    routed k es bytes rest front w s (subst (λ (t : List Entry). Ahead k t) (sym l.are) (flip e.key k g)) front_is

pub routed_end : (k : List ℕ) (es : List Entry) (bytes rest front : List ℕ) (w : ℕ) → Passed k es bytes rest (Some w)
    → length rest ≤ 0 → ((f : List ℕ) → bytes ≡ f ++ rest → front ≡ f) → Route k es front w rest
routed_end k es bytes rest front w s short front_is =
    let n : s.left ≡ [] = none_more rest s.left s.rest_is short in
    routed k es bytes rest front w s (subst (λ (t : List Entry). Ahead k t) (sym n) tt) front_is
