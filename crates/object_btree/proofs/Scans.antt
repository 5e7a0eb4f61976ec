-- A scan for the place of a key.
use Rattle.std.proofs.Common.{◌≡◌, ℕ, ◌<◌, ◌≤◌, List, [], ◌∷◌, ◌++◌, length, Some, None, refl, sym, ap, ◌∙◌, append_assoc}
use Rattle.std.specs.List.{AllByRecursion}
use Rattle.std.specs.declared.cmp.Ordering.{Ordering}
use Rattle.std.specs.declared.cmp.Ordering.TheVariants.{Less, Equal, Greater}
use Rattle.std.proofs.lemmas.List.{append-nil}
use Rattle.object_view.specs.Layout.{Entry, IsEntry, entry, entries, entry_at}
use Rattle.object_view.specs.Keys.{compare}
use Rattle.object_view.specs.Keys.{by_order, lookup, inserted, removed}
use Rattle.object_btree.specs.Steps.{Place, Scan}
use Rattle.object_view.proofs.Layouts.{Left, some_left, none_more}

abbrev with : List ℕ → ℕ → Entry
with k v = record { key = k; word = v }

pub entries_append : (xs ys : List Entry) → entries (xs ++ ys) ≡ entries xs ++ entries ys
entries_append [] ys = refl
entries_append (x ∷ xs) ys = ap (λ (t : List ℕ). entry x ++ t) (entries_append xs ys)
    ∙ sym (append_assoc (entry x) (entries xs) (entries ys))

pub scan_start : (k : List ℕ) (es : List Entry) (bytes : List ℕ) → AllByRecursion IsEntry es → bytes ≡ entries es
    → Scan k es bytes bytes
scan_start k es bytes fits h =
    record {
      low = [];
      left = es;
      fits = fits;
      rest_is = h;
      bytes_are = refl;
      result = λ v. refl;
      gone = refl;
      old =
          refl;
    }

pub scan_on : (k : List ℕ) (es : List Entry) (bytes rest : List ℕ) (e : Entry) (after : List ℕ) → Scan k es bytes rest
    → 0 < length rest → entry_at rest ≡ Some (e, after) → compare e.key k ≡ Less → Scan k es bytes after
scan_on k es bytes rest e after s long some less =
    let l : Left s.left e after = some_left rest s.left e after s.fits s.rest_is long some in
    let left_is : rest ≡ entry e ++ after = s.rest_is ∙ ap entries l.are
    ∙ ap (λ (t : List ℕ). entry e ++ t) (sym l.spelled) in
    let e_nil : entries (e ∷ []) ≡ entry e = append-nil (entry e) in
    record {
      low = s.low ++ e ∷ [];
      left = l.more;
      fits = l.fit;
      rest_is = l.spelled;
      bytes_are = s.bytes_are ∙ ap (λ (t : List ℕ). entries s.low ++ t) left_is
          ∙ sym (append_assoc (entries s.low) (entry e) after)
          ∙ ap (λ (t : List ℕ). (entries s.low ++ t) ++ after) (sym e_nil)
          ∙ ap (λ (t : List ℕ). t ++ after) (sym (entries_append s.low (e ∷ [])));
      result = λ v. s.result v ∙ ap (λ (t : List Entry). s.low ++ inserted k v t) l.are
          ∙ ap (λ (o : Ordering). s.low ++ by_order o (e ∷ inserted k v l.more) (with k v ∷ l.more)
          (with k v ∷ e ∷ l.more)) less ∙ sym (append_assoc s.low (e ∷ []) (inserted k v l.more));
      gone = s.gone ∙ ap (λ (t : List Entry). s.low ++ removed k t) l.are
          ∙ ap (λ (o : Ordering). s.low ++ by_order o (e ∷ removed k l.more) l.more (e ∷ l.more)) less
          ∙ sym (append_assoc s.low (e ∷ []) (removed k l.more));
      old = s.old ∙ ap (lookup k) l.are ∙ ap (λ (o : Ordering). by_order o (lookup k l.more) (Some e.word) None) less;
    }

pub placed_equal : (k : List ℕ) (es : List Entry) (bytes rest front : List ℕ) (e : Entry) (after : List ℕ)
    → Scan k es bytes rest → 0 < length rest → entry_at rest ≡ Some (e, after) → compare e.key k ≡ Equal
    → ((f : List ℕ) → bytes ≡ f ++ rest → front ≡ f) → Place k es front after (Some e.word)
placed_equal k es bytes rest front e after s long some eq front_is =
    let l : Left s.left e after = some_left rest s.left e after s.fits s.rest_is long some in
    record {
      low = s.low;
      high = l.more;
      front_is = front_is (entries s.low) s.bytes_are;
      back_is = l.spelled;
      result = λ v. s.result v ∙ ap (λ (t : List Entry). s.low ++ inserted k v t) l.are
          ∙ ap (λ (o : Ordering). s.low ++ by_order o (e ∷ inserted k v l.more) (with k v ∷ l.more)
          (with k v ∷ e ∷ l.more)) eq;
      gone = s.gone ∙ ap (λ (t : List Entry). s.low ++ removed k t) l.are
          ∙ ap (λ (o : Ordering). s.low ++ by_order o (e ∷ removed k l.more) l.more (e ∷ l.more)) eq;
      old = sym (s.old ∙ ap (lookup k) l.are
          ∙ ap (λ (o : Ordering). by_order o (lookup k l.more) (Some e.word) None) eq);
    }

pub placed_greater : (k : List ℕ) (es : List Entry) (bytes rest front : List ℕ) (e : Entry) (after : List ℕ)
    → Scan k es bytes rest → 0 < length rest → entry_at rest ≡ Some (e, after) → compare e.key k ≡ Greater
    → ((f : List ℕ) → bytes ≡ f ++ rest → front ≡ f) → Place k es front rest None
placed_greater k es bytes rest front e after s long some gt front_is =
    let l : Left s.left e after = some_left rest s.left e after s.fits s.rest_is long some in
    record {
      low = s.low;
      high = s.left;
      front_is = front_is (entries s.low) s.bytes_are;
      back_is = s.rest_is;
      result = λ v. s.result v ∙ ap (λ (t : List Entry). s.low ++ inserted k v t) l.are
          ∙ ap (λ (o : Ordering). s.low ++ by_order o (e ∷ inserted k v l.more) (with k v ∷ l.more)
          (with k v ∷ e ∷ l.more)) gt ∙ ap (λ (t : List Entry). s.low ++ with k v ∷ t) (sym l.are);
      gone = s.gone ∙ ap (λ (t : List Entry). s.low ++ removed k t) l.are
          ∙ ap (λ (o : Ordering). s.low ++ by_order o (e ∷ removed k l.more) l.more (e ∷ l.more)) gt
          ∙ ap (λ (t : List Entry). s.low ++ t) (sym l.are);
      old = sym (s.old ∙ ap (lookup k) l.are
          ∙ ap (λ (o : Ordering). by_order o (lookup k l.more) (Some e.word) None) gt);
    }

pub placed_last : (k : List ℕ) (es : List Entry) (bytes rest front : List ℕ) → Scan k es bytes rest → length rest ≤ 0
    → ((f : List ℕ) → bytes ≡ f ++ rest → front ≡ f) → Place k es front rest None
placed_last k es bytes rest front s short front_is =
    let none : s.left ≡ [] = none_more rest s.left s.rest_is short in
    record {
      low = s.low;
      high = [];
      front_is = front_is (entries s.low) s.bytes_are;
      back_is = s.rest_is ∙ ap entries none;
      result = λ v. s.result v ∙ ap (λ (t : List Entry). s.low ++ inserted k v t) none;
      gone = s.gone ∙ ap (λ (t : List Entry). s.low ++ removed k t) none;
      old = sym (s.old ∙ ap (lookup k) none);
    }
