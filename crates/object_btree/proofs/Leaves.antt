-- A pair put into a leaf, or taken out of it.
use Rattle.std.proofs.Common.{◌≡◌, ℕ, ◌+◌, ◌≤◌, ◌<◌, List, [], ◌∷◌, ◌++◌, length, Option, Some, None, refl, sym, ap, ◌∙◌, arith}
use Rattle.std.specs.declared.cmp.Ordering.{Ordering}
use Rattle.std.specs.declared.cmp.Ordering.TheVariants.{Less, Equal, Greater}
use Rattle.std.specs.List.{AllByRecursion}
use Rattle.object_view.specs.Layout.{Entry, IsEntry, entry, entries}
use Rattle.object_view.specs.Keys.{compare}
use Rattle.object_view.specs.Keys.{by_order, lookup, inserted}
use Rattle.object_btree.proofs.Scans.{entries_append}

fits_order : (o : Ordering) (x : Entry) (put : List Entry) (m : Entry) (xs : List Entry) → IsEntry m
    → AllByRecursion IsEntry (x ∷ xs) → AllByRecursion IsEntry put
    → AllByRecursion IsEntry (by_order o (x ∷ put) (m ∷ xs) (m ∷ x ∷ xs))
fits_order Less x put m xs n f p = (f.0, p)
fits_order Equal x put m xs n f p = (n, f.1)
fits_order Greater x put m xs n f p = (n, f)

pub fits_put : (k : List ℕ) (v : ℕ) (xs : List Entry) → IsEntry (record { key = k; word = v })
    → AllByRecursion IsEntry xs → AllByRecursion IsEntry (inserted k v xs)
fits_put k v [] n f = (n, tt)
fits_put k v (x ∷ xs) n f =
    fits_order (compare x.key k) x (inserted k v xs) (record { key = k; word = v }) xs n f (fits_put k v xs n f.1)

pub record Longer (old new : ℕ) : Type 0 where
  pub same : old ≤ new
  pub one : new ≤ old + 1

longer_order : (o : Ordering) (x : Entry) (put : List Entry) (m : Entry) (xs : List Entry)
    → Longer (length xs) (length put) → Longer (length (x ∷ xs)) (length (by_order o (x ∷ put) (m ∷ xs) (m ∷ x ∷ xs)))
longer_order Less x put m xs l = let a = l.same in let b = l.one in
    record { same = omega (arith, a); one = omega (arith, b) }
longer_order Equal x put m xs l = record { same = omega arith; one = omega arith }
longer_order Greater x put m xs l = record { same = omega arith; one = omega arith }

pub longer_put : (k : List ℕ) (v : ℕ) (xs : List Entry) → Longer (length xs) (length (inserted k v xs))
longer_put k v [] = record { same = omega arith; one = omega arith }
longer_put k v (x ∷ xs) =
    longer_order (compare x.key k) x (inserted k v xs) (record { key = k; word = v }) xs (longer_put k v xs)

new_order : (o : Ordering) (x : Entry) (put : List Entry) (m : Entry) (xs : List Entry) (rest : Option ℕ)
    → (length xs < length put → rest ≡ None)
    → length (x ∷ xs) < length (by_order o (x ∷ put) (m ∷ xs) (m ∷ x ∷ xs)) → by_order o rest (Some x.word) None ≡ None
new_order Less x put m xs rest more h = more (omega (arith, h))
new_order Equal x put m xs rest more h = absurd (omega (arith, h))
new_order Greater x put m xs rest more h = refl

-- where a pair came on top, its key is new
pub new_key : (k : List ℕ) (v : ℕ) (xs : List Entry) → length xs < length (inserted k v xs) → lookup k xs ≡ None
new_key k v [] h = refl
new_key k v (x ∷ xs) h = new_order (compare x.key k) x (inserted k v xs) (record { key = k; word = v }) xs (lookup k xs)
    (λ l. new_key k v xs l) h

-- the bytes of entries with one more between them
pub spell_mid : (low : List Entry) (e : Entry) (high : List Entry) (front back : List ℕ) → front ≡ entries low
    → back ≡ entries high → front ++ (entry e ++ back) ≡ entries (low ++ e ∷ high)
spell_mid low e high front back f b = ap (λ (t : List ℕ). t ++ (entry e ++ back)) f
    ∙ ap (λ (t : List ℕ). entries low ++ (entry e ++ t)) b ∙ sym (entries_append low (e ∷ high))
