-- Small lemmas on removal.
use Rattle.std.proofs.Common.{◌≡◌, ℕ, ◌+◌, ◌≤◌, ◌<◌, List, [], ◌∷◌, ◌++◌, length, Option, Some, None, refl, sym, ap, arith}
use Rattle.std.specs.declared.cmp.Ordering.{Ordering}
use Rattle.std.specs.declared.cmp.Ordering.TheVariants.{Less, Equal, Greater}
use Rattle.std.specs.List.{AllByRecursion}
use Rattle.object_view.specs.Layout.{Entry, IsEntry}
use Rattle.object_view.specs.Keys.{compare}
use Rattle.object_view.specs.Keys.{by_order, lookup, removed}

cons_head : (a b : Entry) (xs ys : List Entry) → a ∷ xs ≡ b ∷ ys → a ≡ b
cons_head a b xs ys h = cc

cons_rest : (a b : Entry) (xs ys : List Entry) → a ∷ xs ≡ b ∷ ys → xs ≡ ys
cons_rest a b xs ys h = cc

two_one : (f e x : Entry) → f ∷ e ∷ [] ≡ x ∷ [] → ⊥
two_one f e x h = cc

three_one : (f g : Entry) (r : List Entry) (x : Entry) → f ∷ g ∷ r ≡ x ∷ [] → ⊥
three_one f g r x h = cc

pub record OneOnly (q : List Entry) (e x : Entry) : Type 0 where
  pub none : q ≡ []
  pub same : e ≡ x

pub one_only : (q : List Entry) (e x : Entry) → q ++ e ∷ [] ≡ x ∷ [] → OneOnly q e x
one_only [] e x h = record { none = refl; same = cons_head e x [] [] h }
one_only (f ∷ []) e x h = absurd (two_one f e x h)
one_only (f ∷ f2 ∷ q) e x h = absurd (three_one f f2 (q ++ e ∷ []) x h)

pub record MoreOf (q : List Entry) (e x : Entry) (more : List Entry) : Type 0 where
  pub rest : List Entry
  pub are : q ≡ x ∷ rest
  pub more_is : more ≡ rest ++ e ∷ []

two_one2 : (e x y : Entry) (ys : List Entry) → e ∷ [] ≡ x ∷ y ∷ ys → ⊥
two_one2 e x y ys h = cc

pub more_of : (q : List Entry) (e x : Entry) (more : List Entry) → q ++ e ∷ [] ≡ x ∷ more → 0 < length more
    → MoreOf q e x more
more_of [] e x [] h some = absurd (omega arith)
more_of [] e x (y ∷ ys) h some = absurd (two_one2 e x y ys h)
more_of (f ∷ q) e x more h some =
    record {
      rest = q;
      are = ap (λ t. t ∷ q) (cons_head f x (q ++ e ∷ []) more h);
      more_is =
          sym (cons_rest f x (q ++ e ∷ []) more h);
    }

some_no : (w : ℕ) → ◌≡◌ {A = Option ℕ} (Some w) None → ⊥
some_no w h = cc

same_order : (o : Ordering) (x : Entry) (xs ys : List Entry) (rest : Option ℕ)
    → by_order o rest (Some x.word) None ≡ None → (rest ≡ None → ys ≡ xs) → by_order o (x ∷ ys) xs (x ∷ xs) ≡ x ∷ xs
same_order Less x xs ys rest h more = ap (λ t. x ∷ t) (more h)
same_order Equal x xs ys rest h more = absurd (some_no x.word h)
same_order Greater x xs ys rest h more = refl

pub not_found : (k : List ℕ) (es : List Entry) → lookup k es ≡ None → removed k es ≡ es
not_found k [] h = refl
not_found k (x ∷ xs) h = same_order (compare x.key k) x xs (removed k xs) (lookup k xs) h (λ n. not_found k xs n)

-- at most one entry less
pub record Shorter (old new : ℕ) : Type 0 where
  pub loose : old ≤ new + 1
  pub few : new ≤ old

shorter_order : (o : Ordering) (x : Entry) (xs ys : List Entry) → Shorter (length xs) (length ys)
    → Shorter (length (x ∷ xs)) (length (by_order o (x ∷ ys) xs (x ∷ xs)))
shorter_order Less x xs ys l = let a = l.loose in let b = l.few in
    record { loose = omega (arith, a); few = omega (arith, b) }
shorter_order Equal x xs ys l = record { loose = omega arith; few = omega arith }
shorter_order Greater x xs ys l = record { loose = omega arith; few = omega arith }

pub shorter : (k : List ℕ) (es : List Entry) → Shorter (length es) (length (removed k es))
shorter k [] = record { loose = omega arith; few = omega arith }
shorter k (x ∷ xs) = shorter_order (compare x.key k) x xs (removed k xs) (shorter k xs)

fit_order : (o : Ordering) (x : Entry) (xs ys : List Entry) → AllByRecursion IsEntry (x ∷ xs)
    → AllByRecursion IsEntry ys → AllByRecursion IsEntry (by_order o (x ∷ ys) xs (x ∷ xs))
fit_order Less x xs ys f g = (f.0, g)
fit_order Equal x xs ys f g = f.1
fit_order Greater x xs ys f g = f

pub fits_take : (k : List ℕ) (es : List Entry) → AllByRecursion IsEntry es → AllByRecursion IsEntry (removed k es)
fits_take k [] f = tt
fits_take k (x ∷ xs) f = fit_order (compare x.key k) x xs (removed k xs) f (fits_take k xs f.1)
