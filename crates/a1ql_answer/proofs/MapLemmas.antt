-- Ordered lists of entries as functions of their keys, where tied keys are one key.
use Rattle.std.proofs.Common.{◌≡◌, List, [], ◌∷◌, Bool, true, false, cond, filter, Option, Some, None, sym, refl, ap, ◌∙◌, subst, Ordering, Less, Equal, Greater, is_eq}
use Rattle.std.specs.Cmp.{IsTotalOrder, tied_itself}
use Rattle.std.specs.Ordering.{ordering_reverse}
use Rattle.std.specs.Map.{keys_of}
use Rattle.std.specs.BTreeMap.{is_at}
use Rattle.std.specs.List.{AllByRecursion}
use Rattle.std.specs.List.Sorted.{IsStrictlySortedBy}
use Rattle.std.proofs.lemmas.Map.Lookups.{CmpEqualImpliesEq}
use Rattle.std.proofs.lemmas.Map.{lookup-none}
use Rattle.std.proofs.lemmas.Map.Entries.{none_below_head}
use Rattle.a1_base.specs.Maps.{at, IsOrdered}

pub is_level : (r : Ordering) → is_eq r ≡ true → r ≡ Equal
is_level Less e = cc
is_level Equal e = refl
is_level Greater e = cc

module _ {K : Type 0} (R : K → K → Ordering) (o : IsTotalOrder R) where
  pub itself : (k : K) → is_eq (R k k) ≡ true
  itself k = ap is_eq (tied_itself o k)

  pub one_key : CmpEqualImpliesEq R → (q k : K) → is_eq (R q k) ≡ true → q ≡ k
  one_key exact q k e = exact q k (is_level (R q k) e)

-- the value, where it passes the test
abbrev pub keep : {X : Type 0} → (X → Bool) → Option X → Option X
keep p None = None
keep p (Some x) = cond (p x) (Some x) None

pub kept : {X : Type 0} (p : X → Bool) (o : Option X) (x : X) → keep p o ≡ Some x → o ≡ Some x
kept p None x e = e
kept p (Some y) x e = by (p y) e where
  by : (b : Bool) → cond b (Some y) None ≡ Some x → Some y ≡ Some x
  by true e = e
  by false e = cc

module _ {K X : Type 0} (R : K → K → Ordering) (o : IsTotalOrder R) (exact : CmpEqualImpliesEq R) where
  -- ---- order stays

  all_filter : (P : K → Type 0) (p : K × X → Bool) (es : List (K × X)) → AllByRecursion P (keys_of es) → AllByRecursion P (keys_of (filter p es))
  all_filter P p [] all = tt
  all_filter P p (e ∷ es) all = by (all_filter P p es all.1) (p e) where
    by : AllByRecursion P (keys_of (filter p es)) → (b : Bool) → AllByRecursion P (keys_of (cond b (e ∷ filter p es) (filter p es)))
    by ih true = (all.0, ih)
    by ih false = ih

  pub ordered_filter : (p : K × X → Bool) (es : List (K × X)) → IsOrdered R es → IsOrdered R (filter p es)
  unfolding IsStrictlySortedBy
  ordered_filter p [] s = tt
  ordered_filter p (e ∷ es) s = by (ordered_filter p es s.1) (p e) where
    by : IsOrdered R (filter p es) → (b : Bool) → IsOrdered R (cond b (e ∷ filter p es) (filter p es))
    by ih true = (all_filter (λ y. R e.0 y ≡ Less) p es s.0, ih)
    by ih false = ih

  -- ---- nothing below the first, and nothing twice

  none_below : (q : K) (e : K × X) (es : List (K × X)) → IsOrdered R (e ∷ es) → R q e.0 ≡ Less → at R q (e ∷ es) ≡ None
  none_below q e es s below = lookup-none (is_at (R q)) (e ∷ es) (none_below_head o q e es s below)

  none_over : (q : K) (es : List (K × X)) → AllByRecursion (λ y. R q y ≡ Less) (keys_of es) → at R q es ≡ None
  none_over q [] all = refl
  none_over q (e ∷ es) all = ap (λ r. cond (is_eq r) (Some e.1) (at R q es)) all.0 ∙ none_over q es all.1

  none_again : (e : K × X) (es : List (K × X)) → IsOrdered R (e ∷ es) → at R e.0 es ≡ None
  unfolding IsStrictlySortedBy
  none_again e es s = none_over e.0 es s.0

  ordered_rest : (e : K × X) (es : List (K × X)) → IsOrdered R (e ∷ es) → IsOrdered R es
  unfolding IsStrictlySortedBy
  ordered_rest e es s = s.1

  at_self : (e : K × X) (es : List (K × X)) → at R e.0 (e ∷ es) ≡ Some e.1
  at_self e es = ap (λ b. cond b (Some e.1) (at R e.0 es)) (itself R o e.0)

  -- ---- look-ups

  -- lists in order with the same look-ups are the same
  pub same_lists : (xs ys : List (K × X)) → IsOrdered R xs → IsOrdered R ys → ((q : K) → at R q xs ≡ at R q ys) → xs ≡ ys
  same_lists [] [] s t h = refl
  same_lists [] (y ∷ ys) s t h = let a = h y.0 in let b = at_self y ys in cc
  same_lists (x ∷ xs) [] s t h = let a = h x.0 in let b = at_self x xs in cc
  same_lists (x ∷ xs) (y ∷ ys) s t h = by (same_lists xs ys) (R x.0 y.0) refl where
    tail : (z : K × X) (zs : List (K × X)) → IsOrdered R (z ∷ zs) → (q : K) → at R q zs ≡ cond (is_eq (R q z.0)) None (at R q (z ∷ zs))
    tail z zs u q = at_by (is_eq (R q z.0)) refl where
      at_by : (b : Bool) → is_eq (R q z.0) ≡ b → at R q zs ≡ cond b None (cond b (Some z.1) (at R q zs))
      at_by true e = subst (λ k. at R k zs ≡ None) (sym (one_key R o exact q z.0 e)) (none_again z zs u)
      at_by false e = refl

    by : (IsOrdered R xs → IsOrdered R ys → ((q : K) → at R q xs ≡ at R q ys) → xs ≡ ys) → (r : Ordering) → R x.0 y.0 ≡ r → x ∷ xs ≡ y ∷ ys
    by ih Less p = let a = at_self x xs in let b = h x.0 in let c = none_below x.0 y ys t p in cc
    by ih Greater p = let a = at_self y ys in let b = h y.0 in let c = none_below y.0 x xs s (o.antisymm y.0 x.0 ∙ ap ordering_reverse p) in cc
    by ih Equal p =
        let k : x.0 ≡ y.0 = exact x.0 y.0 p in
        let v : Some x.1 ≡ Some y.1 = sym (at_self x xs) ∙ (h x.0 ∙ (ap (λ q. at R q (y ∷ ys)) k ∙ at_self y ys)) in
        let w : x.1 ≡ y.1 = cc in
        let more : xs ≡ ys = ih (ordered_rest x xs s) (ordered_rest y ys t)
        (λ q. tail x xs s q ∙ (ap (λ z. cond (is_eq (R q x.0)) None z) (h q) ∙ (ap (λ z. cond (is_eq (R q z)) None (at R q (y ∷ ys))) k ∙ sym (tail y ys t q)))) in
        λ i. (k i, w i) ∷ more i

  -- behind a filter
  pub at_keep : (p : K × X → Bool) (q : K) (es : List (K × X)) → IsOrdered R es → at R q (filter p es) ≡ keep (λ x. p (q, x)) (at R q es)
  at_keep p q [] s = refl
  at_keep p q (e ∷ es) s = by (p e) refl (is_eq (R q e.0)) refl (at_keep p q es (ordered_rest e es s)) where
    by : (b : Bool) → p e ≡ b → (c : Bool) → is_eq (R q e.0) ≡ c → at R q (filter p es) ≡ keep (λ x. p (q, x)) (at R q es)
        → at R q (cond b (e ∷ filter p es) (filter p es)) ≡ keep (λ x. p (q, x)) (cond c (Some e.1) (at R q es))
    by true f true h ih = ap (λ z. cond z (Some e.1) (at R q (filter p es))) h ∙ sym (ap (λ z. cond z (Some e.1) None) (ap (λ k. p (k, e.1)) (one_key R o exact q e.0 h) ∙ f))
    by true f false h ih = ap (λ z. cond z (Some e.1) (at R q (filter p es))) h ∙ ih
    by false f true h ih =
        let none : at R q es ≡ None = subst (λ k. at R k es ≡ None) (sym (one_key R o exact q e.0 h)) (none_again e es s) in
        ih ∙ (ap (λ z. keep (λ x. p (q, x)) z) none ∙ sym (ap (λ z. cond z (Some e.1) None) (ap (λ k. p (k, e.1)) (one_key R o exact q e.0 h) ∙ f)))
    by false f false h ih = ih

  -- a list that has all that pass, and nothing else, gives the same filter
  pub narrowed : (p : K × X → Bool) (xs ys : List (K × X)) → IsOrdered R xs → IsOrdered R ys
      → ((q : K) (x : X) → at R q xs ≡ Some x → at R q ys ≡ Some x) → ((q : K) (x : X) → at R q ys ≡ Some x → p (q, x) ≡ true → at R q xs ≡ Some x)
      → filter p xs ≡ filter p ys
  narrowed p xs ys s t within covers =
      same_lists (filter p xs) (filter p ys) (ordered_filter p xs s) (ordered_filter p ys t)
      (λ q. at_keep p q xs s ∙ (by q (at R q xs) refl (at R q ys) refl ∙ sym (at_keep p q ys t))) where
        absent : (q : K) (y : X) → at R q xs ≡ None → at R q ys ≡ Some y → (b : Bool) → p (q, y) ≡ b → None ≡ cond b (Some y) None
        absent q y f g true h = let there = covers q y g h in absurd cc
        absent q y f g false h = refl

        by : (q : K) (a : Option X) → at R q xs ≡ a → (b : Option X) → at R q ys ≡ b → keep (λ x. p (q, x)) a ≡ keep (λ x. p (q, x)) b
        by q (Some x) f b g = ap (λ z. keep (λ y. p (q, y)) z) (sym (within q x f) ∙ g)
        by q None f None g = refl
        by q None f (Some y) g = absent q y f g (p (q, y)) refl
