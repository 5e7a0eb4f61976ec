-- Ordered lists of entries as functions of their keys, where tied keys are one key.
use Rattle.std.proofs.Common.{◌≡◌, List, [], ◌∷◌, Bool, true, false, cond, filter, Option, Some, None, sym, refl, ap, ◌∙◌, subst, true≢false, Ordering, Less, Equal, Greater, is_eq}
use Rattle.std.specs.Cmp.{IsTotalOrder, tied_itself}
use Rattle.std.specs.Ordering.{match_ordering, ordering_reverse}
use Rattle.std.specs.Map.{keys_of}
use Rattle.std.specs.BTreeMap.{is_at}
use Rattle.std.specs.List.{AllByRecursion}
use Rattle.std.specs.List.Sorted.{IsStrictlySortedBy}
use Rattle.std.proofs.lemmas.Map.Lookups.{CmpEqualImpliesEq}
use Rattle.std.proofs.lemmas.Map.{lookup-none}
use Rattle.std.proofs.lemmas.Map.Entries.{none_below_head}
use Rattle.a1_base.specs.Maps.{at, with_entry, IsOrdered}

is_level : (r : Ordering) → is_eq r ≡ true → r ≡ Equal
is_level Less e = cc
is_level Equal e = refl
is_level Greater e = cc

pub all_more : {K : Type 0} (P Q : K → Type 0) → ((k : K) → P k → Q k) → (ks : List K) → AllByRecursion P ks → AllByRecursion Q ks
all_more P Q f [] all = tt
all_more P Q f (k ∷ ks) all = (f k all.0, all_more P Q f ks all.1)

either_way : {X : Type 0} (b : Bool) (z : X) → z ≡ cond b z z
either_way true z = refl
either_way false z = refl

module _ {K : Type 0} (R : K → K → Ordering) (o : IsTotalOrder R) where
  pub itself : (k : K) → is_eq (R k k) ≡ true
  itself k = ap is_eq (tied_itself o k)

  pub one_key : CmpEqualImpliesEq R → (q k : K) → is_eq (R q k) ≡ true → q ≡ k
  one_key exact q k e = exact q k (is_level (R q k) e)

module _ {K X : Type 0} (R : K → K → Ordering) (o : IsTotalOrder R) (exact : CmpEqualImpliesEq R) where
  -- ---- look-ups

  same_first : (b c : Bool) (x y : X) (z : Option X) → b ≡ c → cond c (Some x) z ≡ cond b (Some x) (cond c (Some y) z)
  same_first true true x y z e = refl
  same_first true false x y z e = cc
  same_first false true x y z e = cc
  same_first false false x y z e = refl

  swapped : (b c : Bool) (x y : X) (z : Option X) → (b ≡ true → c ≡ true → ⊥) → cond c (Some y) (cond b (Some x) z) ≡ cond b (Some x) (cond c (Some y) z)
  swapped true true x y z apart = absurd (apart refl refl)
  swapped true false x y z apart = refl
  swapped false true x y z apart = refl
  swapped false false x y z apart = refl

  -- behind an insertion
  pub at_with : (q k : K) (x : X) (es : List (K × X)) → at R q (with_entry R k x es) ≡ cond (is_eq (R q k)) (Some x) (at R q es)
  at_with q k x [] = refl
  at_with q k x (e ∷ es) = by (at_with q k x es) (R k e.0) refl where
    by : at R q (with_entry R k x es) ≡ cond (is_eq (R q k)) (Some x) (at R q es) → (r : Ordering) → R k e.0 ≡ r → at R q (match_ordering r ((k, x) ∷ e ∷ es) ((e.0, x) ∷ es) (e ∷ with_entry R k x es)) ≡ cond (is_eq (R q k)) (Some x) (at R q (e ∷ es))
    by ih Less p = refl
    by ih Equal p = same_first (is_eq (R q k)) (is_eq (R q e.0)) x e.1 (at R q es) (ap (λ z. is_eq (R q z)) (exact k e.0 p))
    by ih Greater p = ap (λ z. cond (is_eq (R q e.0)) (Some e.1) z) ih
        ∙ swapped (is_eq (R q k)) (is_eq (R q e.0)) x e.1 (at R q es)
        (λ a b. let same : k ≡ e.0 = sym (one_key R o exact q k a) ∙ one_key R o exact q e.0 b in
        let level : R k e.0 ≡ Equal = subst (λ z. R k z ≡ Equal) same (tied_itself o k) in cc)

  both_first : (b c p : Bool) (x : X) (z : Option X) → (b ≡ true → p ≡ c) → cond p (cond b (Some x) (cond c z None)) (cond c z None) ≡ cond c (cond b (Some x) z) None
  both_first true true true x z e = refl
  both_first true true false x z e = absurd (true≢false (sym (e refl)))
  both_first true false true x z e = absurd (true≢false (e refl))
  both_first true false false x z e = refl
  both_first false true true x z e = refl
  both_first false true false x z e = refl
  both_first false false true x z e = refl
  both_first false false false x z e = refl

  -- behind a filter of keys
  pub at_filter : (p : K → Bool) (q : K) (es : List (K × X)) → at R q (filter (λ e. p e.0) es) ≡ cond (p q) (at R q es) None
  at_filter p q [] = either_way (p q) None
  at_filter p q (e ∷ es) = by (p e.0)
      ∙ (ap (λ z. cond (p e.0) (cond (is_eq (R q e.0)) (Some e.1) z) z) (at_filter p q es)
      ∙ both_first (is_eq (R q e.0)) (p q) (p e.0) e.1 (at R q es) (λ h. ap p (sym (one_key R o exact q e.0 h)))) where
        by : (b : Bool) → at R q (cond b (e ∷ filter (λ e. p e.0) es) (filter (λ e. p e.0) es))
            ≡ cond b (cond (is_eq (R q e.0)) (Some e.1) (at R q (filter (λ e. p e.0) es))) (at R q (filter (λ e. p e.0) es))
        by true = refl
        by false = refl

  -- ---- order stays

  all_filter : (P : K → Type 0) (p : K × X → Bool) (es : List (K × X)) → AllByRecursion P (keys_of es) → AllByRecursion P (keys_of (filter p es))
  all_filter P p [] all = tt
  all_filter P p (e ∷ es) all = by (all_filter P p es all.1) (p e) where
    by : AllByRecursion P (keys_of (filter p es)) → (b : Bool) → AllByRecursion P (keys_of (cond b (e ∷ filter p es) (filter p es)))
    by ih true = (all.0, ih)
    by ih false = ih

  pub ordered_filter : (p : K × X → Bool) (es : List (K × X)) → IsOrdered R es → IsOrdered R (filter p es)
  unfolding IsStrictlySortedBy
  ordered_filter p [] s = tt
  ordered_filter p (e ∷ es) s = by (ordered_filter p es s.1) (p e) where
    by : IsOrdered R (filter p es) → (b : Bool) → IsOrdered R (cond b (e ∷ filter p es) (filter p es))
    by ih true = (all_filter (λ y. R e.0 y ≡ Less) p es s.0, ih)
    by ih false = ih

  pub all_with : (P : K → Type 0) (k : K) (x : X) (es : List (K × X)) → P k → AllByRecursion P (keys_of es) → AllByRecursion P (keys_of (with_entry R k x es))
  all_with P k x [] here all = (here, tt)
  all_with P k x (e ∷ es) here all = by (all_with P k x es here all.1) (R k e.0) where
    by : AllByRecursion P (keys_of (with_entry R k x es)) → (r : Ordering) → AllByRecursion P (keys_of (match_ordering r ((k, x) ∷ e ∷ es) ((e.0, x) ∷ es) (e ∷ with_entry R k x es)))
    by ih Less = (here, all)
    by ih Equal = all
    by ih Greater = (all.0, ih)

  pub ordered_with : (k : K) (x : X) (es : List (K × X)) → IsOrdered R es → IsOrdered R (with_entry R k x es)
  unfolding IsStrictlySortedBy
  ordered_with k x [] s = (tt, tt)
  ordered_with k x (e ∷ es) s = by (ordered_with k x es s.1) (R k e.0) refl where
    by : IsOrdered R (with_entry R k x es) → (r : Ordering) → R k e.0 ≡ r → IsOrdered R (match_ordering r ((k, x) ∷ e ∷ es) ((e.0, x) ∷ es) (e ∷ with_entry R k x es))
    by ih Less p = ((p, all_more (λ y. R e.0 y ≡ Less) (λ y. R k y ≡ Less) (λ y below. o.trans k e.0 y p below) (keys_of es) s.0), s)
    by ih Equal p = s
    by ih Greater p = (all_with (λ y. R e.0 y ≡ Less) k x es (o.antisymm e.0 k ∙ ap ordering_reverse p) s.0, ih)

  -- ---- nothing below the first, and nothing twice

  none_below : (q : K) (e : K × X) (es : List (K × X)) → IsOrdered R (e ∷ es) → R q e.0 ≡ Less → at R q (e ∷ es) ≡ None
  none_below q e es s below = lookup-none (is_at (R q)) (e ∷ es) (none_below_head o q e es s below)

  none_over : (q : K) (es : List (K × X)) → AllByRecursion (λ y. R q y ≡ Less) (keys_of es) → at R q es ≡ None
  none_over q [] all = refl
  none_over q (e ∷ es) all = ap (λ r. cond (is_eq r) (Some e.1) (at R q es)) all.0 ∙ none_over q es all.1

  pub none_again : (e : K × X) (es : List (K × X)) → IsOrdered R (e ∷ es) → at R e.0 es ≡ None
  unfolding IsStrictlySortedBy
  none_again e es s = none_over e.0 es s.0

  pub ordered_rest : (e : K × X) (es : List (K × X)) → IsOrdered R (e ∷ es) → IsOrdered R es
  unfolding IsStrictlySortedBy
  ordered_rest e es s = s.1

  at_self : (e : K × X) (es : List (K × X)) → at R e.0 (e ∷ es) ≡ Some e.1
  at_self e es = ap (λ b. cond b (Some e.1) (at R e.0 es)) (itself R o e.0)

  -- lists in order with the same look-ups are the same
  pub same_lists : (xs ys : List (K × X)) → IsOrdered R xs → IsOrdered R ys → ((q : K) → at R q xs ≡ at R q ys) → xs ≡ ys
  same_lists [] [] s t h = refl
  same_lists [] (y ∷ ys) s t h = let a = h y.0 in let b = at_self y ys in cc
  same_lists (x ∷ xs) [] s t h = let a = h x.0 in let b = at_self x xs in cc
  same_lists (x ∷ xs) (y ∷ ys) s t h = by (same_lists xs ys) (R x.0 y.0) refl where
    tail : (z : K × X) (zs : List (K × X)) → IsOrdered R (z ∷ zs) → (q : K) → at R q zs ≡ cond (is_eq (R q z.0)) None (at R q (z ∷ zs))
    tail z zs u q = at_by (is_eq (R q z.0)) refl where
      at_by : (b : Bool) → is_eq (R q z.0) ≡ b → at R q zs ≡ cond b None (cond b (Some z.1) (at R q zs))
      at_by true e = subst (λ k. at R k zs ≡ None) (sym (one_key R o exact q z.0 e)) (none_again z zs u)
      at_by false e = refl

    by : (IsOrdered R xs → IsOrdered R ys → ((q : K) → at R q xs ≡ at R q ys) → xs ≡ ys) → (r : Ordering) → R x.0 y.0 ≡ r → x ∷ xs ≡ y ∷ ys
    by ih Less p = let a = at_self x xs in let b = h x.0 in let c = none_below x.0 y ys t p in cc
    by ih Greater p = let a = at_self y ys in let b = h y.0 in let c = none_below y.0 x xs s (o.antisymm y.0 x.0 ∙ ap ordering_reverse p) in cc
    by ih Equal p =
        let k : x.0 ≡ y.0 = exact x.0 y.0 p in
        let v : Some x.1 ≡ Some y.1 = sym (at_self x xs) ∙ (h x.0 ∙ (ap (λ q. at R q (y ∷ ys)) k ∙ at_self y ys)) in
        let w : x.1 ≡ y.1 = cc in
        let more : xs ≡ ys = ih (ordered_rest x xs s) (ordered_rest y ys t)
        (λ q. tail x xs s q ∙ (ap (λ z. cond (is_eq (R q x.0)) None z) (h q) ∙ (ap (λ z. cond (is_eq (R q z)) None (at R q (y ∷ ys))) k ∙ sym (tail y ys t q)))) in
        λ i. (k i, w i) ∷ more i
