-- Whether some entry of a list passes a test.
use Rattle.std.proofs.Common.{◌≡◌, List, [], ◌∷◌, Bool, true, false, cond, ◌&&◌, ◌||◌, filter, map, Option, Some, None, is_some, refl, sym, ap, ◌∙◌, subst, true≢false, Ordering, is_eq}
use Rattle.std.specs.List.{list_any, filter_map}
use Rattle.std.specs.Cmp.{IsTotalOrder}
use Rattle.std.proofs.lemmas.Map.Lookups.{CmpEqualImpliesEq}
use Rattle.a1_base.specs.Maps.{at, has, IsOrdered}
use Rattle.graph_maps.proofs.MapLemmas.{itself, one_key, none_again, ordered_rest}

pub both_true : (b c : Bool) → (b && c) ≡ true → (b ≡ true) × (c ≡ true)
both_true true c e = (refl, e)
both_true false c e = absurd (true≢false (sym e))

pub or_first : (b c : Bool) → b ≡ true → (b || c) ≡ true
or_first true c e = refl
or_first false c e = absurd (true≢false (sym e))

pub or_second : (b c : Bool) → c ≡ true → (b || c) ≡ true
or_second true c e = refl
or_second false c e = e

pub and_true : (b c : Bool) → b ≡ true → c ≡ true → (b && c) ≡ true
and_true true c e h = h
and_true false c e h = e

pub and_assoc : (a b c : Bool) → ((a && b) && c) ≡ (a && (b && c))
and_assoc true b c = refl
and_assoc false b c = refl

pub any_map : {X Y : Type 0} (t : Y → Bool) (f : X → Y) (xs : List X) → list_any t (map f xs) ≡ list_any (λ x. t (f x)) xs
any_map t f [] = refl
any_map t f (x ∷ xs) = ap (λ b. t (f x) || b) (any_map t f xs)

pub any_filter : {X : Type 0} (t p : X → Bool) (xs : List X) → list_any t (filter p xs) ≡ list_any (λ x. p x && t x) xs
any_filter t p [] = refl
any_filter t p (x ∷ xs) = by (p x) ∙ ap (λ b. (p x && t x) || b) (any_filter t p xs) where
  by : (b : Bool) → list_any t (cond b (x ∷ filter p xs) (filter p xs)) ≡ ((b && t x) || list_any t (filter p xs))
  by true = refl
  by false = refl

pub none_passes : {X : Type 0} (t : X → Bool) (xs : List X) → ((x : X) → t x ≡ true → ⊥) → list_any t xs ≡ false
none_passes t [] h = refl
none_passes t (x ∷ xs) h = by (none_passes t xs h) (t x) refl where
  by : list_any t xs ≡ false → (b : Bool) → t x ≡ b → (b || list_any t xs) ≡ false
  by ih true e = absurd (h x e)
  by ih false e = ih

module _ {K X : Type 0} (R : K → K → Ordering) (o : IsTotalOrder R) (exact : CmpEqualImpliesEq R) where
  -- an entry that a look-up finds and that passes
  pub record Found (p : K × X → Bool) (es : List (K × X)) : Type 0 where
    pub key : K
    pub value : X
    pub there : at R key es ≡ Some value
    pub passes : p (key, value) ≡ true

  pub found : (p : K × X → Bool) (es : List (K × X)) → IsOrdered R es → list_any p es ≡ true → Found p es
  found p [] s e = absurd (true≢false (sym e))
  found p (x ∷ es) s e = by (found p es (ordered_rest R o exact x es s)) (p x) refl e where
    later : Found p es → Found p (x ∷ es)
    later f = record { key = f.key; value = f.value; passes = f.passes; there = other (is_eq (R f.key x.0)) refl } where
      other : (b : Bool) → is_eq (R f.key x.0) ≡ b → cond b (Some x.1) (at R f.key es) ≡ Some f.value
      other true h = let none : at R f.key es ≡ None = subst (λ k. at R k es ≡ None) (sym (one_key R o exact f.key x.0 h)) (none_again R o exact x es s) in let there = f.there in cc
      other false h = f.there

    by : (list_any p es ≡ true → Found p es) → (b : Bool) → p x ≡ b → (b || list_any p es) ≡ true → Found p (x ∷ es)
    by rest true h e = record { key = x.0; value = x.1; passes = h; there = ap (λ b. cond b (Some x.1) (at R x.0 es)) (itself R o x.0) }
    by rest false h e = later (rest e)

  pub passed : (p : K × X → Bool) (k : K) (x : X) (es : List (K × X)) → at R k es ≡ Some x → p (k, x) ≡ true → list_any p es ≡ true
  passed p k x [] e h = absurd cc
  passed p k x (y ∷ es) e h = by (λ e. passed p k x es e h) (is_eq (R k y.0)) refl e where
    by : (at R k es ≡ Some x → list_any p es ≡ true) → (b : Bool) → is_eq (R k y.0) ≡ b → cond b (Some y.1) (at R k es) ≡ Some x → (p y || list_any p es) ≡ true
    by rest true same e =
        let key : k ≡ y.0 = one_key R o exact k y.0 same in let value : x ≡ y.1 = cc in
        or_first (p y) (list_any p es) (sym (ap p (λ i. (key i, value i))) ∙ h)
    by rest false same e = or_second (p y) (list_any p es) (rest e)
