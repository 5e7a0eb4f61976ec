-- The order of keys and bounds.
use Rattle.std.proofs.Common.{◌≡◌, ◌⊎◌, inl, inr, ℕ, true, false, List, [], ◌∷◌, Some, None, refl, sym, ap, ◌∙◌}
use Rattle.std.specs.declared.cmp.Ordering.{Ordering}
use Rattle.std.specs.declared.cmp.Ordering.TheVariants.{Less, Equal, Greater}
use Rattle.std.specs.Ordering.{ordering_reverse, is_gt}
use Rattle.std.proofs.lemmas.Cmp.{nat_list_cmp_total, alike_right, upto, tied_itself}
use Rattle.object_view.specs.Keys.{Bound, UpTo, Below, compare}

pub above : (o : Ordering) → (o ≡ Greater) ⊎ (o ≡ Greater → ⊥)
above Less = inr (λ h. cc)
above Equal = inr (λ h. cc)
above Greater = inl refl

flag : (o : Ordering) → (o ≡ Greater → ⊥) → is_gt o ≡ false
flag Less n = refl
flag Equal n = refl
flag Greater n = absurd (n refl)

pub between : (a b c : List ℕ) → compare a c ≡ Greater → (compare a b ≡ Greater → ⊥) → compare b c ≡ Greater
between a b c g n = elim (above (compare b c)) [
  | inl h ↦ h
  | inr m ↦
      let no : is_gt (compare a c) ≡ false =
      upto nat_list_cmp_total a b c (flag (compare a b) n) (flag (compare b c) m) in
      let yes : is_gt (compare a c) ≡ true = ap is_gt g in
      absurd cc
]

before_then : (y f k : List ℕ) (o : Ordering) → o ≡ compare f k → compare y f ≡ Less → (o ≡ Greater → ⊥)
    → compare y k ≡ Less
before_then y f k Less e l n = nat_list_cmp_total.trans y f k l (sym e)
before_then y f k Equal e l n = sym (alike_right nat_list_cmp_total f k y (sym e)) ∙ l
before_then y f k Greater e l n = absurd (n refl)

-- less backwards
pub flip : (a b : List ℕ) → compare a b ≡ Greater → compare b a ≡ Less
flip a b g = nat_list_cmp_total.antisymm b a ∙ ap ordering_reverse g

pub flop : (a b : List ℕ) → compare a b ≡ Less → compare b a ≡ Greater
flop a b g = nat_list_cmp_total.antisymm b a ∙ ap ordering_reverse g

pub itself : (a : List ℕ) → compare a a ≡ Greater → ⊥
itself a h = let e : compare a a ≡ Equal = tied_itself nat_list_cmp_total a in absurd cc

pub less_not : (a b : List ℕ) → compare a b ≡ Less → compare a b ≡ Greater → ⊥
less_not a b l g = cc

pub upto_refl : (b : Bound) → UpTo b b
upto_refl None = tt
upto_refl (Some k) = itself k

pub upto_trans : (a b c : Bound) → UpTo a b → UpTo b c → UpTo a c
upto_trans a b None p q = tt
upto_trans None None (Some c) p q = q
upto_trans None (Some b) (Some c) p q = absurd p
upto_trans (Some a) None (Some c) p q = absurd q
upto_trans (Some a) (Some b) (Some c) p q = λ h. q (between a b c h p)

pub below_upto : (k : List ℕ) (a b : Bound) → Below k a → UpTo a b → Below k b
below_upto k a None p q = tt
below_upto k None (Some b) p q = absurd q
below_upto k (Some a) (Some b) p q = before_then k a b (compare a b) refl p q

pub upto_below : (lo : Bound) (k : List ℕ) (hi : Bound) → UpTo lo (Some k) → Below k hi → UpTo lo hi
upto_below lo k None p q = tt
upto_below None k (Some b) p q = absurd p
upto_below (Some a) k (Some b) p q = upto_trans (Some a) (Some k) (Some b) p (less_not k b q)

-- a key below a bound, or from it on
pub or_below : (k : List ℕ) (b : Bound) → UpTo b (Some k) ⊎ Below k b
or_below k None = inr tt
or_below k (Some b) = elim (above (compare b k)) [ inl g ↦ inr (flip b k g) | inr n ↦ inl n ]

pub below_above : (k : List ℕ) (b : Bound) (e : List ℕ) → Below k b → UpTo b (Some e) → compare e k ≡ Greater
below_above k None e p q = absurd q
below_above k (Some b) e p q = flop k e (below_upto k (Some b) (Some e) p q)

pub below_below : (e : List ℕ) (b : Bound) (k : List ℕ) → Below e b → UpTo b (Some k) → compare e k ≡ Less
below_below e b k p q = below_upto e b (Some k) p q

-- no bytes are the least key
pub low_first : (k : List ℕ) → compare [] k ≡ Greater → ⊥
low_first [] h = cc
low_first (b ∷ k) h = cc
