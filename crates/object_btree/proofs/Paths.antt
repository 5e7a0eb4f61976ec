-- Paths of items.
use Rattle.std.proofs.Common.{◌≡◌, ℕ, zero, suc, List, [], ◌∷◌, ◌++◌, Some, refl, sym, ap, subst, ◌∙◌, append_assoc}
use Rattle.std.specs.Prelude.{map}
use Rattle.std.specs.List.{AllByRecursion, flat_map}
use Rattle.object_view.specs.Layout.{Entry}
use Rattle.object_view.specs.Keys.{Bound, UpTo, Below, Path}
use Rattle.object_view.specs.Trees.{Item, spell, content, Gap, Spans, Ways, contents}
use Rattle.object_btree.proofs.Orders.{upto_refl, upto_trans, upto_below, below_upto}
use Rattle.object_view.proofs.Reading.{all_join}

-- ---- lists

pub flat_join : {A B : Type 0} (f : A → List B) (xs ys : List A)
    → flat_map f (xs ++ ys) ≡ flat_map f xs ++ flat_map f ys
flat_join f [] ys = refl
flat_join f (x ∷ xs) ys = ap (λ t. f x ++ t) (flat_join f xs ys)
    ∙ sym (append_assoc (f x) (flat_map f xs) (flat_map f ys))

pub map_join : {A B : Type 0} (f : A → B) (xs ys : List A) → map f (xs ++ ys) ≡ map f xs ++ map f ys
map_join f [] ys = refl
map_join f (x ∷ xs) ys = ap (λ t. f x ∷ t) (map_join f xs ys)

pub all_left : {A : Type 0} (P : A → Type 0) (xs ys : List A) → AllByRecursion P (xs ++ ys) → AllByRecursion P xs
all_left P [] ys p = tt
all_left P (x ∷ xs) ys p = (p.0, all_left P xs ys p.1)

pub all_right : {A : Type 0} (P : A → Type 0) (xs ys : List A) → AllByRecursion P (xs ++ ys) → AllByRecursion P ys
all_right P [] ys p = p
all_right P (x ∷ xs) ys p = all_right P xs ys p.1

pub record MapCut {A B : Type 0} (f : A → B) (xs : List A) (l r : List B) : Type 0 where
  pub left : List A
  pub right : List A
  pub is : xs ≡ left ++ right
  pub left_is : map f left ≡ l
  pub right_is : map f right ≡ r

head_is : {A : Type 0} (a b : A) (xs ys : List A) → a ∷ xs ≡ b ∷ ys → a ≡ b
head_is a b xs ys e = cc

tail_is : {A : Type 0} (a b : A) (xs ys : List A) → a ∷ xs ≡ b ∷ ys → xs ≡ ys
tail_is a b xs ys e = cc

no_cons : {A : Type 0} (a : A) (xs : List A) → [] ≡ a ∷ xs → ⊥
no_cons a xs e = cc

pub map_cut : {A B : Type 0} (f : A → B) (xs : List A) (l r : List B) → map f xs ≡ l ++ r → MapCut f xs l r
map_cut f xs [] r e = record { left = []; right = xs; is = refl; left_is = refl; right_is = e }
map_cut f [] (b ∷ l) r e = absurd (no_cons b (l ++ r) e)
map_cut f (x ∷ xs) (b ∷ l) r e =
    let c = map_cut f xs l r (tail_is (f x) b (map f xs) (l ++ r) e) in
    let h : f x ≡ b = head_is (f x) b (map f xs) (l ++ r) e in
    record {
      left = x ∷ c.left;
      right = c.right;
      is = ap (λ t. x ∷ t) c.is;
      left_is = ap (λ t. f x ∷ t) c.left_is
          ∙ ap (λ t. t ∷ l) h;
      right_is = c.right_is;
    }

pub record MapHead {A B : Type 0} (f : A → B) (xs : List A) (e : B) (r : List B) : Type 0 where
  pub here : A
  pub right : List A
  pub is : xs ≡ here ∷ right
  pub here_is : f here ≡ e
  pub right_is : map f right ≡ r

pub map_head : {A B : Type 0} (f : A → B) (xs : List A) (e : B) (r : List B) → map f xs ≡ e ∷ r → MapHead f xs e r
map_head f [] e r q = absurd (no_cons e r q)
map_head f (x ∷ xs) e r q =
    record {
      here = x;
      right = xs;
      is = refl;
      here_is = head_is (f x) e (map f xs) r q;
      right_is =
          tail_is (f x) e (map f xs) r q;
    }

-- ---- paths

pub ways_lower : (d : ℕ) (lo mid : Bound) (xs : List (Item d)) (hi : Bound) → Gap d lo mid → Ways d mid xs hi
    → Ways d lo xs hi
ways_lower zero lo mid [] hi g p = upto_trans lo mid hi g p
ways_lower zero lo mid (x ∷ xs) hi g (m, s, rest) = (m, (upto_trans lo mid (Some x.key) g s.0, s.1), rest)
ways_lower (suc d) lo mid xs hi g p = subst (λ (b : Bound). Ways (suc d) b xs hi) (sym g) p

pub path_join : {A : Type 0} (E : Bound → Bound → Type 0) (S : Bound → A → Bound → Type 0) (xs ys : List A)
    (lo mid hi : Bound) → ((b : Bound) → E b mid → Path E S b ys hi) → Path E S lo xs mid → Path E S lo (xs ++ ys) hi
path_join E S [] ys lo mid hi lower p = lower lo p
path_join E S (x ∷ xs) ys lo mid hi lower (m, s, rest) = (m, s, path_join E S xs ys m mid hi lower rest)

pub ways_join : (d : ℕ) (xs ys : List (Item d)) (lo mid hi : Bound) → Ways d lo xs mid → Ways d mid ys hi
    → Ways d lo (xs ++ ys) hi
ways_join d xs ys lo mid hi p q = path_join (Gap d) (Spans d) xs ys lo mid hi (λ b g. ways_lower d b mid ys hi g q) p

pub gap_refl : (d : ℕ) (b : Bound) → Gap d b b
gap_refl zero b = upto_refl b
gap_refl (suc d) b = refl

pub record Cut {A : Type 0} (E : Bound → Bound → Type 0) (S : Bound → A → Bound → Type 0) (lo : Bound) (xs ys : List A)
    (hi : Bound) : Type 0 where
  pub mid : Bound
  pub left : Path E S lo xs mid
  pub right : Path E S mid ys hi

pub path_cut : {A : Type 0} (E : Bound → Bound → Type 0) (S : Bound → A → Bound → Type 0) (same : (b : Bound) → E b b)
    (xs ys : List A) (lo hi : Bound) → Path E S lo (xs ++ ys) hi → Cut E S lo xs ys hi
path_cut E S same [] ys lo hi p = record { mid = lo; left = same lo; right = p }
path_cut E S same (x ∷ xs) ys lo hi (m, s, rest) =
    let c = path_cut E S same xs ys m hi rest in
    record { mid = c.mid; left = (m, s, c.left); right = c.right }

pub ways_cut : (d : ℕ) (xs ys : List (Item d)) (lo hi : Bound) → Ways d lo (xs ++ ys) hi
    → Cut (Gap d) (Spans d) lo xs ys hi
ways_cut d xs ys lo hi p = path_cut (Gap d) (Spans d) (gap_refl d) xs ys lo hi p

-- ---- what a path says of its pairs

abbrev pub Over : Bound → List Entry → Type 0
Over lo es = AllByRecursion (λ (e : Entry). UpTo lo (Some e.key)) es

abbrev pub Under : Bound → List Entry → Type 0
Under hi es = AllByRecursion (λ (e : Entry). Below e.key hi) es

over_lower : (lo mid : Bound) (es : List Entry) → UpTo lo mid → Over mid es → Over lo es
over_lower lo mid [] u o = tt
over_lower lo mid (e ∷ es) u o = (upto_trans lo mid (Some e.key) u o.0, over_lower lo mid es u o.1)

under_raise : (mid hi : Bound) (es : List Entry) → UpTo mid hi → Under mid es → Under hi es
under_raise mid hi [] u o = tt
under_raise mid hi (e ∷ es) u o = (below_upto e.key mid hi o.0 u, under_raise mid hi es u o.1)

-- what an item with its bounds says
pub record Within (lo : Bound) (es : List Entry) (hi : Bound) : Type 0 where
  pub ends : UpTo lo hi
  pub over : Over lo es
  pub under : Under hi es

path_within : {A : Type 0} (E : Bound → Bound → Type 0) (S : Bound → A → Bound → Type 0) (f : A → List Entry)
    → ((a b : Bound) → E a b → UpTo a b) → ((a : Bound) (x : A) (b : Bound) → S a x b → Within a (f x) b)
    → (lo : Bound) (xs : List A) (hi : Bound) → Path E S lo xs hi → Within lo (flat_map f xs) hi
path_within E S f gap item lo [] hi p = record { ends = gap lo hi p; over = tt; under = tt }
path_within E S f gap item lo (x ∷ xs) hi (m, s, rest) =
    let a = item lo x m s in
    let b = path_within E S f gap item m xs hi rest in
    record {
      ends = upto_trans lo m hi a.ends b.ends;
      over = all_join _ (f x) (flat_map f xs) a.over (over_lower lo m (flat_map f xs) a.ends b.over);
      under = all_join _ (f x) (flat_map f xs) (under_raise m hi (f x) b.ends a.under) b.under;
    }

gap_upto : (d : ℕ) (a b : Bound) → Gap d a b → UpTo a b
gap_upto zero a b g = g
gap_upto (suc d) a b g = subst (λ (x : Bound). UpTo a x) g (upto_refl a)

pub spans_within : (d : ℕ) (lo : Bound) (x : Item d) (hi : Bound) → Spans d lo x hi → Within lo (content d x) hi
spans_within zero lo e hi s = record { ends = upto_below lo e.key hi s.0 s.1; over = (s.0, tt); under = (s.1, tt) }
spans_within (suc d) lo b hi s =
    path_within (Gap d) (Spans d) (content d) (gap_upto d) (spans_within d) lo b.items hi s.1

pub ways_within : (d : ℕ) (lo : Bound) (xs : List (Item d)) (hi : Bound) → Ways d lo xs hi
    → Within lo (contents d xs) hi
ways_within d lo xs hi p = path_within (Gap d) (Spans d) (content d) (gap_upto d) (spans_within d) lo xs hi p

-- ---- a path cut before an item whose key is the new bound

pub ways_raise : (lo : Bound) (es : List Entry) (mid hi : Bound) → Ways zero lo es mid → UpTo mid hi
    → Ways zero lo es hi
ways_raise lo [] mid hi p u = upto_trans lo mid hi p u
ways_raise lo (e ∷ es) mid hi (m, s, rest) u = (m, s, ways_raise m es mid hi rest u)

pub record Halves (d : ℕ) (lo : Bound) (xs : List (Item d)) (x : Item d) (ys : List (Item d)) (hi : Bound) : Type 0
  where
    pub left : Ways d lo xs (Some (spell d x).key)
    pub right : Ways d (Some (spell d x).key) (x ∷ ys) hi

pub ways_halves : (d : ℕ) (lo : Bound) (xs : List (Item d)) (x : Item d) (ys : List (Item d)) (hi : Bound)
    → Ways d lo (xs ++ x ∷ ys) hi → Halves d lo xs x ys hi
ways_halves zero lo xs x ys hi p =
    let c = ways_cut zero xs (x ∷ ys) lo hi p in
    let r = c.right in
    record {
      left = ways_raise lo xs c.mid (Some x.key) c.left r.1.0;
      right =
          (r.0, (upto_refl (Some x.key), r.1.1), r.2);
    }
ways_halves (suc d) lo xs x ys hi p =
    let c = ways_cut (suc d) xs (x ∷ ys) lo hi p in
    let r = c.right in
    let e : c.mid ≡ Some x.key = r.1.0 in
    record {
      left = subst (λ (b : Bound). Ways (suc d) lo xs b) e c.left;
      right =
          subst (λ (b : Bound). Ways (suc d) b (x ∷ ys) hi) e r;
    }
