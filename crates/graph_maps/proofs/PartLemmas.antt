-- A part of an ordered list is what stands at the front, from the part's first key on.
use Rattle.std.proofs.Common.{◌≡◌, List, [], ◌∷◌, ◌++◌, Bool, true, false, cond, ◌&&◌, filter, map, Option, Some, None, sym, refl, ap, ◌∙◌, true≢false, append_assoc, append-nil, Ordering, Less, Equal, Greater}
use Rattle.std.specs.Ordering.{is_gt, is_le}
use Rattle.std.specs.Option.{option_map}
use Rattle.std.specs.Map.{keys_of}
use Rattle.std.specs.List.{AllByRecursion, cons_option, filter_map, take_while}
use Rattle.std.specs.List.Sorted.{IsStrictlySortedBy}
use Rattle.std.specs.BTreeMap.Range.{entries_between}
use Rattle.std.specs.declared.ops.Bound.TheVariants.{Included, Unbounded}
use Rattle.std.proofs.lemmas.List.Sums.{take_while-cons}
use Rattle.std.proofs.lemmas.List.{map-append}
use Rattle.std.proofs.lemmas.List.Elements.{filter_map-append}
use Rattle.a1_base.specs.Maps.{IsOrdered}
use Rattle.graph_maps.specs.Places.{kept}

module _ {K : Type 0} (p : K → Bool) where
  -- empty places make no difference
  kept_filter : {X : Type 0} (es : List (K × Option X)) → kept (filter (λ e. p e.0) es) ≡ filter (λ e. p e.0) (kept es)
  kept_filter [] = refl
  kept_filter {X = X} (e ∷ es) = by (kept_filter es) (p e.0) refl e.1 where
    by : kept (filter (λ e. p e.0) es) ≡ filter (λ e. p e.0) (kept es) → (b : Bool) → p e.0 ≡ b → (w : Option X)
        → kept (cond b ((e.0, w) ∷ filter (λ e. p e.0) es) (filter (λ e. p e.0) es)) ≡ filter (λ e. p e.0) (cons_option (option_map (λ x. (e.0, x)) w) (kept es))
    by ih true g None = ih
    by ih false g None = ih
    by ih true g (Some x) = ap (λ z. (e.0, x) ∷ z) ih ∙ sym (ap (λ b. cond b ((e.0, x) ∷ filter (λ e. p e.0) (kept es)) (filter (λ e. p e.0) (kept es))) g)
    by ih false g (Some x) = ih ∙ sym (ap (λ b. cond b ((e.0, x) ∷ filter (λ e. p e.0) (kept es)) (filter (λ e. p e.0) (kept es))) g)

  module _ (R : K → K → Ordering) (S : K → Type 0) (s : K) (first : (k : K) → S k → p k ≡ true → is_gt (R s k) ≡ false)
      (hangs : (a b : K) → is_gt (R s a) ≡ false → is_gt (R a b) ≡ false → p b ≡ true → p a ≡ true) where
    -- behind a key that is not in the part, from its first key on, none is
    none_behind : {X : Type 0} (a : K) (es : List (K × X)) → is_gt (R s a) ≡ false → p a ≡ false → AllByRecursion (λ y. R a y ≡ Less) (keys_of es) → filter (λ e. p e.0) es ≡ []
    none_behind a [] from out all = refl
    none_behind a (e ∷ es) from out all = by (none_behind a es from out all.1) (p e.0) refl where
      by : filter (λ e. p e.0) es ≡ [] → (b : Bool) → p e.0 ≡ b → cond b (e ∷ filter (λ e. p e.0) es) (filter (λ e. p e.0) es) ≡ []
      by ih true inside = absurd (true≢false (sym (hangs a e.0 from (ap is_gt all.0) inside) ∙ out))
      by ih false g = ih

    leading : {X : Type 0} (es : List (K × X)) → IsOrdered R es → AllByRecursion S (keys_of es)
        → take_while (λ e. p e.0) (entries_between R (Included s) Unbounded es) ≡ filter (λ e. p e.0) es
    unfolding IsStrictlySortedBy
    leading [] ordered sound = refl
    leading {X = X} (e ∷ es) ordered sound = by (leading es ordered.1 sound.1) (R s e.0) refl where
      rest : List (K × X)
      rest = entries_between R (Included s) Unbounded es

      inside : take_while (λ e. p e.0) rest ≡ filter (λ e. p e.0) es → is_gt (R s e.0) ≡ false → (b : Bool) → p e.0 ≡ b
          → cond b (e ∷ take_while (λ e. p e.0) rest) [] ≡ cond b (e ∷ filter (λ e. p e.0) es) (filter (λ e. p e.0) es)
      inside ih from true g = ap (λ z. e ∷ z) ih
      inside ih from false g = sym (none_behind e.0 es from g ordered.0)

      before : take_while (λ e. p e.0) rest ≡ filter (λ e. p e.0) es → is_gt (R s e.0) ≡ true → (b : Bool) → p e.0 ≡ b
          → take_while (λ e. p e.0) rest ≡ cond b (e ∷ filter (λ e. p e.0) es) (filter (λ e. p e.0) es)
      before ih not_yet true g = absurd (true≢false (sym not_yet ∙ first e.0 sound.0 g))
      before ih not_yet false g = ih

      by : take_while (λ e. p e.0) rest ≡ filter (λ e. p e.0) es → (r : Ordering) → R s e.0 ≡ r
          → take_while (λ e. p e.0) (cond (is_le r && true) (e ∷ rest) rest) ≡ filter (λ e. p e.0) (e ∷ es)
      by ih Less g = take_while-cons (λ e. p e.0) e rest ∙ inside ih (ap is_gt g) (p e.0) refl
      by ih Equal g = take_while-cons (λ e. p e.0) e rest ∙ inside ih (ap is_gt g) (p e.0) refl
      by ih Greater g = before ih (ap is_gt g) (p e.0) refl

    pub part_is : {X : Type 0} (places : List (K × Option X)) → IsOrdered R places → AllByRecursion S (keys_of places)
        → kept (take_while (λ e. p e.0) (entries_between R (Included s) Unbounded places)) ≡ filter (λ e. p e.0) (kept places)
    part_is places ordered sound = ap kept (leading places ordered sound) ∙ kept_filter places

-- at the front is a place that is in the part
pub front_is : {K X : Type 0} (p : K → Bool) (e : K × X) (places rest : List (K × X)) → places ≡ e ∷ rest → p e.0 ≡ true
    → take_while (λ e. p e.0) places ≡ e ∷ take_while (λ e. p e.0) rest
front_is p e places rest is inside =
    ap (take_while (λ e. p e.0)) is ∙ (take_while-cons (λ e. p e.0) e rest ∙ ap (λ b. cond b (e ∷ take_while (λ e. p e.0) rest) []) inside)

-- a walk that makes rows of what f gives, and ends in w
module _ {A B Y : Type 0} (row : A → Y) (f : B → Option Y) (w : List Y) where
  walked : (rows these : List A) (x : B) (ahead rest : List B) → map row these ≡ filter_map f (x ∷ []) → ahead ≡ x ∷ rest
      → map row rows ++ filter_map f ahead ≡ w → map row (rows ++ these) ++ filter_map f rest ≡ w
  walked rows these x ahead rest fits is so_far =
      ap (λ z. z ++ filter_map f rest) (map-append row rows these)
      ∙ (append_assoc (map row rows) (map row these) (filter_map f rest)
      ∙ (ap (λ z. map row rows ++ z) (ap (λ z. z ++ filter_map f rest) fits ∙ (sym (filter_map-append f (x ∷ []) rest) ∙ ap (filter_map f) (sym is))) ∙ so_far))

  -- f gave one, whose row was put at the end of a list with room
  pub walked_one : {rows room more : List A} {this : A} (x : B) (ahead rest : List B) → more ≡ room ++ this ∷ [] → room ≡ rows
      → row this ∷ [] ≡ filter_map f (x ∷ []) → ahead ≡ x ∷ rest → map row rows ++ filter_map f ahead ≡ w → map row more ++ filter_map f rest ≡ w
  walked_one {rows = rows} {this = this} x ahead rest put same fits is so_far =
      ap (λ l. map row l ++ filter_map f rest) (put ∙ ap (λ l. l ++ this ∷ []) same) ∙ walked rows (this ∷ []) x ahead rest fits is so_far

  -- f gave none
  pub walked_none : (rows : List A) (x : B) (ahead rest : List B) → [] ≡ filter_map f (x ∷ []) → ahead ≡ x ∷ rest → map row rows ++ filter_map f ahead ≡ w
      → map row rows ++ filter_map f rest ≡ w
  walked_none rows x ahead rest fits is so_far =
      ap (λ l. map row l ++ filter_map f rest) (sym (append-nil rows)) ∙ walked rows [] x ahead rest fits is so_far
