-- Keys in their order, the bounds between which they stand, and pairs by rising key.
use Rattle.std.specs.Prelude.{◌≡◌, ℕ, List, [], ◌∷◌, Option, Some, None, ⊤}
use Rattle.std.specs.declared.cmp.Ordering.{Ordering}
use Rattle.std.specs.declared.cmp.Ordering.TheVariants.{Less, Equal, Greater}
use Rattle.std.specs.Cmp.Lexicographic.{slice_cmp}
use Rattle.std.specs.Ordering.{nat_cmp}
use Rattle.object_view.specs.Layout.{Entry}

abbrev pub compare : List ℕ → List ℕ → Ordering
compare a b = slice_cmp nat_cmp a b

-- a key, or None above every key
abbrev pub Bound : Type 0
Bound = Option (List ℕ)

abbrev pub UpTo : Bound → Bound → Type 0
UpTo lo None = ⊤
UpTo None (Some b) = ⊥
UpTo (Some a) (Some b) = compare a b ≡ Greater → ⊥

abbrev pub Below : List ℕ → Bound → Type 0
Below k None = ⊤
Below k (Some b) = compare k b ≡ Less

-- items that stand one behind another between two bounds
abbrev pub Path : {A : Type 0} → (Bound → Bound → Type 0) → (Bound → A → Bound → Type 0) → Bound → List A → Bound
    → Type 0
Path E S lo [] hi = E lo hi
Path E S lo (x ∷ xs) hi = (mid : Bound) × S lo x mid × Path E S mid xs hi

abbrev pub by_order : {A : Type 0} → Ordering → A → A → A → A
by_order Less x y z = x
by_order Equal x y z = y
by_order Greater x y z = z

-- the word of a key
abbrev pub lookup : List ℕ → List Entry → Option ℕ
lookup k [] = None
lookup k (e ∷ es) = by_order (compare e.key k) (lookup k es) (Some e.word) None

-- the pairs with one more, or with another word at the key
abbrev pub inserted : List ℕ → ℕ → List Entry → List Entry
inserted k v [] = record { key = k; word = v } ∷ []
inserted k v (e ∷ es) = by_order (compare e.key k) (e ∷ inserted k v es) (record { key = k; word = v } ∷ es)
    (record { key = k; word = v } ∷ e ∷ es)

-- the pairs without the key
abbrev pub removed : List ℕ → List Entry → List Entry
removed k [] = []
removed k (e ∷ es) = by_order (compare e.key k) (e ∷ removed k es) es (e ∷ es)
