-- The order of two keys of one kind.
use Rattle.std.proofs.Common.{◌≡◌, ℕ, zero, suc, ◌+◌, ◌≤◌, List, [], ◌∷◌, ◌++◌, length, drop, refl, sym, ap, ◌∙◌, add-one}
use Rattle.std.specs.List.{slice_get}
use Rattle.std.specs.Option.{option_cmp}
use Rattle.std.proofs.lemmas.List.{drop_all}
use Rattle.std.specs.Ordering.{ordering_then, nat_cmp}
use Rattle.std.specs.declared.cmp.Ordering.{Ordering}
use Rattle.std.specs.declared.cmp.Ordering.TheVariants.{Less, Equal, Greater}
use Rattle.a1_value.specs.Order.{byte_order, value_order}
use Rattle.type_schema.specs.declared.names.GraphName.{GraphName}
use Rattle.type_schema.specs.declared.names.TypeName.{TypeName}
use Rattle.type_schema.specs.declared.names.VertexName.{VertexName}
use Rattle.type_schema.specs.declared.rows.StoreKey.TheVariants as key
use Rattle.type_schema.specs.Names.{Name}
use Rattle.type_schema.specs.Rows.{short_first, key_order}

level : (o : Ordering) → o ≡ ordering_then o Equal
level Less = refl
level Equal = refl
level Greater = refl

pub tenants : (a b : Name) (r : Ordering) → r ≡ byte_order a b → r ≡ key_order (key.Tenant a) (key.Tenant b)
unfolding key_order
tenants a b r h = h ∙ level (byte_order a b)

pub graphs : (a b : GraphName) (r : Ordering)
    → r ≡ ordering_then (byte_order (a.tenant ++ 47 ∷ a.name) (b.tenant ++ 47 ∷ b.name)) (ordering_then (byte_order a.tenant b.tenant) (short_first a.name b.name))
    → r ≡ key_order (key.Graph a) (key.Graph b)
unfolding key_order
graphs a b r h = h ∙ ap (λ o. ordering_then (byte_order (a.tenant ++ 47 ∷ a.name) (b.tenant ++ 47 ∷ b.name)) (ordering_then (byte_order a.tenant b.tenant) o)) (level (short_first a.name b.name))

pub types : (a b : TypeName) (r : Ordering) → r ≡ ordering_then (nat_cmp a.graph b.graph) (short_first a.name b.name) → r ≡ key_order (key.TypeKey a) (key.TypeKey b)
unfolding key_order
types a b r h = h ∙ ap (ordering_then (nat_cmp a.graph b.graph)) (level (short_first a.name b.name))

pub vertices : (a b : VertexName) (r : Ordering)
    → r ≡ ordering_then (nat_cmp a.graph b.graph) (ordering_then (short_first a.kind b.kind) (value_order a.key b.key))
    → r ≡ key_order (key.Vertex a) (key.Vertex b)
unfolding key_order
vertices a b r h = h ∙ ap (λ o. ordering_then (nat_cmp a.graph b.graph) (ordering_then (short_first a.kind b.kind) o)) (level (value_order a.key b.key))

-- ---- two lists, byte by byte

abbrev front_order : List ℕ → List ℕ → ℕ → Ordering
front_order a b i = option_cmp nat_cmp (slice_get a i) (slice_get b i)

ahead : (a b : List ℕ) (i : ℕ) → byte_order (drop i a) (drop i b) ≡ ordering_then (front_order a b i) (byte_order (drop (suc i) a) (drop (suc i) b))
ahead [] [] zero = refl
ahead [] [] (suc i) = refl
ahead [] (y ∷ b) zero = refl
ahead [] (y ∷ b) (suc i) = before b i where
  before : (b : List ℕ) (i : ℕ) → byte_order [] (drop i b) ≡ ordering_then (front_order [] b i) (byte_order [] (drop (suc i) b))
  before [] zero = refl
  before [] (suc i) = refl
  before (y ∷ b) zero = refl
  before (y ∷ b) (suc i) = before b i
ahead (x ∷ a) [] zero = refl
ahead (x ∷ a) [] (suc i) = behind a i where
  behind : (a : List ℕ) (i : ℕ) → byte_order (drop i a) [] ≡ ordering_then (front_order a [] i) (byte_order (drop (suc i) a) [])
  behind [] zero = refl
  behind [] (suc i) = refl
  behind (x ∷ a) zero = refl
  behind (x ∷ a) (suc i) = behind a i
ahead (x ∷ a) (y ∷ b) zero = refl
ahead (x ∷ a) (y ∷ b) (suc i) = ahead a b i

module _ (a b : List ℕ) (i : ℕ) (so_far : byte_order a b ≡ byte_order (drop i a) (drop i b)) where
  pub even : Equal ≡ front_order a b i → byte_order a b ≡ byte_order (drop (i + 1) a) (drop (i + 1) b)
  even h = so_far ∙ ahead a b i ∙ ap (λ o. ordering_then o (byte_order (drop (suc i) a) (drop (suc i) b))) (sym h)
      ∙ ap (λ n. byte_order (drop n a) (drop n b)) (sym (add-one i))

  pub uneven : (r : Ordering) → r ≡ front_order a b i → (r ≡ Equal → ⊥) → r ≡ byte_order a b
  uneven r h not_equal = sym (so_far ∙ ahead a b i ∙ ap (λ o. ordering_then o (byte_order (drop (suc i) a) (drop (suc i) b))) (sym h) ∙ first r (byte_order (drop (suc i) a) (drop (suc i) b)) not_equal) where
    first : (r o : Ordering) → (r ≡ Equal → ⊥) → ordering_then r o ≡ r
    first Less o n = refl
    first Equal o n = absurd (n refl)
    first Greater o n = refl

  pub ended : length a ≤ i → length b ≤ i → Equal ≡ byte_order a b
  ended past_a past_b = sym (so_far ∙ ap (λ z. byte_order z (drop i b)) (drop_all i a past_a) ∙ ap (byte_order []) (drop_all i b past_b))

pub ruleset in_step = (even, uneven, ended)
