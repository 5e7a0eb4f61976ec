-- What a list's object and its form tell of a call that begins there.
use Rattle.std.proofs.Common.{◌≡◌, ℕ, ◌%◌, Bool, true, List, ap, subst, ◌∙◌}
use Rattle.a1_base.specs.declared.place.Addr.{Addr}
use Rattle.object_view.specs.Agreement.{State}
use Rattle.type_schema.specs.declared.objects.Half.{Half}
use Rattle.type_schema.specs.Structures.{IsList}
use Rattle.half_edge_lists.specs.Steps.{Formed}

-- what a list says besides its form
pub list_formed : (nodes : ℕ) (s : State) (at owner : Addr) (halves : List Half) (places : List Addr)
    → IsList nodes s at owner halves places → Formed nodes at owner halves
list_formed nodes s at owner halves places l = record {
  self = l.self;
  owner_fits = l.owner_fits;
  near = l.near;
  fit = l.fit;
  rising = l.rising;
}

-- what is near to a place that is served is served
pub near_served : (reach : ℕ → Bool) (nodes : ℕ) (a b c : Addr) → a ≡ b → b.region % nodes ≡ c.region % nodes
    → reach (c.region % nodes) ≡ true → reach (a.region % nodes) ≡ true
near_served reach nodes a b c e near served = ap reach (ap (λ (x : Addr). x.region % nodes) e ∙ near) ∙ served

-- the same of a view that stands as an earlier one
pub as_before : (P : ℕ → State → Addr → Type 0) (n m : ℕ) (v s : State) (a b : Addr) → n ≡ m → v ≡ s → a ≡ b
    → P n v a → P m s b
as_before P n m v s a b en ev ea p = subst (λ (x : Addr). P m s x) ea
    (subst (λ (x : State). P m x a) ev (subst (λ (x : ℕ). P x v a) en p))
