-- Parts at all nodes, and how they go on.
use Rattle.std.specs.Prelude.{◌≡◌, ℕ, ◌<◌, ◌≤◌, List, Some, slice_get, length}
use Rattle.transaction_part.specs.declared.part.Part.{Part}
use Rattle.farm_commit.specs.Nodes.{Lock}

-- a part at each node, of which that holds
pub record EachPart (locks : List Lock) (P : ℕ → Lock → Part → Type 0) (parts : List Part) : Type 0 where
  pub count : length parts ≡ length locks
  pub each : (i : ℕ) (l : Lock) (p : Part) → slice_get locks i ≡ Some l → slice_get parts i ≡ Some p → P i l p

-- from each part to its later one that holds
pub record EachStep (locks : List Lock) (P : ℕ → Lock → Part → Part → Type 0) (old new : List Part) : Type 0 where
  pub count : length new ≡ length old
  pub each : (i : ℕ) (l : Lock) (p q : Part) → slice_get locks i ≡ Some l → slice_get old i ≡ Some p
      → slice_get new i ≡ Some q → P i l p q

-- the same of the first n, and the others are as they were
pub record FirstStep (locks : List Lock) (n : ℕ) (P : ℕ → Lock → Part → Part → Type 0) (old new : List Part)
    : Type 0 where
  pub count : length new ≡ length old
  pub done : (i : ℕ) (l : Lock) (p q : Part) → i < n → slice_get locks i ≡ Some l → slice_get old i ≡ Some p
      → slice_get new i ≡ Some q → P i l p q
  pub rest : (i : ℕ) → n ≤ i → slice_get new i ≡ slice_get old i
