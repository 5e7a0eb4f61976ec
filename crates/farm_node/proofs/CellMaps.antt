-- The objects of a node as a function of addresses, and what changes of it keep.
use Rattle.farm_node.proofs.Common.{◌≡◌, ℕ, max, cond, Bool, true, false, not, ◌&&◌, ◌||◌, List, [], Option, Some, None, Result, Ok, Err, is_some, OnOk, OnErr}
use Rattle.farm_node.proofs.Common.{sym, refl, ap, ◌∙◌, subst, cond-false, BTreeMap, WritesThrough, is_at, lookup, values_of, Memory, Addr, same_addr}
use Rattle.farm_node.proofs.Common.{Occupancy, without_place, addr_order, vacant, with_place, Cell, NodeState, set_cell}
use Rattle.farm_node.proofs.Common.{places, cells_of, AgreesWith, IsTracked, waits_there, held_in, lock_count, given_back}
use Rattle.std.specs.List.{sum_by}
use Rattle.std.specs.Option.{IsSome}
use Rattle.farm_node.proofs.Addresses.{set_cases}
use Rattle.farm_node.proofs.Dues.{tracked_set}

pub cells_written : (objects later : BTreeMap Addr Cell) (a : Addr) (c w : Cell) → Some c ≡ cells_of objects a
    → WritesThrough addr_order (addr_order a) objects w later → cells_of later ≡ set_cell a (Some w) (cells_of objects)
cells_written objects later a c w there h = λ i b. (h.3 (subst (λ (z : Option Cell). IsSome z) there refl)).0 b i

-- a map without entries

pub agrees_empty : (objects : BTreeMap Addr Cell) (places : Occupancy) (node nodes : ℕ) → objects.entries ≡ [] → places ≡ vacant node nodes → AgreesWith (cells_of objects) places
agrees_empty objects places node nodes none same = λ a.
    ap (λ (o : Occupancy). o.taken a) same ∙ ap (λ (es : List (Addr × Cell)). is_some (lookup (is_at (addr_order a)) es)) (sym none)

pub tracked_empty : (objects : BTreeMap Addr Cell) (listed : ℕ → Addr → Bool) → objects.entries ≡ [] → IsTracked (cells_of objects) listed
tracked_empty objects listed none = λ a. ap (λ (es : List (Addr × Cell)). waits_there (λ s. listed s a) (lookup (is_at (addr_order a)) es)) none

pub locks_empty : (objects : BTreeMap Addr Cell) → objects.entries ≡ [] → 0 ≡ lock_count objects
locks_empty objects none = sym (ap (λ (es : List (Addr × Cell)). sum_by held_in (values_of es)) none)

module _ (cells cells' : Addr → Option Cell) where
  -- the map and the places agree: where what is there changes, where an object comes, and where one goes

  pub agrees_same : (places places' : Occupancy) → AgreesWith cells places → cells' ≡ cells → places' ≡ places → AgreesWith cells' places'
  agrees_same places places' agrees e same = subst (λ (z : (Addr → Option Cell) × Occupancy). AgreesWith z.0 z.1) (λ i. (sym e i, sym same i)) agrees

  pub agrees_set : (places : Occupancy) (a : Addr) (c : Option Cell) → AgreesWith cells places → cells' ≡ set_cell a c cells → is_some c ≡ is_some (cells a) → AgreesWith cells' places
  agrees_set places a c agrees e same = subst (λ (z : Addr → Option Cell). AgreesWith z places) (sym e)
      (λ b. set_cases (λ z d. places.taken z ≡ is_some d) a b c cells (agrees a ∙ sym same) (λ apart. agrees b))

  pub agrees_with : (places places' : Occupancy) (a : Addr) (c : Cell) → AgreesWith cells places → cells' ≡ set_cell a (Some c) cells → places' ≡ with_place a places → AgreesWith cells' places'
  agrees_with places places' a c agrees e marked = subst (λ (z : (Addr → Option Cell) × Occupancy). AgreesWith z.0 z.1) (λ i. (sym e i, sym marked i))
      (λ b. elim (same_addr a b) as (λ g. (g || places.taken b) ≡ is_some (cond g (Some c) (cells b))) [ true ↦ refl | false ↦ agrees b ])

  pub agrees_without : (places places' : Occupancy) (a : Addr) → AgreesWith cells places → cells' ≡ set_cell a None cells → places' ≡ without_place a places → AgreesWith cells' places'
  agrees_without places places' a agrees e without = subst (λ (z : (Addr → Option Cell) × Occupancy). AgreesWith z.0 z.1) (λ i. (sym e i, sym without i))
      (λ b. elim (same_addr a b) as (λ g. (not g && places.taken b) ≡ is_some (cond g None (cells b))) [ true ↦ refl | false ↦ agrees b ])

  -- a write of what was there, and an object that was put and taken again

  pub cells_same : (a : Addr) (c w : Cell) → Some c ≡ cells a → cells' ≡ set_cell a (Some w) cells → w ≡ c → cells' ≡ cells
  cells_same a c w there e is = e ∙ (λ i b. set_cases (λ z d. d ≡ cells z) a b (Some w) cells (ap Some is ∙ there) (λ apart. refl) i)

  pub put_and_taken : (between : Addr → Option Cell) (a : Addr) (c : Cell) → cells a ≡ None → between ≡ set_cell a (Some c) cells → cells' ≡ set_cell a None between → cells' ≡ cells
  put_and_taken between a c none put taken = taken ∙ (ap (set_cell a None) put
      ∙ (λ i b. set_cases (λ z d. d ≡ cells z) a b None (set_cell a (Some c) cells) (sym none) (λ apart. cond-false (same_addr a b) (Some c) (cells b) apart) i))

pub unset : (a : Addr) (cells : Addr → Option Cell) → cells a ≡ None → set_cell a None cells ≡ cells
unset a cells none = λ i b. set_cases (λ z d. d ≡ cells z) a b None cells (sym none) (λ apart. refl) i

-- an insertion that was made, or was not

module _ (cells cells' : Addr → Option Cell) (places places' : Occupancy) (a : Addr) (c : Cell) where
  abbrev Puts : Type 0
  Puts = (cells' ≡ set_cell a (Some c) cells) × (places' ≡ with_place a places)

  abbrev Leaves : Type 0
  Leaves = (cells' ≡ cells) × (places' ≡ places)

  pub agrees_inserted : (result : Result (Unit {0}) Memory) → AgreesWith cells places → OnOk result Puts → OnErr result Leaves → AgreesWith cells' places'
  agrees_inserted (Ok u) agrees ok err = agrees_with cells cells' places places' a c agrees ok.0 ok.1
  agrees_inserted (Err m) agrees ok err = agrees_same cells cells' places places' agrees err.0 err.1

  pub tracked_inserted : (listed : ℕ → Addr → Bool) (result : Result (Unit {0}) Memory) → IsTracked cells listed → waits_there (λ s. listed s a) (Some c) ≡ true
      → OnOk result Puts → OnErr result Leaves → IsTracked cells' listed
  tracked_inserted listed (Ok u) tracked here ok err = tracked_set cells cells' listed a (Some c) tracked ok.0 here
  tracked_inserted listed (Err m) tracked here ok err = subst (λ (z : Addr → Option Cell). IsTracked z listed) (sym err.0) tracked

-- nothing to give back
pub none_given_back : (p : NodeState) (cells : Addr → Option Cell) (a : Addr) → None ≡ p.cells a → cells ≡ set_cell a None p.cells → record p { cells = cells } ≡ given_back a p
none_given_back p cells a none e = (λ i. record p { cells = (e ∙ unset a p.cells (sym none)) i })
    ∙ (λ i. elim (none i) as (λ _. NodeState) [ None ↦ p | Some c ↦ record p { cells = set_cell a None p.cells; past = max p.past c.bound } ])
