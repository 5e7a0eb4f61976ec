-- Every stamp of a node's state is at most the clock.
use Rattle.std.proofs.Common.{◌≡◌, ℕ, zero, suc, ◌≤◌, max, cond, true, false, List, [], ◌∷◌, Option, Some, None, Ok, arith}
use Rattle.farm_core.proofs.Words.{Addr, same_addr, cut, Entry, Cell, raised_to, past_raised, locked_by, installed, released, past_released, goes, collected}
use Rattle.farm_core.proofs.Words.{past_collected, NodeState, set_cell, places, least_pin, new_floor, past_over, Fits, looked_at, after, lesser, TxnId}
use Rattle.farm_node.specs.declared.entry.Entry.TheVariants as entry

abbrev pub BoundLow : ℕ → Option Cell → Type 0
BoundLow clock None = Unit {0}
BoundLow clock (Some c) = c.bound ≤ clock

pub record Low (clock : ℕ) (p : NodeState) : Type 0 where
  pub cells : (a : Addr) → BoundLow clock (p.cells a)
  pub past : p.past ≤ clock
  pub floor : p.floor ≤ clock

-- the stamps that an entry brings in
abbrev pub LowEntry : ℕ → Entry → Type 0
LowEntry clock (entry.Read k a s told) = s ≤ clock
LowEntry clock (entry.Alloc t r v placed) = r ≤ clock
LowEntry clock (entry.Check t a r w told) = w ≤ clock
LowEntry clock (entry.Put t a w) = w ≤ clock
LowEntry clock (entry.Collect k f removed) = f ≤ clock
LowEntry clock e = Unit {0}

bound_more : (m n : ℕ) (c : Option Cell) → m ≤ n → BoundLow m c → BoundLow n c
bound_more m n None le low = tt
bound_more m n (Some c) le low = omega arith

pub low_more : (m n : ℕ) (p : NodeState) → m ≤ n → Low m p → Low n p
low_more m n p le low = record {
  cells = λ a. bound_more m n (p.cells a) le (low.cells a);
  past = let x : p.past ≤ m = low.past in omega arith;
  floor = let x : p.floor ≤ m = low.floor in omega arith;
}

module _ (clock : ℕ) where
  low_set : (b a : Addr) (c : Option Cell) (cells : Addr → Option Cell) → BoundLow clock c → BoundLow clock (cells a) → BoundLow clock (set_cell b c cells a)
  low_set b a c cells here there = elim (same_addr b a) as (λ g. BoundLow clock (cond g c (cells a))) [ true ↦ here | false ↦ there ]

  low_raised : (s : ℕ) (c : Option Cell) → s ≤ clock → BoundLow clock c → BoundLow clock (raised_to s c)
  low_raised s None le low = tt
  low_raised s (Some c) le low = omega arith

  low_past_raised : (s past : ℕ) (c : Option Cell) → s ≤ clock → past ≤ clock → past_raised s c past ≤ clock
  low_past_raised s past None le low = omega arith
  low_past_raised s past (Some c) le low = low

  low_locked : (t : TxnId) (new : Option (List ℕ)) (c : Option Cell) → BoundLow clock c → BoundLow clock (locked_by t new c)
  low_locked t new None low = tt
  low_locked t new (Some c) low = low

  low_installed : (w : ℕ) (c : Option Cell) → w ≤ clock → BoundLow clock (installed w c)
  low_installed w None le = tt
  low_installed w (Some c) le = le

  low_released : (c : Option Cell) → BoundLow clock c → BoundLow clock (released c)
  low_released None low = tt
  low_released (Some c) low = elim c.versions as (λ vs. BoundLow clock (elim vs as (λ _. Option Cell) [ [] ↦ None | v ∷ more ↦ Some (record c { lock = None }) ])) [ [] ↦ tt | v ∷ more ↦ low ]

  low_past_released : (past : ℕ) (c : Option Cell) → past ≤ clock → BoundLow clock c → past_released c past ≤ clock
  low_past_released past None le low = le
  low_past_released past (Some c) le low = elim c.versions as (λ vs. elim vs as (λ _. ℕ) [ [] ↦ max past c.bound | v ∷ more ↦ past ] ≤ clock) [ [] ↦ omega arith | v ∷ more ↦ le ]

  low_collected : (floor : ℕ) (c : Option Cell) → BoundLow clock c → BoundLow clock (collected floor c)
  low_collected floor None low = tt
  low_collected floor (Some c) low = elim (goes floor c) as (λ g. BoundLow clock (cond g None (Some (record c { versions = cut floor c.versions })))) [ true ↦ tt | false ↦ low ]

  low_past_collected : (floor past : ℕ) (c : Option Cell) → past ≤ clock → BoundLow clock c → past_collected floor c past ≤ clock
  low_past_collected floor past None le low = le
  low_past_collected floor past (Some c) le low = elim (goes floor c) as (λ g. cond g (max c.bound past) past ≤ clock) [ true ↦ omega arith | false ↦ le ]

  low_past_over : (floor past : ℕ) (cells : Addr → Option Cell) (all : List Addr) → past ≤ clock → ((a : Addr) → BoundLow clock (cells a)) → past_over floor cells all past ≤ clock
  low_past_over floor past cells [] le low = le
  low_past_over floor past cells (a ∷ rest) le low = low_past_collected floor (past_over floor cells rest past) (cells a) (low_past_over floor past cells rest le low) (low a)

  least_low : (f : ℕ) (pins : ℕ → Option ℕ) (n : ℕ) → f ≤ clock → least_pin f pins n ≤ clock
  least_low f pins zero le = le
  least_low f pins (suc n) le =
      let low : least_pin f pins n ≤ clock = least_low f pins n le in
      elim (pins (suc n)) as (λ c. lesser c (least_pin f pins n) ≤ clock) [ None ↦ low | Some x ↦ omega arith ]

  low_looked : (p : NodeState) (b : Addr) (s : ℕ) → s ≤ clock → Low clock p → Low clock (looked_at b s p)
  low_looked p b s le low = record {
    cells = λ a. low_set b a _ p.cells (low_raised s (p.cells b) le (low.cells b)) (low.cells a);
    past = low_past_raised s p.past (p.cells b) le low.past;
    floor = low.floor;
  }

  pub low_after : (p : NodeState) (e : Entry) → Fits p e → LowEntry clock e → Low clock p → Low clock (after p e)
  low_after p (entry.Open k c x) fits le low = record { cells = low.cells; past = low.past; floor = low.floor }
  low_after p (entry.Shut k) fits le low = record { cells = low.cells; past = low.past; floor = low.floor }
  low_after p (entry.Read k b s (Ok found)) fits le low = low_looked p b s le low
  low_after p (entry.Alloc u r v placed) fits le low =
      let past : p.past ≤ clock = low.past in
      let is : placed.bound ≡ max p.past r = fits.3 in
      let bound : placed.bound ≤ clock = omega arith in
      record { cells = λ a. low_set placed.at a _ p.cells bound (low.cells a); past = low.past; floor = low.floor }
  low_after p (entry.Lock u b r new (Ok given)) fits le low =
      record { cells = λ a. low_set b a _ p.cells (low_locked u new (p.cells b) (low.cells b)) (low.cells a); past = low.past; floor = low.floor }
  low_after p (entry.Check u b r w (Ok same)) fits le low = low_looked p b w le low
  low_after p (entry.Put u b w) fits le low = record { cells = λ a. low_set b a _ p.cells (low_installed w (p.cells b) le) (low.cells a); past = low.past; floor = low.floor }
  low_after p (entry.Unlock u b) fits le low = record {
    cells = λ a. low_set b a _ p.cells (low_released (p.cells b) (low.cells b)) (low.cells a);
    past = low_past_released p.past (p.cells b) low.past (low.cells b);
    floor = low.floor;
  }
  low_after p (entry.Collect k f removed) fits le low = record {
    cells = λ a. low_collected (new_floor p f) (p.cells a) (low.cells a);
    past = low_past_over (new_floor p f) p.past p.cells (places p.regions) low.past low.cells;
    floor = let x : p.floor ≤ clock = low.floor in let y : least_pin f p.pins p.actors ≤ clock = least_low f p.pins p.actors le in omega arith;
  }
  low_after p e fits le low = low
