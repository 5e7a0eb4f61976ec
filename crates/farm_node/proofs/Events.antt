-- Events on one cell, as entries of the node.
use Rattle.farm_node.proofs.Common.{◌≡◌, ℕ, max, Option, Some, None, Result, Ok, Err, OnOk, OnErr, sym, ap, ◌∙◌, Memory, Addr, TxnId, IsStamp, Found}
use Rattle.farm_node.proofs.Common.{CheckFault, Check, Cell, read_answer, raised_to, past_raised, check_answer, held_in, NodeState, set_cell, PinnedBy}
use Rattle.farm_node.proofs.Common.{HeldBy, looked_at, after, Adds}
use Rattle.farm_node.specs.declared.faults.ReadFault.{ReadFault}
use Rattle.farm_node.specs.declared.faults.ReadFault.TheVariants.{Held as ReadHeld, Memory as NoReadMemory}
use Rattle.farm_node.specs.Answers.{read_entry, ReadsCell, AddsIfMade}
use Rattle.farm_node.specs.Waiting.{Waits}
use Rattle.farm_node.proofs.CellMaps.{cells_same, unset}
use Rattle.farm_node.proofs.Sound.{pinned}

pub reads_versions : (s : ℕ) (c w : Cell) (result : Result Found ReadFault) → ReadsCell s c result w → w.versions ≡ c.versions
reads_versions s c w (Ok found) reads = ap (λ (x : Cell). x.versions) reads.1
reads_versions s c w (Err (ReadHeld by)) reads = ap (λ (x : Cell). x.versions) reads.1
reads_versions s c w (Err NoReadMemory) same = ap (λ (x : Cell). x.versions) same

pub check_versions : (v : ℕ) (c w : Cell) (result : Result (Unit {0}) CheckFault) → OnOk result (w ≡ record c { bound = max c.bound v }) → OnErr result (w ≡ c) → w.versions ≡ c.versions
check_versions v c w (Ok u) same other = ap (λ (x : Cell). x.versions) same
check_versions v c w (Err f) same other = ap (λ (x : Cell). x.versions) other

pub reads_locks : (s : ℕ) (c w : Cell) (result : Result Found ReadFault) → ReadsCell s c result w → held_in w ≡ held_in c
reads_locks s c w (Ok found) reads = ap held_in reads.1
reads_locks s c w (Err (ReadHeld by)) reads = ap held_in reads.1
reads_locks s c w (Err NoReadMemory) same = ap held_in same

pub check_locks : (v : ℕ) (c w : Cell) (result : Result (Unit {0}) CheckFault) → OnOk result (w ≡ record c { bound = max c.bound v }) → OnErr result (w ≡ c) → held_in w ≡ held_in c
check_locks v c w (Ok u) same other = ap held_in same
check_locks v c w (Err f) same other = ap held_in other

module _ (p : NodeState) (cells : Addr → Option Cell) (a : Addr) where
  abbrev new : NodeState
  new = record p { cells = cells }

  -- what a read or a check leaves, where an object is there
  looked_there : (s : ℕ) (c w : Cell) → Some c ≡ p.cells a → cells ≡ set_cell a (Some w) p.cells → w ≡ record c { bound = max c.bound s } → new ≡ looked_at a s p
  looked_there s c w there e is = (λ i. record p { cells = e i }) ∙ ((λ i. record p { cells = set_cell a (Some (is i)) p.cells })
      ∙ (λ i. record p { cells = set_cell a (raised_to s (there i)) p.cells; past = past_raised s (there i) p.past }))

  unchanged : (c w : Cell) → Some c ≡ p.cells a → cells ≡ set_cell a (Some w) p.cells → w ≡ c → new ≡ p
  unchanged c w there e is = λ i. record p { cells = cells_same p.cells cells a c w there e is i }

  pub read_there : (k s : ℕ) (c w : Cell) (result : Result Found ReadFault) → Some c ≡ p.cells a → cells ≡ set_cell a (Some w) p.cells
      → ReadsCell s c result w → PinnedBy p k s → IsStamp s → AddsIfMade p (read_entry k a s result) new
  read_there k s c w (Ok found) there e reads pinned stamp = record { fits = (pinned, stamp, reads.0 ∙ ap (read_answer s) there); state = looked_there s c w there e reads.1 }
  read_there k s c w (Err (ReadHeld by)) there e reads pinned stamp = record { fits = (pinned, stamp, reads.0 ∙ ap (read_answer s) there); state = unchanged c w there e reads.1 }
  read_there k s c w (Err NoReadMemory) there e same pinned stamp = unchanged c w there e same

  pub check_there : (t : TxnId) (r v : ℕ) (c w : Cell) (result : Result (Unit {0}) CheckFault) → Some c ≡ p.cells a → cells ≡ set_cell a (Some w) p.cells
      → result ≡ check_answer r (Some c) → OnOk result (w ≡ record c { bound = max c.bound v }) → OnErr result (w ≡ c)
      → PinnedBy p t.actor r → IsStamp r × IsStamp v → (HeldBy p t a → ⊥) → Adds p (Check t a r v result) new
  check_there t r v c w result there e due same other pinned stamps not_own =
      record { fits = record { pinned = pinned; stamps = stamps; not_own = not_own; due = due ∙ ap (check_answer r) there }; state = by result same other } where
        by : (result : Result (Unit {0}) CheckFault) → OnOk result (w ≡ record c { bound = max c.bound v }) → OnErr result (w ≡ c) → new ≡ after p (Check t a r v result)
        by (Ok u) same other = looked_there v c w there e same
        by (Err f) same other = unchanged c w there e other

  pub hold_refused : (c w : Cell) (W W' : Waits) (result : Result (Unit {0}) Memory) → Some c ≡ p.cells a → cells ≡ set_cell a (Some w) p.cells → OnErr result ((w ≡ c) × (W' ≡ W)) → OnErr result (new ≡ p)
  hold_refused c w W W' (Ok u) there e err = tt
  hold_refused c w W W' (Err m) there e err = unchanged c w there e err.0

-- and where none is
pub check_nowhere : (p : NodeState) (cells : Addr → Option Cell) (past : ℕ) (a : Addr) (t : TxnId) (r v : ℕ) → None ≡ p.cells a → cells ≡ p.cells → past ≡ max p.past v
    → PinnedBy p t.actor r → IsStamp r × IsStamp v → (HeldBy p t a → ⊥) → Adds p (Check t a r v (Ok tt)) (record p { cells = cells; past = past })
check_nowhere p cells past a t r v none same rose pinned stamps not_own = record {
  fits = record { pinned = pinned; stamps = stamps; not_own = not_own; due = ap (check_answer r) none };
  state = (λ i. record p { cells = same i; past = rose i }) ∙ ((λ i. record p { cells = sym (unset a p.cells (sym none)) i; past = max p.past v })
      ∙ (λ i. record p { cells = set_cell a (raised_to v (none i)) p.cells; past = past_raised v (none i) p.past }));
}
