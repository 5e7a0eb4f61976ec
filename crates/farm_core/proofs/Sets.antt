-- Sets of addresses.
use Rattle.std.proofs.Common.{◌≡◌, ◌↔◌, Bool, true, false, cond, not, ◌&&◌, ◌||◌, List, [], ◌∷◌, length, ◌==◌, IsTrue, sym, refl, ap, ◌∙◌, arith}
use Rattle.std.proofs.lemmas.Bool.{eqb-true, eq-eqb, ne_eqb, false≢true}
use Rattle.std.specs.BTreeSet.{BTreeSet, btree_set_len}
use Rattle.std.specs.List.{list_any}
use Rattle.farm_core.proofs.Words.{Addr, same_addr, with_addr, ReadSet, marks, without_addr, reading, unread}
use Rattle.farm_node.proofs.Addresses.{addr_eq, same_self}

taken_back_at : (a b : Addr) (m : Addr → Bool) → m a ≡ false → without_addr a (with_addr a m) b ≡ m b
taken_back_at a b m none = by (same_addr a b) refl where
  by : (g : Bool) → same_addr a b ≡ g → (not g && (g || m b)) ≡ m b
  by true is = sym none ∙ ap m (addr_eq a b is)
  by false is = refl

pub taken_back : (a : Addr) (m : Addr → Bool) → m a ≡ false → without_addr a (with_addr a m) ≡ m
taken_back a m none = λ i b. taken_back_at a b m none i

put_again_at : (a b : Addr) (m : Addr → Bool) → m a ≡ true → with_addr a m b ≡ m b
put_again_at a b m there = by (same_addr a b) refl where
  by : (g : Bool) → same_addr a b ≡ g → (g || m b) ≡ m b
  by true is = sym there ∙ ap m (addr_eq a b is)
  by false is = refl

pub read_again : (a : Addr) (r : ReadSet) → r.read a ≡ true → r.unchecked a ≡ true → reading a r ≡ r
read_again a r there also = λ i. record { read = λ b. put_again_at a b r.read there i; unchecked = λ b. put_again_at a b r.unchecked also i }

none_in : (keys : List Addr) → length keys ≡ 0 → (a : Addr) → list_any (same_addr a) keys ≡ false
none_in [] empty a = refl
none_in (k ∷ ks) empty a = absurd (omega arith)

no_key : (keys : List Addr) → ((a : Addr) → list_any (same_addr a) keys ≡ false) → length keys ≡ 0
no_key [] none = refl
no_key (k ∷ ks) none = let here : (same_addr k k || list_any (same_addr k) ks) ≡ false = none k in let self : same_addr k k ≡ true = same_self k in absurd (grind arith)

pub empty_iff : (s : BTreeSet Addr) (b : Bool) → (IsTrue b ↔ (btree_set_len s ≡ 0)) → b ≡ (btree_set_len s == 0)
empty_iff s true is = sym (eq-eqb (btree_set_len s) 0 (is.0 refl))
empty_iff s false is = sym (ne_eqb (btree_set_len s) 0 (λ none. absurd (false≢true (is.1 none))))

pub none_left : (s : BTreeSet Addr) → (btree_set_len s == 0) ≡ true → (a : Addr) → marks s a ≡ false
none_left s none = none_in s.keys (eqb-true (btree_set_len s) 0 none)

pub left_none : (s : BTreeSet Addr) → ((a : Addr) → marks s a ≡ false) → (btree_set_len s == 0) ≡ true
left_none s none = eq-eqb (btree_set_len s) 0 (no_key s.keys none)

pub restored : (a : Addr) (read between after unchecked later : BTreeSet Addr) → marks read a ≡ marks unchecked a → marks unchecked a ≡ false → marks between ≡ with_addr a (marks read)
    → marks after ≡ without_addr a (marks between) → marks later ≡ marks unchecked
    → (let old : ReadSet = record { read = marks read; unchecked = marks unchecked } in let new : ReadSet = record { read = marks after; unchecked = marks later } in new ≡ old)
restored a read between after unchecked later same absent put taken still =
    let back : marks after ≡ marks read = taken ∙ (ap (without_addr a) put ∙ taken_back a (marks read) (same ∙ absent)) in
    λ i. record { read = back i; unchecked = still i }

-- an address that was put in, and taken out again where it was new
pub undone_if : (a : Addr) (new : Bool) (r between later : ReadSet) → r.read a ≡ r.unchecked a → new ≡ not (r.read a) → between ≡ reading a r → later ≡ cond new (unread a between) between → later ≡ r
undone_if a new r between later same is put taken = by (r.read a) refl where
  by : (b : Bool) → r.read a ≡ b → later ≡ r
  by true there = taken ∙ (ap (λ (n : Bool). cond n (unread a between) between) (is ∙ ap not there) ∙ (put ∙ read_again a r there (sym same ∙ there)))
  by false none = taken ∙ (ap (λ (n : Bool). cond n (unread a between) between) (is ∙ ap not none) ∙ (ap (unread a) put ∙ (λ i. record { read = taken_back a r.read none i; unchecked = taken_back a r.unchecked (sym same ∙ none) i })))
