-- What has to wait for collections, what a collection finds where nothing waits for it, and the places of the locks.
use Rattle.farm_node.proofs.Common.{◌≡◌, ℕ, ◌+◌, ◌<◌, ◌≤◌, nat_le, cond, Bool, true, false, not, ◌&&◌, ◌||◌, List, [], ◌∷◌, Option, Some, None, sym, refl, ap, ◌∙◌, subst}
use Rattle.farm_node.proofs.Common.{⊎_elim, arith, cond_both, cond-false, and_parts, leb-true, or_left, or_right, or_cases, both_ways, and_right, not-true, eqb-true, cases_Bool}
use Rattle.farm_node.proofs.Common.{BTreeMap, WritesThrough, is_at, lookup, values_of, Addr, same_addr, addr_order, Version, newest, cut, Cell, is_open, is_absent, is_gone, goes}
use Rattle.farm_node.proofs.Common.{collected, installed, pending_of, set_cell, cells_of, goes_there, versions_there, leaves_old, IsTracked, olds_wait, absent_waits, waits_there}
use Rattle.farm_node.proofs.Common.{is_newest_absent, is_mark, held_in, held_there, lock_count, ◌-◌, ◌==◌, eq-eqb, Result, Ok, Err, OnOk, OnErr, Memory, TxnId, Hold, Bytes, locked_by}
use Rattle.std.specs.BTreeMap.{insert_entry}
use Rattle.std.specs.List.{sum_by}
use Rattle.std.specs.Map.{remove_entry}
use Rattle.std.specs.Option.{option_map, unwrap_or}
use Rattle.std.specs.Ordering.{match_ordering, is_eq}
use Rattle.std.specs.declared.cmp.Ordering.{Ordering}
use Rattle.std.specs.declared.cmp.Ordering.TheVariants.{Less, Equal, Greater}
use Rattle.std.proofs.lemmas.Bool.{and_from, and_cases, and_left, leb-false}
use Rattle.farm_node.specs.Waiting.{Waits, Mark, marked, listed_in}
use Rattle.std.proofs.Common.{is_ok}
use Rattle.std.proofs.lemmas.List.Sums.{sum_by-cons}
use Rattle.std.proofs.lemmas.Map.Entries.{sum_by-set_value, sum_by-remove_entry}
use Rattle.farm_node.proofs.Addresses.{same_self, set_cases}

-- more addresses wait

module _ (listed listed' : ℕ → Bool) (more : (s : ℕ) → listed s ≡ true → listed' s ≡ true) where
  pub olds_more : (vs : List Version) → olds_wait listed vs ≡ true → olds_wait listed' vs ≡ true
  olds_more [] e = refl
  olds_more (v ∷ []) e = refl
  olds_more (v ∷ (u ∷ vs)) e =
      let parts = and_parts (listed v.0) (olds_wait listed (u ∷ vs)) e in
      and_from (listed' v.0) (olds_wait listed' (u ∷ vs)) (more v.0 parts.0) (olds_more (u ∷ vs) parts.1)

  waits_more : (o : Option Cell) → waits_there listed o ≡ true → waits_there listed' o ≡ true
  waits_more None e = refl
  waits_more (Some c) e =
      let parts = and_parts (olds_wait listed c.versions) (absent_waits listed c.versions) e in
      and_from (olds_wait listed' c.versions) (absent_waits listed' c.versions) (olds_more c.versions parts.0)
      (⊎_elim (λ value. or_left _ _ value) (λ waits. or_right _ _ (more (newest c.versions) waits)) (or_cases (not (is_newest_absent c.versions)) (listed (newest c.versions)) parts.1))

module _ (cells cells' : Addr → Option Cell) (listed : ℕ → Addr → Bool) (a : Addr) where
  pub tracked_set : (c : Option Cell) → IsTracked cells listed → cells' ≡ set_cell a c cells → waits_there (λ s. listed s a) c ≡ true → IsTracked cells' listed
  tracked_set c tracked e here = subst (λ (z : Addr → Option Cell). IsTracked z listed) (sym e)
      (λ b. set_cases (λ z d. waits_there (λ s. listed s z) d ≡ true) a b c cells here (λ apart. tracked b))

  -- a change that leaves the versions as they were
  pub tracked_kept : (c w : Cell) → IsTracked cells listed → Some c ≡ cells a → cells' ≡ set_cell a (Some w) cells → w.versions ≡ c.versions → IsTracked cells' listed
  tracked_kept c w tracked there e same = tracked_set (Some w) tracked e
      (ap (λ (vs : List Version). olds_wait (λ s. listed s a) vs && absent_waits (λ s. listed s a) vs) same
      ∙ (ap (waits_there (λ s. listed s a)) there ∙ tracked a))

  -- a put, whose address waits where it leaves something to collect
  module _ (listed' : ℕ → Addr → Bool) (w : ℕ) (more : (s : ℕ) (b : Addr) → listed s b ≡ true → listed' s b ≡ true) where
    installed_waits : (c : Cell) → waits_there (λ s. listed s a) (Some c) ≡ true → (leaves_old c ≡ true → listed' w a ≡ true) → waits_there (λ s. listed' s a) (installed w (Some c)) ≡ true
    installed_waits c waits left = at c.versions refl left (and_parts _ _ waits).0 where
      at : (vs : List Version) → c.versions ≡ vs → ((not (elim vs as (λ _. Bool) [ [] ↦ true | v ∷ vs ↦ false ]) || is_absent (pending_of c.lock)) ≡ true → listed' w a ≡ true)
          → olds_wait (λ s. listed s a) vs ≡ true
          → (olds_wait (λ s. listed' s a) ((w, pending_of c.lock) ∷ vs) && absent_waits (λ s. listed' s a) ((w, pending_of c.lock) ∷ vs)) ≡ true
      at [] is left olds = elim (is_absent (pending_of c.lock)) as (λ g. ((false || g) ≡ true → listed' w a ≡ true) → (not g || listed' w a) ≡ true) [ true ↦ λ left. left refl | false ↦ λ left. refl ] left
      at (v ∷ vs) is left olds =
          let here : listed' w a ≡ true = left refl in
          and_from _ _ (and_from _ _ here (olds_more (λ s. listed s a) (λ s. listed' s a) (λ s. more s a) (v ∷ vs) olds)) (or_right _ _ here)

    pub tracked_put : (c : Cell) → IsTracked cells listed → Some c ≡ cells a → cells' ≡ set_cell a (installed w (Some c)) cells → (leaves_old c ≡ true → listed' w a ≡ true) → IsTracked cells' listed'
    tracked_put c tracked there e left = subst (λ (z : Addr → Option Cell). IsTracked z listed') (sym e)
        (λ b. set_cases (λ z d. waits_there (λ s. listed' s z) d ≡ true) a b (installed w (Some c)) cells
        (installed_waits c (ap (waits_there (λ s. listed s a)) there ∙ tracked a) left)
        (λ apart. waits_more (λ s. listed s b) (λ s. listed' s b) (λ s. more s b) (cells b) (tracked b)))

-- what is collected at a floor waits for higher ones alone

module _ (listed listed' : ℕ → Bool) (floor : ℕ) (high : (s : ℕ) → listed s ≡ true → floor < s → listed' s ≡ true) where
  front : (v : Version) (vs : List Version) → listed' v.0 ≡ true → olds_wait listed' vs ≡ true → olds_wait listed' (v ∷ vs) ≡ true
  front v [] here olds = refl
  front v (u ∷ vs) here olds = and_from _ _ here olds

  olds_cut : (vs : List Version) → olds_wait listed vs ≡ true → olds_wait listed' (cut floor vs) ≡ true
  olds_cut [] e = refl
  olds_cut (v ∷ []) e = cond_both (nat_le v.0 floor) (v ∷ []) (v ∷ []) (λ l. olds_wait listed' l ≡ true) (λ is. refl) (λ is. refl)
  olds_cut (v ∷ (u ∷ vs)) e =
      let parts = and_parts (listed v.0) (olds_wait listed (u ∷ vs)) e in
      cond_both (nat_le v.0 floor) (v ∷ []) (v ∷ cut floor (u ∷ vs)) (λ l. olds_wait listed' l ≡ true) (λ is. refl)
      (λ above. front v (cut floor (u ∷ vs)) (high v.0 parts.0 (leb-false v.0 floor above)) (olds_cut (u ∷ vs) parts.1))

  absent_cut : (vs : List Version) → absent_waits listed vs ≡ true → is_gone floor vs ≡ false → absent_waits listed' (cut floor vs) ≡ true
  absent_cut [] e stays = refl
  absent_cut (v ∷ vs) e stays = cond_both (nat_le v.0 floor) (v ∷ []) (v ∷ cut floor vs) (λ l. absent_waits listed' l ≡ true) (λ is. here) (λ is. here) where
    here : (not (is_absent v.1) || listed' v.0) ≡ true
    here = ⊎_elim (λ value. or_left _ _ value)
        (λ waits. ⊎_elim (λ above. or_right _ _ (high v.0 waits (leb-false v.0 floor above))) (λ value. or_left _ _ (ap not value)) (and_cases (nat_le v.0 floor) (is_absent v.1) stays))
        (or_cases (not (is_absent v.1)) (listed v.0) e)

  pub collected_waits : (o : Option Cell) → waits_there listed o ≡ true → is_gone floor (versions_there o) ≡ goes_there floor o → waits_there listed' (collected floor o) ≡ true
  collected_waits None e whole = refl
  collected_waits (Some c) e whole =
      let parts = and_parts (olds_wait listed c.versions) (absent_waits listed c.versions) e in
      cond_both (goes floor c) None (Some (record c { versions = cut floor c.versions })) (λ o. waits_there listed' o ≡ true) (λ is. refl)
      (λ stays. and_from _ _ (olds_cut c.versions parts.0) (absent_cut c.versions parts.1 (whole ∙ stays)))

mark_elsewhere : (k n : ℕ) (a b : Addr) → same_addr a b ≡ false → is_mark k a n b ≡ false
mark_elsewhere k n a b apart = and_right _ _ apart

mark_above : (k n : ℕ) (a b : Addr) → k < n → is_mark k a n b ≡ false
mark_above k n a b above = ⊎_elim (λ is. let e : k ≡ n = eqb-true k n (and_parts _ _ is).0 in absurd (omega arith)) (λ other. other) (cases_Bool (is_mark k a n b))

pub tracked_swept : (cells cells' : Addr → Option Cell) (listed listed' : ℕ → Addr → Bool) (a : Addr) (k floor : ℕ) → IsTracked cells listed → k ≤ floor
    → listed ≡ (λ n b. is_mark k a n b || listed' n b) → is_gone floor (versions_there (cells a)) ≡ goes_there floor (cells a)
    → cells' ≡ set_cell a (collected floor (cells a)) cells → IsTracked cells' listed'
tracked_swept cells cells' listed listed' a k floor tracked low taken whole e = subst (λ (z : Addr → Option Cell). IsTracked z listed') (sym e)
    (λ b. set_cases (λ z d. waits_there (λ s. listed' s z) d ≡ true) a b (collected floor (cells a)) cells
    (collected_waits (λ s. listed s a) (λ s. listed' s a) floor (λ s waits above. left s a (mark_above k s a a (omega arith)) waits) (cells a) (tracked a) whole)
    (λ apart. waits_more (λ s. listed s b) (λ s. listed' s b) (λ s waits. left s b (mark_elsewhere k s a b apart) waits) (cells b) (tracked b))) where
      left : (n : ℕ) (b : Addr) → is_mark k a n b ≡ false → listed n b ≡ true → listed' n b ≡ true
      left n b other waits = ap (λ (g : Bool). g || listed' n b) (sym other) ∙ ((λ i. sym taken i n b) ∙ waits)

-- where nothing waits for a floor, a collection at it changes nothing

module _ (listed : ℕ → Bool) (floor : ℕ) (none : (s : ℕ) → s ≤ floor → listed s ≡ false) where
  high : (s : ℕ) → listed s ≡ true → nat_le s floor ≡ false
  high s waits = ⊎_elim (λ low. absurd (both_ways (listed s) (none s (leb-true s floor low)) waits)) (λ above. above) (cases_Bool (nat_le s floor))

  cut_fixed : (vs : List Version) → olds_wait listed vs ≡ true → cut floor vs ≡ vs
  cut_fixed [] e = refl
  cut_fixed (v ∷ []) e = cond_both (nat_le v.0 floor) (v ∷ []) (v ∷ []) (λ l. l ≡ v ∷ []) (λ is. refl) (λ is. refl)
  cut_fixed (v ∷ (u ∷ vs)) e =
      let parts = and_parts (listed v.0) (olds_wait listed (u ∷ vs)) e in
      cond-false (nat_le v.0 floor) (v ∷ []) (v ∷ cut floor (u ∷ vs)) (high v.0 parts.0) ∙ ap (λ (l : List Version). v ∷ l) (cut_fixed (u ∷ vs) parts.1)

  gone_fixed : (vs : List Version) → absent_waits listed vs ≡ true → is_gone floor vs ≡ false
  gone_fixed [] e = refl
  gone_fixed (v ∷ vs) e = ⊎_elim (λ value. and_right (nat_le v.0 floor) (is_absent v.1) (not-true (is_absent v.1) value))
      (λ waits. and_left (nat_le v.0 floor) (is_absent v.1) (high v.0 waits)) (or_cases (not (is_absent v.1)) (listed v.0) e)

  pub nothing_due : (o : Option Cell) → waits_there listed o ≡ true → collected floor o ≡ o
  nothing_due None e = refl
  nothing_due (Some c) e =
      let parts = and_parts (olds_wait listed c.versions) (absent_waits listed c.versions) e in
      cond-false (goes floor c) None (Some (record c { versions = cut floor c.versions })) (and_right (is_open c.lock) (is_gone floor c.versions) (gone_fixed c.versions parts.1))
      ∙ ap (λ (l : List Version). Some (record c { versions = l })) (cut_fixed c.versions parts.0)

-- how many locks there are, where one object changes, comes or goes

module _ (objects later : BTreeMap Addr Cell) (a : Addr) where
  pub locks_written : (c w : Cell) → Some c ≡ cells_of objects a → WritesThrough addr_order (addr_order a) objects w later
      → lock_count later + held_in c ≡ lock_count objects + held_in w
  locks_written c w there h = ap (λ (es : List (Addr × Cell)). sum_by held_in (values_of es) + held_in c) h.0
      ∙ sum_by-set_value held_in (is_at (addr_order a)) objects.entries c w (sym there)

  -- a change that leaves the lock as it was
  pub locks_kept : (c w : Cell) (n : ℕ) → Some c ≡ cells_of objects a → WritesThrough addr_order (addr_order a) objects w later → held_in w ≡ held_in c → n ≡ lock_count objects
      → n ≡ lock_count later
  locks_kept c w n there h same is = let moved = locks_written c w there h in omega arith

  inserted : (c : Cell) (es : List (Addr × Cell)) → lookup (is_at (addr_order a)) es ≡ None
      → sum_by held_in (values_of (insert_entry addr_order es a c)) ≡ sum_by held_in (values_of es) + held_in c
  inserted c [] none = refl
  inserted c (e ∷ es) none = at (addr_order a e.0) none (inserted c es) where
    at : (o : Ordering) → cond (is_eq o) (Some e.1) (lookup (is_at (addr_order a)) es) ≡ None
        → (lookup (is_at (addr_order a)) es ≡ None → sum_by held_in (values_of (insert_entry addr_order es a c)) ≡ sum_by held_in (values_of es) + held_in c)
        → sum_by held_in (values_of (match_ordering o ((a, c) ∷ e ∷ es) ((e.0, c) ∷ es) (e ∷ insert_entry addr_order es a c))) ≡ sum_by held_in (e.1 ∷ values_of es) + held_in c
    at Less none rest =
        let front = sum_by-cons held_in c (e.1 ∷ values_of es) in
        let moved : sum_by held_in (c ∷ (e.1 ∷ values_of es)) ≡ sum_by held_in (e.1 ∷ values_of es) + held_in c = omega (arith, front) in
        moved
    at Equal none rest = absurd (cc)
    at Greater none rest =
        let old = sum_by-cons held_in e.1 (values_of es) in
        let new = sum_by-cons held_in e.1 (values_of (insert_entry addr_order es a c)) in
        let more : sum_by held_in (values_of (insert_entry addr_order es a c)) ≡ sum_by held_in (values_of es) + held_in c = rest none in
        let behind : sum_by held_in (e.1 ∷ values_of (insert_entry addr_order es a c)) ≡ sum_by held_in (e.1 ∷ values_of es) + held_in c = omega (arith, old, new, more) in
        behind

  pub locks_inserted : (c : Cell) → cells_of objects a ≡ None → later.entries ≡ insert_entry addr_order objects.entries a c → lock_count later ≡ lock_count objects + held_in c
  locks_inserted c none e = ap (λ (es : List (Addr × Cell)). sum_by held_in (values_of es)) e ∙ inserted c objects.entries none

  weight : (o : Option Cell) → unwrap_or (option_map held_in o) 0 ≡ held_there o
  weight None = refl
  weight (Some c) = refl

  pub locks_removed : later.entries ≡ remove_entry (is_at (addr_order a)) objects.entries → lock_count later + held_there (cells_of objects a) ≡ lock_count objects
  locks_removed e = ap (λ (es : List (Addr × Cell)). sum_by held_in (values_of es) + held_there (cells_of objects a)) e
      ∙ (ap (λ (n : ℕ). sum_by held_in (values_of (remove_entry (is_at (addr_order a)) objects.entries)) + n) (sym (weight (cells_of objects a)))
      ∙ sum_by-remove_entry held_in (is_at (addr_order a)) objects.entries)

-- what is locked has a place
pub some_lock : (objects : BTreeMap Addr Cell) (a : Addr) (n : ℕ) → n ≡ lock_count objects → held_there (cells_of objects a) ≡ 1 → 0 < n
some_lock objects a n same held =
    let all : sum_by held_in (values_of (remove_entry (is_at (addr_order a)) objects.entries)) + unwrap_or (option_map held_in (cells_of objects a)) 0 ≡ lock_count objects
    = sum_by-remove_entry held_in (is_at (addr_order a)) objects.entries in
    let here : unwrap_or (option_map held_in (cells_of objects a)) 0 ≡ held_there (cells_of objects a) = weight objects objects a (cells_of objects a) in
    omega arith

-- what a place that is given back adds
pub settles : (listed listed' : ℕ → Addr → Bool) (w : ℕ) (a : Addr) (waits : Bool) → listed' ≡ (λ n b. (waits && is_mark w a n b) || listed n b)
    → ((s : ℕ) (b : Addr) → listed s b ≡ true → listed' s b ≡ true) × (waits ≡ true → listed' w a ≡ true)
settles listed listed' w a waits e = (
  (λ s b is. (λ i. e i s b) ∙ or_right (waits && is_mark w a s b) (listed s b) is),
  (λ is. (λ i. e i w a) ∙ or_left (waits && is_mark w a w a) (listed w a) (and_from waits (is_mark w a w a) is (and_from (w == w) (same_addr a a) (eq-eqb w w refl) (same_self a)))),
)

pub held_by : (o : Option Cell) (c : Cell) (h : Hold) → o ≡ Some c → c.lock ≡ Some h → held_there o ≡ 1
held_by o c h is lock = ap held_there is ∙ ap (λ (l : Option Hold). cond (is_open l) 0 1) lock

pub none_held : (o : Option Cell) → None ≡ o → held_there o ≡ 1 → ⊥
none_held o none held = let e : held_there o ≡ 0 = ap held_there (sym none) in omega arith

pub installed_open : (w : ℕ) (c d : Cell) → Some d ≡ installed w (Some c) → held_in d ≡ 0
installed_open w c d e = ap held_there e

pub valued_there : (c : Cell) (o : Option Cell) → Some c ≡ o → is_newest_absent (versions_there o) ≡ false → is_newest_absent c.versions ≡ false
valued_there c o there e = ap (λ (z : Option Cell). is_newest_absent (versions_there z)) there ∙ e

module _ (objects later : BTreeMap Addr Cell) (a : Addr) where
  -- a lock that ends gives its place back
  pub locks_ended : (c w : Cell) (n m : ℕ) → Some c ≡ cells_of objects a → WritesThrough addr_order (addr_order a) objects w later → held_there (cells_of objects a) ≡ 1 → held_in w ≡ 0
      → n ≡ lock_count objects → m ≡ n - 1 → m ≡ lock_count later
  locks_ended c w n m there h held free was is =
      let moved = locks_written objects later a c w there h in
      let one : held_in c ≡ 1 = ap held_there there ∙ held in
      omega arith

  pub locks_gone : (o : Option Cell) (n m : ℕ) → o ≡ cells_of objects a → lock_count later + held_there o ≡ lock_count objects → held_there (cells_of objects a) ≡ 1
      → n ≡ lock_count objects → m ≡ n - 1 → m ≡ lock_count later
  locks_gone o n m there gone held was is = let one : held_there o ≡ 1 = ap held_there there ∙ held in omega arith

-- where the same waits

pub tracked_as : (cells : Addr → Option Cell) (W W' : Waits) → IsTracked cells (marked W) → W'.marks ≡ W.marks → IsTracked cells (marked W')
tracked_as cells W W' tracked same = subst (λ (marks : List Mark). IsTracked cells (listed_in marks)) (sym same) tracked

pub tracked_same : (cells cells' : Addr → Option Cell) (listed : ℕ → Addr → Bool) → IsTracked cells listed → cells' ≡ cells → IsTracked cells' listed
tracked_same cells cells' listed tracked same = subst (λ (z : Addr → Option Cell). IsTracked z listed) (sym same) tracked

-- an object that was inserted without a lock, or was not
pub locks_loaded : (objects later : BTreeMap Addr Cell) (c : Cell) (result : Result (Unit {0}) Memory) (n : ℕ) → n ≡ lock_count objects → held_in c ≡ 0
    → lock_count later ≡ lock_count objects + cond (is_ok result) (held_in c) 0 → n ≡ lock_count later
locks_loaded objects later c (Ok u) n was free now = omega arith
locks_loaded objects later c (Err m) n was free now = omega arith

-- a lock that is given takes one

at_most_one : (c : Cell) → held_in c ≤ 1
at_most_one c = elim (is_open c.lock) as (λ g. cond g 0 1 ≤ 1) [ true ↦ omega arith | false ↦ omega arith ]

module _ (objects later : BTreeMap Addr Cell) (a : Addr) (t : TxnId) (new : Option Bytes) (c w : Cell) (W W' : Waits) (there : Some c ≡ cells_of objects a) where
  abbrev Locks : Type 0
  Locks = (Some w ≡ locked_by t new (Some c)) × (W' ≡ record W { reserved = W.reserved + (1 - held_in c) })

  abbrev Leaves : Type 0
  Leaves = (w ≡ c) × (W' ≡ W)

  pub hold_lists : (result : Result (Unit {0}) Memory) → IsTracked (cells_of objects) (marked W) → cells_of later ≡ set_cell a (Some w) (cells_of objects) → OnOk result Locks → OnErr result Leaves
      → IsTracked (cells_of later) (marked W')
  hold_lists (Ok u) tracked e ok err = subst (λ (z : Waits). IsTracked (cells_of later) (marked z)) (sym ok.1)
      (tracked_kept (cells_of objects) (cells_of later) (marked W) a c w tracked there e (ap versions_there ok.0))
  hold_lists (Err m) tracked e ok err = subst (λ (z : Waits). IsTracked (cells_of later) (marked z)) (sym err.1)
      (tracked_kept (cells_of objects) (cells_of later) (marked W) a c w tracked there e (ap (λ (x : Cell). x.versions) err.0))

  pub locks_held : (result : Result (Unit {0}) Memory) → WritesThrough addr_order (addr_order a) objects w later → OnOk result Locks → OnErr result Leaves → W.reserved ≡ lock_count objects
      → W'.reserved ≡ lock_count later
  locks_held (Ok u) h ok err was =
      let moved = locks_written objects later a c w there h in
      let one : held_in w ≡ 1 = ap held_there ok.0 in
      let most = at_most_one c in
      let now : W'.reserved ≡ W.reserved + (1 - held_in c) = ap (λ (z : Waits). z.reserved) ok.1 in
      omega arith
  locks_held (Err m) h ok err was =
      ap (λ (z : Waits). z.reserved) err.1 ∙ locks_kept objects later a c w W.reserved there h (ap held_in err.0) was
